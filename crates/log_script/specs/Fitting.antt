-- What is set and what lists hold lives, and its bytes lie inside their buffers.
use Rattle.std.specs.Prelude.{◌≡◌, ℕ, ◌+◌, ◌==◌, ◌<◌, ◌≤◌, true, ◌||◌, ⊤, List, [], ◌∷◌, Option, None, Some}
use Rattle.std.specs.List.{AllByRecursion}
use Rattle.dx_types.specs.declared.shape.Shape.{Shape}
use Rattle.dx_types.specs.declared.range.ResRange.{ResRange}
use Rattle.dx_types.specs.declared.limits.TheConstants.{CONSTANT_BUFFER, MAX_CONSTANT_SIZE}
use Rattle.base_lemmas.specs.Lists.{Pairwise}
use Rattle.call_log.specs.Call.{Call}
use Rattle.d3d_model.specs.Check.{has}
use Rattle.base_lemmas.specs.IdMap.{get}
use Rattle.d3d_model.specs.View.{view_range}
use Rattle.d3d_model.specs.Binding as binding
use Rattle.d3d_model.specs.Binding.{Bindings, BoundView, Predicate}
use Rattle.d3d_model.specs.D3dState.{Objects, Numbered, buffer_of}
use Rattle.d3d_model.specs.Verdict.{is_live_shader}
use Rattle.d3d_model.specs.Stream.{set_by, binds}

-- bytes of a live buffer: at least one, and none past its end
pub record LivesAndFits (o : Objects) (r : ResRange) : Type 0 where
  pub has_byte : r.from < r.to
  pub shape : Shape
  pub lives : buffer_of o r.res ≡ Some shape
  pub fits : r.to ≤ shape.size

-- ---- what is set

-- no shader, or a live one
abbrev pub ShaderLives : Objects → ℕ → Type 0
ShaderLives o id = (id == 0) || is_live_shader o id ≡ true

-- a constant slot shows as many bytes as one can, of a live buffer of constants that has a byte. It is cut to the
-- buffer as it is bound
pub record ConstantLives (o : Objects) (r : ResRange) : Type 0 where
  pub starts : r.from ≡ 0
  pub ends : r.to ≡ MAX_CONSTANT_SIZE
  pub shape : Shape
  pub lives : buffer_of o r.res ≡ Some shape
  pub has_byte : 0 < shape.size
  pub constants : has shape.bind CONSTANT_BUFFER ≡ true

abbrev pub ConstantFits : Objects → Option ResRange → Type 0
ConstantFits o None = ⊤
ConstantFits o (Some r) = ConstantLives o r

-- a set view is the live one of its id, and its bytes fit
pub record ViewLives (o : Objects) (v : BoundView) : Type 0 where
  pub lives : get o.views v.view ≡ Some v.shape
  pub fits : LivesAndFits o (view_range v.shape)

abbrev pub ViewFits : Objects → Option BoundView → Type 0
ViewFits o None = ⊤
ViewFits o (Some v) = ViewLives o v

-- a predicate's word
abbrev pub WordFits : Objects → Predicate → Type 0
WordFits o binding.Never = ⊤
WordFits o (binding.Query id value) = ⊤
WordFits o (binding.Word res offset value) = LivesAndFits o (record { res = res; from = offset; to = offset + 4 })

-- what is set on a context stays inside live objects
pub record SetFits (o : Objects) (b : Bindings) : Type 0 where
  pub shader : ShaderLives o b.shader
  pub constants : AllByRecursion (ConstantFits o) b.constants
  pub srvs : AllByRecursion (ViewFits o) b.srvs
  pub uavs : AllByRecursion (ViewFits o) b.uavs
  pub predicate : WordFits o b.predicate

-- two slots show views of two buffers, if both show one
abbrev pub Distinct : Option BoundView → Option BoundView → Type 0
Distinct None t = ⊤
Distinct (Some v) None = ⊤
Distinct (Some v) (Some w) = v.shape.res ≡ w.shape.res → ⊥

-- a buffer that is set for unordered access is set in no other view slot (Direct3D 11.3, hazards of the compute stage)
pub record ViewsApart (b : Bindings) : Type 0 where
  pub srvs : AllByRecursion (λ u. AllByRecursion (Distinct u) b.srvs) b.uavs
  pub uavs : Pairwise Distinct b.uavs

-- ---- the calls of a list

-- a call binds bytes of live buffers where these bindings are set, and they stay inside live objects
pub record CallFits (o : Objects) (b : Bindings) (c : Call) : Type 0 where
  pub binds : AllByRecursion (LivesAndFits o) (binds o b c)
  pub set : SetFits o b

-- each call of a list does, where the first one meets these bindings
abbrev pub ListFits : Objects → Bindings → List Numbered → Type 0
ListFits o b [] = ⊤
ListFits o b (c ∷ cs) = CallFits o b c.call × ListFits o (set_by o b c.call) cs
