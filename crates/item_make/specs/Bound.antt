-- The staging buffers that an item uses: the whole of each stands once among the batch's staging ranges.
use Rattle.std.specs.Prelude.{◌≡◌, ℕ, cond, List, [], ◌∷◌, Option, Some, None, IsSome}
use Rattle.std.specs.List.{AllByRecursion}
use Rattle.dx_types.specs.declared.range.Range.{Range}
use Rattle.dx_types.specs.declared.range.ResRange.{ResRange}
use Rattle.dx_types.specs.declared.shape.Shape.{Shape}
use Rattle.base_lemmas.specs.IdMap as ids
use Rattle.vk_types.specs.Memory.{or_zero}
use Rattle.core_model.specs.Script.{Script}
use Rattle.d3d_model.specs.D3dState.{Objects, buffer_of}
use Rattle.d3d_model.specs.Past.{Past}
use Rattle.d3d_model.specs.Resource.{is_staging}
use Rattle.log_script.specs.Makers.{maker}
use Rattle.batch_make.specs.Making.{with_whole}
use Rattle.item_work.specs.Placed.{IdBlocks}

-- a buffer in this block is used
abbrev pub with_buffer : ℕ → Option Shape → List Range → List Range
with_buffer block None staging = staging
with_buffer block (Some shape) staging = cond (is_staging shape.usage) (with_whole block shape.size staging) staging

abbrev pub with_range : IdBlocks → Objects → List Range → ResRange → List Range
with_range named o staging r = with_buffer (or_zero (ids.get named r.res)) (buffer_of o r.res) staging

-- these ranges are bound, one after another
abbrev pub with_ranges : IdBlocks → Objects → List ResRange → List Range → List Range
with_ranges named o [] staging = staging
with_ranges named o (r ∷ rs) staging = with_ranges named o rs (with_range named o staging r)

-- the script has the size of each live buffer, and whether it is a staging buffer
pub record Sized (script : Script) (past : Past) (o : Objects) : Type 0 where
  pub size : (id : ℕ) (shape : Shape) → buffer_of o id ≡ Some shape → script.size (maker past id) ≡ shape.size
  pub staging : (id : ℕ) (shape : Shape) → buffer_of o id ≡ Some shape
      → script.is_staging (maker past id) ≡ is_staging shape.usage

-- each range is of a live buffer
abbrev pub AllLive : Objects → List ResRange → Type 0
AllLive o rs = AllByRecursion (λ r. IsSome (buffer_of o r.res)) rs
