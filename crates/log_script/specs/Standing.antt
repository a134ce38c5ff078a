-- What was checked of a call that its execution needs, beside the bytes that it binds.
use Rattle.std.specs.Prelude.{◌≡◌, ℕ, ◌+◌, ◌%◌, ◌<◌, ◌≤◌, ◌⊎◌, length, Some, ⊤}
use Rattle.dx_types.specs.declared.shape.Shape.{Shape}
use Rattle.dx_types.specs.declared.shape.ViewShape.{ViewShape}
use Rattle.dx_types.specs.declared.shape.Form.{Form}
use Rattle.dx_types.specs.declared.shape.Form.TheVariants.{Raw, Structured, Typed}
use Rattle.call_log.specs.Call as calls
use Rattle.call_log.specs.Call.{Call}
use Rattle.base_lemmas.specs.IdMap.{IdMap, get}
use Rattle.d3d_model.specs.Resource.{Buffers}
use Rattle.d3d_model.specs.D3dState.{Objects}

-- ---- calls

-- two live buffers, one for the target of a copy and another for its source
pub record TwoBuffers (buffers : Buffers) (target source : ℕ) : Type 0 where
  pub into : Shape
  pub from : Shape
  pub target_lives : get buffers target ≡ Some into
  pub source_lives : get buffers source ≡ Some from
  pub apart : target ≡ source → ⊥

-- a copy of a whole buffer has two of one size
pub record CopyStands (buffers : Buffers) (target source : ℕ) : Type 0 where
  pub both : TwoBuffers buffers target source
  pub same_size : both.into.size ≡ both.from.size

-- the view is live
abbrev pub LivesAsView : IdMap ViewShape → ℕ → Type 0
LivesAsView views view = (v : ViewShape) × (get views view ≡ Some v)

-- a map is of one of three modes, and its bytes lie in a live buffer
pub record MapStands (buffers : Buffers) (res mode end : ℕ) : Type 0 where
  pub is_mode : mode ≤ 2
  pub shape : Shape
  pub lives : get buffers res ≡ Some shape
  pub inside : end ≤ shape.size

abbrev pub CallStands : Objects → Call → Type 0
CallStands o (calls.Buffer id size usage bind misc stride bytes) = ⊤
CallStands o (calls.View view res kind form components first count) = ⊤
CallStands o (calls.CreateShader id words) = ⊤
CallStands o (calls.Query id sort) = ⊤
CallStands o (calls.Destroy class id) = ⊤
CallStands o (calls.SetShader id) = ⊤
CallStands o (calls.SetConstant slot res) = ⊤
CallStands o (calls.SetSrv slot view) = ⊤
CallStands o (calls.SetUav slot view) = ⊤
CallStands o calls.ClearState = ⊤
CallStands o (calls.Dispatch x y z) = ⊤
CallStands o (calls.DispatchIndirect res offset) = ⊤
CallStands o (calls.CopyRegion target target_offset source source_offset len) = TwoBuffers o.buffers target source
CallStands o (calls.Copy target source) = CopyStands o.buffers target source
CallStands o (calls.Update res offset bytes) = ⊤
CallStands o (calls.ClearUav view v0 v1 v2 v3) = LivesAsView o.views view
CallStands o (calls.SetPredication kind id offset value) = ⊤
CallStands o (calls.Begin query) = ⊤
CallStands o (calls.EndQuery query) = ⊤
CallStands o (calls.MapWrite res mode offset bytes) = MapStands o.buffers res mode (offset + length bytes)
CallStands o (calls.MapRead res flag offset len) = ⊤
CallStands o (calls.GetData query flag) = ⊤
CallStands o calls.Flush = ⊤
CallStands o (calls.FinishList list) = ⊤
CallStands o (calls.ExecuteList list flag) = ⊤
CallStands o (calls.Draw kind body) = ⊤

-- ---- views

-- elements of so many bytes are whole words: a raw view's are one word, a structured one's as many as the stride has,
-- and a typed one's 1, 2 or 4
abbrev pub WholeUnit : Form → ℕ → Type 0
WholeUnit Raw unit = unit ≡ 4
WholeUnit Structured unit = (unit % 4 ≡ 0) × (4 ≤ unit)
WholeUnit Typed unit = (unit ≡ 4) ⊎ ((unit ≡ 8) ⊎ (unit ≡ 16))

-- a view has an element, and its elements are whole words
pub record ViewWhole (v : ViewShape) : Type 0 where
  pub some : 0 < v.count
  pub words : WholeUnit v.form v.unit
