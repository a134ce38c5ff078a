-- What a call's turns bind, and what they have the host write and read, is of buffers that live when the call comes.
-- Turns name a buffer by the call that created it.
use Rattle.std.specs.Prelude.{◌≡◌, ℕ, ◌+◌, ◌<◌, ◌≤◌, true, ⊤, List, length, Option, Some, is_some}
use Rattle.std.specs.List.{AllByRecursion}
use Rattle.dx_types.specs.declared.range.Range.{Range}
use Rattle.dx_types.specs.declared.range.ResRange.{ResRange}
use Rattle.dx_types.specs.declared.shape.Shape.{Shape}
use Rattle.dx_types.specs.declared.limits.TheConstants.{MAX_BUFFER_SIZE}
use Rattle.d3d_model.specs.Resource.{is_dynamic, is_staging, size_of}
use Rattle.base_lemmas.specs.IdMap.{IdMap, get}
use Rattle.d3d_model.specs.D3dState.{Shader, buffer_of}
use Rattle.d3d_model.specs.InOrder.{State}
use Rattle.core_model.specs.Script.{Play, Create, Discard, No_overwrite, Stage, Destroy, Ask, Bytes, Turn, Asked, Item}
use Rattle.core_model.specs.Formed.{PlayIsFormed}
use Rattle.core_model.specs.Lawful.{play_touches, play_shaders}
use Rattle.log_script.specs.Makers.{maker, of_makers}
use Rattle.log_script.specs.Fitting.{LivesAndFits}

-- an item binds bytes of live buffers
pub record BoundFits (s : State) (bound : List Range) : Type 0 where
  pub ranges : List ResRange
  pub named : bound ≡ of_makers s.past ranges
  pub fit : AllByRecursion (LivesAndFits s.objects) ranges

-- the host writes a live dynamic buffer, and no byte past its end
pub record WriteFits (s : State) (buffer to : ℕ) : Type 0 where
  pub id : ℕ
  pub shape : Shape
  pub named : buffer ≡ maker s.past id
  pub lives : buffer_of s.objects id ≡ Some shape
  pub fits : to ≤ shape.size
  pub dynamic : is_dynamic shape.usage ≡ true

-- a live buffer is destroyed
pub record DestroysLive (s : State) (buffer : ℕ) : Type 0 where
  pub id : ℕ
  pub named : buffer ≡ maker s.past id
  pub lives : is_some (buffer_of s.objects id) ≡ true

-- bytes of a live staging buffer are asked for: at least one, and none past its end
pub record ReadFits (s : State) (source : Range) : Type 0 where
  pub id : ℕ
  pub shape : Shape
  pub named : source.block ≡ maker s.past id
  pub lives : buffer_of s.objects id ≡ Some shape
  pub fits : source.to ≤ shape.size
  pub has_byte : source.from < source.to
  pub staging : is_staging shape.usage ≡ true

abbrev pub AskFits : State → Ask → Type 0
AskFits s (Bytes source) = ReadFits s source
AskFits s _ = ⊤

-- a play of call n, which creates a buffer of this shape if it creates one. No more bytes are staged than a buffer
-- may have, and their target has as many
abbrev pub PlayFits : State → ℕ → Option Shape → Play → Type 0
PlayFits s n made (Create buffer bytes) = (buffer ≡ n) × (length bytes ≤ size_of made)
PlayFits s n made (Discard buffer from bytes) = WriteFits s buffer (from + length bytes)
PlayFits s n made (No_overwrite buffer from bytes) = WriteFits s buffer (from + length bytes)
PlayFits s n made (Stage bytes target skip) = (length bytes ≤ MAX_BUFFER_SIZE)
    × ((r : Range) → target ≡ Some r → r.to ≡ r.from + length bytes)
PlayFits s n made (Destroy buffer) = DestroysLive s buffer
PlayFits s n made _ = ⊤

-- a shader is named by the call that created it, and it is live
pub record RunsLive (shaders : IdMap Shader) (call_made : ℕ) : Type 0 where
  pub id : ℕ
  pub shader : Shader
  pub lives : get shaders id ≡ Some shader
  pub call : shader.call ≡ call_made

-- an item of call n: its command is one that a device can do, and runs a live shader
pub record ItemFits (s : State) (n : ℕ) (made : Option Shape) (play : Play) (bound : List Range) : Type 0 where
  pub binds : BoundFits s bound
  pub plays : PlayFits s n made play
  pub filled : AllByRecursion (λ t. t.range.from < t.range.to) (play_touches play)
  pub formed : PlayIsFormed play
  pub runs : AllByRecursion (RunsLive s.objects.shaders) (play_shaders play)

-- a turn of call n
abbrev pub TurnFits : State → ℕ → Option Shape → Turn → Type 0
TurnFits s n made (Item call item ends play bound) = ItemFits s n made play bound
TurnFits s n made (Asked call ask used may_pend) = AskFits s ask
TurnFits s n made _ = ⊤
