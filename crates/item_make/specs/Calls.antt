-- The calls that an item may be of, by what they need of the log and of their buffers.
use Rattle.std.specs.Prelude.{◌≡◌, ℕ, Bool, true, false, ⊤, List, []}
use Rattle.call_log.specs.Call as calls
use Rattle.call_log.specs.Call.{Call}
use Rattle.d3d_model.specs.Past.{Past}
use Rattle.d3d_model.specs.Resource.{is_staging, usage_from}
use Rattle.core_model.specs.Script.{Script}
use Rattle.log_script.specs.Makers.{maker}
use Rattle.item_make.specs.Making.{MakesAlone, NeverMade}

-- the bytes of the log that a call puts into a buffer
abbrev pub bytes_of : Call → List ℕ
bytes_of (calls.Buffer id size usage bind misc stride bytes) = bytes
bytes_of (calls.Update res offset bytes) = bytes
bytes_of (calls.MapWrite res mode offset bytes) = bytes
bytes_of _ = []

abbrev pub is_map : Call → Bool
is_map (calls.MapWrite res mode offset bytes) = true
is_map _ = false

-- where a map discards, its buffer is no staging buffer, and the call that made it made no other
abbrev pub DiscardsAlone : Script → Past → Call → Type 0
DiscardsAlone script past (calls.MapWrite res mode offset bytes) =
    mode ≡ 0 → (script.is_staging (maker past res) ≡ false) × MakesAlone past res
DiscardsAlone script past _ = ⊤

-- a buffer that a call creates is a staging buffer where its usage says so
abbrev pub TellsStaging : Script → ℕ → Call → Type 0
TellsStaging script n (calls.Buffer id size usage bind misc stride bytes) =
    script.is_staging n ≡ is_staging (usage_from usage)
TellsStaging script n _ = ⊤

-- the call made no buffer yet, and the call that made the buffer which it destroys made no other
abbrev pub NamesAlone : ℕ → Past → Call → Type 0
NamesAlone n past (calls.Buffer id size usage bind misc stride bytes) = NeverMade past n
NamesAlone n past (calls.Destroy class id) = class ≡ 1 → MakesAlone past id
NamesAlone n past _ = ⊤
