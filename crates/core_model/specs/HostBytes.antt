-- What the host writes of a script, in the order of its items.
use Rattle.std.specs.Prelude.{◌≡◌, ℕ, ◌<◌, List, [], ◌∷◌, ◌++◌}
use Rattle.std.specs.List.{AllByRecursion}
use Rattle.vk_types.specs.Memory.{Memory}
use Rattle.core_model.specs.Script.{Play, Create, Discard, No_overwrite, Stage, Command, Destroy, Create_shader}
use Rattle.core_model.specs.Script.{Mark_query, Set_state, Turn, Refused, Passed, Flushed, Asked, Item, Script}
use Rattle.core_model.specs.Script.{padded}
use Rattle.core_model.specs.Adding.{length_of}

-- nothing is written to an empty range
abbrev pub if_some : List ℕ → List (List ℕ)
if_some [] = []
if_some (b ∷ bs) = (b ∷ bs) ∷ []

-- a created buffer's whole block, with zeros behind its data; a discarded buffer whole; the bytes of a no-overwrite;
-- staged bytes
abbrev pub play_bytes : Script → Play → List (List ℕ)
play_bytes script (Create buffer bytes) = if_some (padded 0 bytes (length_of script buffer))
play_bytes script (Discard buffer from bytes) = if_some (padded from bytes (script.size buffer))
play_bytes script (No_overwrite buffer from bytes) = if_some bytes
play_bytes script (Stage bytes target skip) = if_some bytes
play_bytes script (Command w skip) = []
play_bytes script (Destroy buffer) = []
play_bytes script Create_shader = []
play_bytes script (Mark_query query begins) = []
play_bytes script Set_state = []

abbrev pub turn_bytes : Script → Turn → List (List ℕ)
turn_bytes script (Refused call) = []
turn_bytes script (Passed call) = []
turn_bytes script (Flushed call) = []
turn_bytes script (Asked call ask used may_pend) = []
turn_bytes script (Item call item ends play bound) = play_bytes script play

-- each byte of the memory is one
abbrev pub IsOfBytes : Memory → Type 0
IsOfBytes memory = (block at : ℕ) → memory block at < 256

-- each of these numbers is a byte
abbrev pub AreBytes : List ℕ → Type 0
AreBytes bytes = AllByRecursion (λ b. b < 256) bytes

-- the host's data of each item is of bytes
abbrev pub HasBytes : Script → Type 0
HasBytes script = (front : List Turn) (t : Turn) (back : List Turn) → script.turns ≡ front ++ t ∷ back
    → AllByRecursion AreBytes (turn_bytes script t)

-- the byte lists of these turns
abbrev pub bytes_of : Script → List Turn → List (List ℕ)
bytes_of script [] = []
bytes_of script (t ∷ ts) = turn_bytes script t ++ bytes_of script ts
