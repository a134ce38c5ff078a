-- The words of a task.
use Rattle.std.specs.Prelude.{◌≤◌, ℕ, zero, suc, Bool, true, false, List, [], ◌∷◌, Option, Some, None, codes, decimal, bytes_eq, if◌then◌else◌, ⊤}
use Rattle.std.specs.Prelude.{String}
use Rattle.std.specs.Global.{Global}
use Rattle.std.specs.Option.{option_map}
use Rattle.std.specs.String.{string_bytes}
use Rattle.dx_types.specs.declared.limits.TheConstants.{MAX_ROUNDS}
use Rattle.player.specs.declared.task.Task.{Task}
use Rattle.player.specs.declared.task.Task.TheVariants.{Answer, Generate}
use Rattle.player.specs.Words.{command_by_word}

-- the number from 1 to the most that a word is in decimal
unfoldable pub number_upto : ℕ → List ℕ → Option ℕ
number_upto zero word = None
number_upto (suc n) word = if bytes_eq word (decimal (suc n)) then Some (suc n) else number_upto n word

abbrev pub rounds_of : List ℕ → Option ℕ
rounds_of word = number_upto MAX_ROUNDS word

-- `gen`, and a number of rounds
abbrev pub generation : List ℕ → List ℕ → Option Task
generation word number = if bytes_eq word (codes "gen") then option_map Generate (rounds_of number) else None

-- the task that some words are
abbrev pub task_of : List (String Global) → Option Task
task_of [] = None
task_of (word ∷ []) = option_map Answer (command_by_word (string_bytes word))
task_of (word ∷ number ∷ []) = generation (string_bytes word) (string_bytes number)
task_of (word ∷ number ∷ other ∷ words) = None

-- a log of so many rounds is made
abbrev pub InRange : Task → Type 0
InRange (Answer c) = ⊤
InRange (Generate n) = (1 ≤ n) × (n ≤ MAX_ROUNDS)

-- the input is read: by a command that makes something of it
abbrev pub reads_input : Option Task → Bool
reads_input None = false
reads_input (Some (Answer c)) = true
reads_input (Some (Generate n)) = false
