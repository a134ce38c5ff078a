-- The command lists that a log's accepted FinishList calls make.
use Rattle.std.specs.Prelude.{ℕ, zero, suc, Bool, true, false, List, [], ◌∷◌, ◌++◌, Option, None, Some, if◌then◌else◌}
use Rattle.dx_types.specs.declared.refusal.Refusal.{Refusal}
use Rattle.call_log.specs.Call as calls
use Rattle.call_log.specs.Call.{Call, Issued}
use Rattle.d3d_model.specs.InOrder.{State, verdict_in, before_call, call_at}
use Rattle.d3d_model.specs.Uses.{segment}
use Rattle.d3d_plan.specs.Planned.{numbers}

-- a command list: the call that made it, and the calls that it holds, by their numbers in the log, in order
pub record CommandList : Type 0 where
  pub made_by : ℕ
  pub calls : List ℕ

-- whether a call finishes a list, unless it is refused
abbrev pub finishes_unless : Call → Option Refusal → Bool
finishes_unless c (Some why) = false
finishes_unless (calls.FinishList list) None = true
finishes_unless _ None = false

abbrev pub finishes_by : State → Option Issued → Bool
finishes_by s None = false
finishes_by s (Some i) = finishes_unless i.call (verdict_in s i)

-- call n, from 1, is an accepted FinishList
abbrev pub finishes : List Issued → ℕ → Bool
finishes log n = finishes_by (before_call log n) (call_at log n)

-- the list that call n makes
abbrev pub list_made : List Issued → ℕ → CommandList
list_made log n = record { made_by = n; calls = numbers (segment log n) }

-- the lists that the first n calls make, in order
unfoldable pub lists_made : List Issued → ℕ → List CommandList
lists_made log zero = []
lists_made log (suc n) = lists_made log n ++ (if finishes log (suc n) then list_made log (suc n) ∷ [] else [])
