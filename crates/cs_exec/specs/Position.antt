-- Where the items met so far stand in a log, and what the next one meets.
use Rattle.std.specs.Prelude.{◌≡◌, ℕ, zero, suc, ◌<◌, List, [], ◌++◌, length, take, Option, Some, None}
use Rattle.call_log.specs.Call as calls
use Rattle.call_log.specs.Call.{Call, Issued}
use Rattle.d3d_model.specs.Binding.{Bindings}
use Rattle.d3d_model.specs.D3dState.{Objects, bindings_of}
use Rattle.d3d_model.specs.InOrder.{State, after_calls, call_at, amid}
use Rattle.core_model.specs.Script.{Turn}
use Rattle.log_script.specs.LogScript.{turns_upto}
use Rattle.log_script.specs.Turns.{turns_of}

-- the list that a call executes
abbrev pub list_of : Call → ℕ
list_of (calls.ExecuteList list flag) = list
list_of _ = 0

abbrev pub list_if : Option Issued → ℕ
list_if None = 0
list_if (Some i) = list_of i.call

-- these turns are those of the first calls, and of the next one some but not all, which is a list then
pub record Position (log : List Issued) (turns : List Turn) : Type 0 where
  pub before : ℕ
  pub inside : ℕ
  pub split : turns ≡ turns_upto log before ++ take inside (turns_of log (suc before))
  pub partly : 0 < inside → inside < length (turns_of log (suc before))

-- the objects that the next item meets, when so many calls were played, and so many items of a list
abbrev pub objects_at : List Issued → ℕ → ℕ → Objects
objects_at log before zero = (after_calls log before).objects
objects_at log before (suc inside) =
    (amid (suc before) (after_calls log before) (list_if (call_at log (suc before))) (suc inside)).objects

-- what was set before the list that is running
abbrev pub set_before : List Issued → ℕ → ℕ → Option Bindings
set_before log before zero = None
set_before log before (suc inside) = Some (bindings_of (after_calls log before).objects 0)
