-- What the machine keeps.
use Rattle.std.specs.Prelude.{◌≡◌, ℕ, ◌≤◌, ◌<◌, Bool, true, List, length, Option, IfSome}
use Rattle.call_log.specs.Grammar.{Frame, calls_of}
use Rattle.d3d_model.specs.InOrder.{after_calls}
use Rattle.d3d_state.specs.Meaning.{objects_of}
use Rattle.d3d_plan.specs.Ends.{IsPlayable}
use Rattle.d3d_plan.specs.Planned.{Planned, plan_of}
use Rattle.d3d_ref.specs.Stands.{Stands}
use Rattle.d3d_ref.specs.declared.machine.Machine.{Machine}
use Rattle.d3d_model.specs.InOrder.{State}
use Rattle.core_machine.specs.declared.events.Flight.{Flight}
use Rattle.core_machine.specs.Machine.{settled, is_empty, is_waiting}

-- the plan is the log's, and all its calls are built
pub record IsPlanned (frames : List Frame) (plan : List Planned) : Type 0 where
  pub planned : plan ≡ plan_of (calls_of frames) (length frames)
  pub playable : IsPlayable frames

-- a state of Direct3D, unless it was lost
abbrev pub StandsFor : Option Machine → State → Type 0
StandsFor machine s = IfSome machine (λ m. Stands (objects_of m.objects) m.memory s)

-- the Direct3D state is that after the calls which had their effect
pub record Keeps (frames : List Frame) (plan : List Planned) (machine : Option Machine) (taken : ℕ) (flight : Flight) (ended : Bool) : Type 0 where
  pub is_planned : IsPlanned frames plan
  pub stands : StandsFor machine (after_calls (calls_of frames) (settled flight taken))
  pub within : taken ≤ length frames
  pub waits : is_waiting flight ≡ true → 0 < taken
  pub quiet : ended ≡ true → is_empty flight ≡ true
  pub full : ended ≡ true → taken ≡ length frames
