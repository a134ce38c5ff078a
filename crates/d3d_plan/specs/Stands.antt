-- What a planner keeps of the state.
use Rattle.std.specs.Prelude.{◌≡◌}
use Rattle.d3d_model.specs.InOrder.{State}
use Rattle.d3d_state.specs.Meaning.{objects_of}
use Rattle.d3d_state.specs.declared.objects.Objects as code
use Rattle.d3d_plan.specs.Keeping.{Keeps}
use Rattle.d3d_plan.specs.declared.kept.Kept.{Kept}

-- the objects are those of the state, and what is kept tells of its past
pub record Stands (s : State) (objects : code.Objects) (kept : Kept) : Type 0 where
  pub same : objects_of objects ≡ s.objects
  pub keeps : Keeps (objects_of objects) s.past kept
