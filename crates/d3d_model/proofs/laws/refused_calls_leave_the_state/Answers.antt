use Rattle.std.proofs.Common.{ap}
use Rattle.d3d_model.specs.InOrder.{unless_refused}
use Rattle.d3d_model.proofs.laws.refused_calls_leave_the_state.Goals as goal

pub returns : goal.returns
returns c = λ n s i why e. ap (unless_refused n s i) e
