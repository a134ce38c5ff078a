use Rattle.d3d_memory.proofs.Bounded.{log_in_limits}
use Rattle.d3d_memory.proofs.laws.logs_stay_in_limits.Goals as goal

pub returns : goal.returns
returns c = λ bytes frames n log small h. log_in_limits bytes frames n log small h
