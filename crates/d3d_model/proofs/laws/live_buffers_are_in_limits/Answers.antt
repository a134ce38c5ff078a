use Rattle.d3d_model.proofs.Limits.{in_limits}
use Rattle.d3d_model.proofs.laws.live_buffers_are_in_limits.Goals as goal

pub returns : goal.returns
returns c = record { bytes = λ log n. (in_limits log n).bytes; dynamic = λ log n class. (in_limits log n).dynamic class }
