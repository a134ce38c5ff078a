use Rattle.d3d_model.proofs.Sized.{sized}
use Rattle.d3d_model.proofs.laws.live_buffers_have_their_bytes.Goals as goal

pub returns : goal.returns
returns c = λ log n id. sized log n id
