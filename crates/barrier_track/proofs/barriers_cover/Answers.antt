use Rattle.barrier_track.proofs.Covers.{commands_covered}
use Rattle.barrier_track.proofs.barriers_cover.Goals as goal

pub returns : goal.returns
returns c = commands_covered
