use Rattle.device_laws.proofs.Standing.{may_follow}
use Rattle.device_laws.proofs.completions_keep_their_batches.Goals as goal

pub returns : goal.returns
returns c = may_follow
