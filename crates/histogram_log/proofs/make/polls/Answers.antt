use Rattle.std.proofs.Common.{sym}
use Rattle.histogram_log.proofs.PollCount.{polls_are}
use Rattle.histogram_log.proofs.make.polls.Goals as goal

pub returns : goal.returns
returns c = sym (polls_are c.args.rounds)
