use Rattle.command_queue.proofs.Flags.{stands_new}
use Rattle.command_queue.proofs.scan.Scan.new.Goals as goal

pub returns : goal.returns
returns c = stands_new
