use Rattle.command_queue.proofs.Laws.{left-append, come_behind}
use Rattle.command_queue.proofs.batches_come_behind_what_is_left.Goals as goal

pub returns : goal.returns
returns c = record { commands = left-append; memory = come_behind }
