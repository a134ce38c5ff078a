use Rattle.command_queue.proofs.Ready.{ready_at}
use Rattle.command_queue.proofs.Laws.{run_first, hazards_marked}
use Rattle.command_queue.proofs.runs_keep_the_order.Goals as goal

pub returns : goal.returns
returns c = record {
  memory = λ meaning steps holds j place e d is m. run_first meaning steps holds place (ready_at steps j place e) d is m;
  hazards = hazards_marked;
}
