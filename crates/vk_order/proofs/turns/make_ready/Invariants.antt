use Rattle.vk_order.specs.Turns.{RowsGrew}
use Rattle.vk_order.proofs.Rows.{ReadyBelow}
use Rattle.vk_order.proofs.turns.make_ready.Given as goal

abbrev pub invariant-loop-i : goal.invariant-loop-i
invariant-loop-i l = record {
  grew : RowsGrew l.initial.rows l.rows;
  ready : ReadyBelow l.rows l.b l.rank l.i;
}
