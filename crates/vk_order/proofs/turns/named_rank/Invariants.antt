use Rattle.vk_order.proofs.Rows.{NamedBelow}
use Rattle.vk_order.proofs.turns.named_rank.Given as goal

abbrev pub invariant-loop-i : goal.invariant-loop-i
invariant-loop-i l = NamedBelow l.rows l.b l.i l.most
