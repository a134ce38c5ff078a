use Rattle.vk_order.proofs.CutOrder.{RiseBelow}
use Rattle.vk_order.proofs.cuts.rises.Given as goal

abbrev pub invariant-loop-i : goal.invariant-loop-i
invariant-loop-i l = RiseBelow l.cuts l.i
