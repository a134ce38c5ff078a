use Rattle.std.proofs.Common.{◌≡◌}
use Rattle.vk_order.proofs.turns.note_rank.Given as goal

abbrev pub invariant-loop-i : goal.invariant-loop-i
invariant-loop-i l = l.rows ≡ l.initial.rows
