use Rattle.std.proofs.Common.{◌-◌, length}
use Rattle.vk_order.proofs.tree.+is_part_below.Given as goal

abbrev pub decreases-is_part_below : goal.decreases-is_part_below
decreases-is_part_below l = length l.marks.now - l.part.node
