use Rattle.std.proofs.Common.{◌-◌, length}
use Rattle.vk_order.proofs.tree.+raise_part.Given as goal

abbrev pub decreases-raise_part : goal.decreases-raise_part
decreases-raise_part l = length l.marks.now - l.part.node
