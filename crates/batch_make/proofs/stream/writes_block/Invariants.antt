use Rattle.std.proofs.Common.{◌≡◌, false, ◌&&◌, take}
use Rattle.std.specs.Ordering.{nat_cmp}
use Rattle.std.specs.BTreeSet.{contains}
use Rattle.std.specs.List.{list_any}
use Rattle.vk_types.specs.Hazards.{touches, has_write}
use Rattle.batch_make.proofs.stream.writes_block.Given as goal

abbrev pub invariant-loop-i : goal.invariant-loop-i
invariant-loop-i l =
    list_any (λ t. has_write t.access && contains nat_cmp l.blocks t.range.block) (take l.i (touches l.command)) ≡ false
