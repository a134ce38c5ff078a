use Rattle.std.proofs.Common.{◌≡◌, drop}
use Rattle.std.specs.Ordering.{nat_cmp}
use Rattle.std.specs.BTreeSet.{contains}
use Rattle.vk_types.specs.BarrierCauses.{lesser, least_writer}
use Rattle.batch_make.specs.Making.{commands_in}
use Rattle.batch_make.proofs.stream.least_writer.Given as goal

abbrev pub invariant-ops : goal.invariant-ops
invariant-ops l =
    lesser l.least (least_writer (contains nat_cmp l.blocks) (commands_in (drop l.op-index l.ops)))
    ≡ least_writer (contains nat_cmp l.blocks) (commands_in l.ops)
