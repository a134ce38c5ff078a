use Rattle.std.proofs.Common.{◌≡◌, ◌+◌, ◌≤◌, length, drop}
use Rattle.vk_types.specs.Listing.{act_places, acts}
use Rattle.vk_order.proofs.order.act_count.Given as goal

abbrev pub invariant-loop-o : goal.invariant-loop-o
invariant-loop-o l = (l.count + length (act_places l.o-index (drop l.o-index l.ops)) ≡ length (acts l.ops)) × (l.count ≤ l.o-index)
