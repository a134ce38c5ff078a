use Rattle.std.proofs.Common.{length}
use Rattle.vk_trace.proofs.Orders.{PlacesRead}
use Rattle.vk_trace.proofs.order.read_order.Given as goal

abbrev pub invariant-places : goal.invariant-places
invariant-places l = PlacesRead l.fn.text l.words l.places.items

abbrev pub decreases-places : goal.decreases-places
decreases-places l = length l.words
