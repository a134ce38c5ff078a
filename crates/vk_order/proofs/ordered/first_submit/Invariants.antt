use Rattle.std.proofs.Common.{◌≡◌, drop}
use Rattle.vk_types.specs.Listing.{first_submit}
use Rattle.vk_order.proofs.ordered.first_submit.Given as goal

abbrev pub invariant-loop-o : goal.invariant-loop-o
invariant-loop-o l = first_submit (drop l.o-index l.ops) ≡ first_submit l.ops
