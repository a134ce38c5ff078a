use Rattle.std.proofs.Common.{◌≡◌, take}
use Rattle.immediate_ctx.proofs.same_places.same_places.Given as goal

abbrev pub invariant-places : goal.invariant-places
invariant-places l = take l.i l.a ≡ take l.i l.b
