use Rattle.std.proofs.Common.{◌≡◌, ◌++◌, map}
use Rattle.std.specs.VecDeque.{deque_len}
use Rattle.immediate_ctx.specs.Listing.{expand}
use Rattle.immediate_ctx.proofs.listing.Listing.into_ops.Given as goal

abbrev pub invariant-each : goal.invariant-each
invariant-each l = l.all.items ++ expand (map (λ b. b.items) l.batches.items) l.own.items
    ≡ expand (map (λ b. b.items) l.initial.batches.items) l.initial.own.items

abbrev pub decreases-each : goal.decreases-each
decreases-each l = deque_len l.own
