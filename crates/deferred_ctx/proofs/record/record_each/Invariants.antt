use Rattle.std.proofs.Common.{◌≡◌}
use Rattle.call_log.specs.Grammar.{calls_of}
use Rattle.deferred_ctx.specs.Lists.{lists_made}
use Rattle.deferred_ctx.proofs.record.record_each.Given as goal

abbrev pub invariant-calls : goal.invariant-calls
invariant-calls l = l.lists.items ≡ lists_made (calls_of l.log.frames) l.i
