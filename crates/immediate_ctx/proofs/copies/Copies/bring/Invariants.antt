use Rattle.std.proofs.Common.{◌≡◌}
use Rattle.immediate_ctx.specs.Tables.{with_snaps}
use Rattle.immediate_ctx.proofs.copies.Copies.bring.Given as goal

abbrev pub invariant-each : goal.invariant-each
invariant-each l = l.self ≡ with_snaps l.initial.self l.yielded
