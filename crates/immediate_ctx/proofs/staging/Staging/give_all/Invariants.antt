use Rattle.std.proofs.Common.{◌≡◌, ◌++◌}
use Rattle.immediate_ctx.proofs.staging.Staging.give_all.Given as goal

abbrev pub invariant-each : goal.invariant-each
invariant-each l = l.self ≡ record l.initial.self { spare = l.initial.self.spare ++ l.yielded }
