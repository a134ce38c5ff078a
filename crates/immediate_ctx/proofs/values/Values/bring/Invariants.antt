use Rattle.std.proofs.Common.{◌≡◌, take}
use Rattle.immediate_ctx.specs.Tables.{with_values}
use Rattle.immediate_ctx.proofs.values.Values.bring.Given as goal

abbrev pub invariant-each : goal.invariant-each
invariant-each l = l.self ≡ with_values l.initial.self (take l.v-index l.values)
