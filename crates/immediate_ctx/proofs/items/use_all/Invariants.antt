use Rattle.std.proofs.Common.{◌≡◌, take}
use Rattle.immediate_ctx.specs.Items.{with_uses}
use Rattle.immediate_ctx.proofs.items.use_all.Given as goal

abbrev pub invariant-each : goal.invariant-each
invariant-each l = l.chunk ≡ with_uses l.buffers (take l.r-index l.bound) l.initial.chunk
