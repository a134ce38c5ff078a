use Rattle.std.proofs.Common.{ℕ, ap, ◌∙◌}
use Rattle.base_lemmas.specs.IdMap.{insert}
use Rattle.base_lemmas.proofs.CodeMaps.{map_of-insert}
use Rattle.immediate_ctx.specs.Buffers.{Live}
use Rattle.immediate_ctx.specs.declared.buffers.Buffer.{Buffer}
use Rattle.immediate_ctx.proofs.buffers.Buffers.insert.Goals as goal

pub returns-clause-ok : goal.returns-clause-ok
returns-clause-ok c =
    map_of-insert (λ (b : Buffer). b) c.self.inside.live.entries c.insert.new.self.entries c.args.id c.args.buffer
    c.in_ok-insert.ensures.updates.0
    ∙ ap (λ (m : Live). insert m c.args.id c.args.buffer) c.self.view_is
