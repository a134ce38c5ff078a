use Rattle.std.proofs.Common.{ℕ, ap, ◌∙◌}
use Rattle.base_lemmas.specs.IdMap.{remove}
use Rattle.base_lemmas.proofs.CodeMaps.{map_of-remove}
use Rattle.immediate_ctx.specs.Buffers.{Live}
use Rattle.immediate_ctx.specs.declared.buffers.Buffer.{Buffer}
use Rattle.immediate_ctx.proofs.buffers.Buffers.remove.Goals as goal

pub returns : goal.returns
returns c =
    map_of-remove (λ (b : Buffer). b) c.self.inside.live.entries c.remove.new.self.entries c.args.id
    c.remove.ensures.updates.0
    ∙ ap (λ (m : Live). remove m c.args.id) c.self.view_is
