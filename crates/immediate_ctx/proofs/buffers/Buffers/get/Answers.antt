use Rattle.std.proofs.Common.{ap, sym, ◌∙◌}
use Rattle.base_lemmas.specs.IdMap.{get}
use Rattle.immediate_ctx.specs.Buffers.{Live}
use Rattle.immediate_ctx.proofs.Held.{held}
use Rattle.immediate_ctx.proofs.buffers.Buffers.get.Goals as goal

pub returns : goal.returns
returns c = c.copied.ensures ∙ c.get.ensures.value ∙ sym (held c.self.inside.live.entries c.args.id)
    ∙ ap (λ (m : Live). get m c.args.id) c.self.view_is
