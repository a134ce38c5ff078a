use Rattle.std.proofs.Common.{ap, sym, ◌∙◌}
use Rattle.base_lemmas.specs.IdMap.{get}
use Rattle.immediate_ctx.specs.Tables.{Numbers}
use Rattle.immediate_ctx.proofs.Held.{held}
use Rattle.immediate_ctx.proofs.values.Values.of.Goals as goal

pub returns : goal.returns
returns c = c.copied.ensures ∙ c.get.ensures.value ∙ sym (held c.self.inside.counts.entries c.args.query)
    ∙ ap (λ (m : Numbers). get m c.args.query) c.self.view_is
