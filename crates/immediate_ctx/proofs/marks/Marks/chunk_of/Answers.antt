use Rattle.std.proofs.Common.{ap, sym, ◌∙◌}
use Rattle.base_lemmas.specs.IdMap.{get}
use Rattle.immediate_ctx.specs.Tables.{Numbers}
use Rattle.immediate_ctx.proofs.Held.{held}
use Rattle.immediate_ctx.proofs.marks.Marks.chunk_of.Goals as goal

pub returns : goal.returns
returns c = c.copied.ensures ∙ c.get.ensures.value ∙ sym (held c.self.inside.chunks.entries c.args.block)
    ∙ ap (λ (m : Numbers). get m c.args.block) c.self.view_is
