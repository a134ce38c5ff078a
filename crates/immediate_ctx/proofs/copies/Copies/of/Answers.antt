use Rattle.std.proofs.Common.{ap, sym, ◌∙◌}
use Rattle.base_lemmas.specs.IdMap.{get}
use Rattle.immediate_ctx.specs.Tables.{Bytes}
use Rattle.immediate_ctx.proofs.Held.{held}
use Rattle.immediate_ctx.proofs.copies.Copies.of.Goals as goal

pub returns : goal.returns
returns c = c.get.ensures.value ∙ sym (held c.self.inside.blocks.entries c.args.block)
    ∙ ap (λ (m : Bytes). get m c.args.block) c.self.view_is
