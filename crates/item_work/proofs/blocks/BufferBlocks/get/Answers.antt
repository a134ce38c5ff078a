use Rattle.std.proofs.Common.{ap, sym, ◌∙◌}
use Rattle.base_lemmas.specs.IdMap.{get}
use Rattle.d3d_state.proofs.Found.{found}
use Rattle.item_work.specs.Placed.{IdBlocks}
use Rattle.item_work.proofs.blocks.BufferBlocks.get.Goals as goal

pub returns : goal.returns
returns c =
    c.copied.ensures ∙ c.get.ensures.value ∙ sym (found c.self.inside.blocks.entries c.args.id)
    ∙ ap (λ (m : IdBlocks). get m c.args.id) c.self.view_is
