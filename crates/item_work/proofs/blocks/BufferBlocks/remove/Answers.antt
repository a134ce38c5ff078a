use Rattle.std.proofs.Common.{ℕ, ap, sym, ◌∙◌}
use Rattle.base_lemmas.specs.IdMap.{get, remove}
use Rattle.base_lemmas.proofs.CodeMaps.{map_of-remove}
use Rattle.d3d_state.proofs.Found.{found}
use Rattle.item_work.specs.Placed.{IdBlocks}
use Rattle.item_work.proofs.blocks.BufferBlocks.remove.Goals as goal

pub returns-clause-value : goal.returns-clause-value
returns-clause-value c =
    c.remove.ensures.value ∙ sym (found c.self.inside.blocks.entries c.args.id)
    ∙ ap (λ (m : IdBlocks). get m c.args.id) c.self.view_is

pub returns-clause-removed : goal.returns-clause-removed
returns-clause-removed c =
    map_of-remove (λ (n : ℕ). n) c.self.inside.blocks.entries c.remove.new.self.entries c.args.id c.remove.ensures.updates.0
    ∙ ap (λ (m : IdBlocks). remove m c.args.id) c.self.view_is
