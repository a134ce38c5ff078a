use Rattle.std.proofs.Common.{ℕ, ap, ◌∙◌}
use Rattle.base_lemmas.specs.IdMap.{insert}
use Rattle.base_lemmas.proofs.CodeMaps.{map_of-insert}
use Rattle.item_work.specs.Placed.{IdBlocks}
use Rattle.item_work.proofs.blocks.BufferBlocks.insert.Goals as goal

pub returns-clause-inserted : goal.returns-clause-inserted
returns-clause-inserted c =
    map_of-insert (λ (n : ℕ). n) c.self.inside.blocks.entries c.insert.new.self.entries c.args.id c.args.block c.in_ok-insert.ensures.updates.0
    ∙ ap (λ (m : IdBlocks). insert m c.args.id c.args.block) c.self.view_is
