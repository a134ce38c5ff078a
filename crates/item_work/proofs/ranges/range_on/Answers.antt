use Rattle.std.proofs.Common.{ℕ, ap, ◌∙◌}
use Rattle.vk_types.specs.Memory.{range}
use Rattle.item_work.proofs.Moves.{range_moves}
use Rattle.item_work.proofs.ranges.range_on.Goals as goal

pub returns-clause-by_maker : goal.returns-clause-by_maker
returns-clause-by_maker c = λ past of names.
    ap (λ (b : ℕ). range b c.args.r.now.from c.args.r.now.to) c.block_of.ensures
    ∙ range_moves past c.args.blocks.now of names c.args.r.now
