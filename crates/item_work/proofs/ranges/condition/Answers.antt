use Rattle.std.proofs.Common.{ap, sym, ◌∙◌}
use Rattle.d3d_views.specs.Meaning.{meaning}
use Rattle.item_work.proofs.Moves.{word_moves}
use Rattle.item_work.proofs.ranges.condition.Goals as goal

pub returns-in-Word : goal.returns-in-Word
returns-in-Word c = λ past of names.
    c.word_condition.ensures
    ∙ word_moves past c.args.blocks.now of names _ _ c.in-Word.value c.args.set.now.predicate c.predicate_word-word.result
    (sym c.predicate.ensures ∙ ap meaning c.in-Word.is) c.predicate_word-word.ensures
