use Rattle.std.proofs.Common.{◌∙◌}
use Rattle.histogram_log.proofs.Spelled.{no_words, word_more}
use Rattle.histogram_log.proofs.words.input_words.Goals as goal

pub values-init : goal.values-init
values-init c = c.new-words.ensures.items ∙ no_words c.args.i

pub values-preserved : goal.values-preserved
values-preserved c =
    word_more c.args.i c.values.j c.input_word.result _ _
    c.values.invariant c.input_word.ensures c.in_ok-push.ensures.items
