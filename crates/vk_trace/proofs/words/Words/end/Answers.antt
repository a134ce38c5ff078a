use Rattle.std.proofs.Common.{◌∙◌}
use Rattle.vk_trace.proofs.Splits.{none_left_words}
use Rattle.vk_trace.proofs.words.Words.end.Goals as goal

pub returns : goal.returns
returns c = λ e. none_left_words c.self.inside.separator c.self.inside.ended c.self.inside.text.now c.if-self.false (c.self.view_is ∙ e)
