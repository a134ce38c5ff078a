use Rattle.std.proofs.Common.{sym, ◌∙◌}
use Rattle.vk_trace.proofs.Splits.{left, next_words}
use Rattle.vk_trace.proofs.words.Words.peek.Goals as goal

pub returns : goal.returns
returns c = (
  left c.self.inside.separator c.cut.result.1.now,
  sym c.self.view_is ∙ next_words c.self.inside.separator c.self.inside.ended c.self.inside.text.now _ _ c.if-self.false c.cut.ensures,
)
