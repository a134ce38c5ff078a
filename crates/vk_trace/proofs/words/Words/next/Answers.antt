use Rattle.std.proofs.Common.{sym}
use Rattle.vk_trace.proofs.Splits.{next_some, next_none}
use Rattle.vk_trace.proofs.words.Words.next.Goals as goal
use Rattle.vk_trace.proofs.words.Words.next.Goals.{in-Some, in-None}

pub returns : goal.returns
returns c =
    elim c.match-behind.branch [
      | in-Some w ↦ next_some c.self.inside.separator c.self.inside.ended c.self.inside.text.now _ _ w.in-Some.text.now _ _ c.if-self.false (sym c.self.view_is) c.cut.ensures w.in-Some.ensures w.self-is
      | in-None w ↦ next_none c.self.inside.separator c.self.inside.ended c.self.inside.text.now _ _ _ _ c.if-self.false (sym c.self.view_is) c.cut.ensures w.in-None.ensures w.self-is
    ]
