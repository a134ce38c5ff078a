use Rattle.std.proofs.Common.{◌≡◌, ℕ, List, subst}
use Rattle.std.specs.Prelude.{IfOk}
use Rattle.std.specs.String.{string_bytes}
use Rattle.player.proofs.Summary.{summary_is}
use Rattle.player.proofs.generate.summary_of.Goals as goal

pub returns : goal.returns
returns c =
    subst (λ (l : List ℕ). IfOk c.summary_line.result (λ line. string_bytes line ≡ l))
    (summary_is c.args.rounds c.count.result c.polls.result c.in_ok-sum.sum c.args.log.now.frames
    c.requires c.count.ensures.count c.polls.ensures c.in_ok-sum.ensures)
    c.summary_line.ensures
