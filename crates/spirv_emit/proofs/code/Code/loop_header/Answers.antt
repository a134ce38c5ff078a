use Rattle.spirv_emit.proofs.Words.Appending.{puts_then}
use Rattle.spirv_emit.proofs.code.Code.loop_header.Goals as goal

pub returns-clause-appends : goal.returns-clause-appends
returns-clause-appends c =
    let q = puts_then c.in_ok-branch.ensures (puts_then c.in_ok-label.ensures (puts_then c.in_ok-loop_merge.ensures (puts_then c.in_ok-branch-2.ensures c.in_ok-label-2.ensures))) in
    record { words_are = q.words_are; next_is = q.next_is }
