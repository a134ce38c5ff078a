use Rattle.spirv_emit.proofs.Words.Appending.{puts_then}
use Rattle.spirv_emit.proofs.code.Code.open_choice.Goals as goal

pub returns-clause-appends : goal.returns-clause-appends
returns-clause-appends c =
    let q = puts_then c.in_ok-selection_merge.ensures (puts_then c.in_ok-branch_conditional.ensures c.in_ok-label.ensures) in
    record { words_are = q.words_are; next_is = q.next_is }
