use Rattle.std.proofs.Common.{◌≡◌, ◌+◌, length}
use Rattle.spirv_model.specs.FirstBad.{first_fault}
use Rattle.spirv_words.proofs.verdict.first_wrong.Given as goal

abbrev pub invariant-verdicts : goal.invariant-verdicts
invariant-verdicts l =
    (l.word + length l.rest ≡ l.at + length l.verdicts) × (first_fault l.word l.rest ≡ first_fault l.at l.verdicts)

abbrev pub decreases-verdicts : goal.decreases-verdicts
decreases-verdicts l = length l.rest
