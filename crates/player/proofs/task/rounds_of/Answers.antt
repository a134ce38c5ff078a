use Rattle.std.proofs.Common.{sym, ◌∙◌, arith}
use Rattle.dx_types.specs.declared.limits.TheConstants.{MAX_ROUNDS}
use Rattle.player.proofs.Rounds.{none_is, some_is, out_of_range}
use Rattle.player.proofs.task.rounds_of.Goals as goal
use Rattle.player.proofs.task.rounds_of.Goals.{then-rounds-eq0-via-then-rounds-eq0, then-rounds-eq0-via-else-rounds-eq0+then-rounds-gt-MAX_ROUNDS}

pub returns-in_err-rounds-clause-value : goal.returns-in_err-rounds-clause-value
returns-in_err-rounds-clause-value c =
    c.from_residual.ensures
    ∙ sym (none_is MAX_ROUNDS c.args.word.now (λ n low high. c.in_err-rounds.ensures n (omega arith)))

pub returns-then-rounds-eq0-clause-value : goal.returns-then-rounds-eq0-clause-value
returns-then-rounds-eq0-clause-value c =
    sym (out_of_range MAX_ROUNDS c.in_ok-rounds.rounds c.args.word.now (omega arith)
    (omega (arith, c.in_ok-rounds.ensures.0))
    (λ low high. elim c.then-rounds-eq0.branch [
      | then-rounds-eq0-via-then-rounds-eq0 w ↦ omega arith
      | then-rounds-eq0-via-else-rounds-eq0+then-rounds-gt-MAX_ROUNDS w ↦ omega arith
    ])
    c.in_ok-rounds.ensures.1)

pub returns-clause-value : goal.returns-clause-value
returns-clause-value c =
    sym (some_is MAX_ROUNDS c.in_ok-rounds.rounds c.args.word.now (omega arith) (omega arith)
    (omega arith) c.in_ok-rounds.ensures.1)
