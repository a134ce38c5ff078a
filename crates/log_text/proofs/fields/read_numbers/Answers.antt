use Rattle.std.proofs.Common.{refl}
use Rattle.std.proofs.lemmas.Result.{err_from_is_err_and}
use Rattle.log_text.proofs.Numbers.{no_number, more_numbers, numbers_bad}
use Rattle.log_text.proofs.Results.{when_bad}
use Rattle.log_text.proofs.fields.read_numbers.Goals as goal

pub numbers-init : goal.numbers-init
numbers-init c = (no_number c.args.text.now c.args.text.now _ _ refl refl, c.requires.stops)

pub returns-in_err-rest-clause-bad : goal.returns-in_err-rest-clause-bad
returns-in_err-rest-clause-bad c =
    let p = err_from_is_err_and c.from_residual.result c.from_residual.ensures.1 in
    rw (p.1, p.2) (
    when_bad c.in_err-rest.field-0.0 _ _
    (numbers_bad c.args.n c.numbers.i c.args.text.now c.numbers.rest.now _ _ c.numbers-test.true c.numbers.invariant.0 c.numbers.invariant.1)
    c.in_err-rest.ensures.bad
    )

pub numbers-preserved : goal.numbers-preserved
numbers-preserved c =
    (more_numbers c.numbers.i 1 _ _ _ _ _ _ c.numbers.invariant.0 c.in_ok-rest.ensures.found.0, c.in_ok-rest.ensures.found.1)
