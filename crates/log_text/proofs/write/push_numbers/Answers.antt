use Rattle.std.proofs.Common.{◌++◌, ℕ, length, ap, ◌∙◌, arith}
use Rattle.std.specs.String.{string_bytes}
use Rattle.std.proofs.lemmas.List.{length-drop}
use Rattle.log_text.specs.LogText.{number_field}
use Rattle.log_text.proofs.Written.{numbers_step, numbers_end}
use Rattle.log_text.proofs.write.push_numbers.Goals as goal

pub numbers-preserved : goal.numbers-preserved
numbers-preserved c = (
  numbers_step c.args.n c.numbers.i _ _ c.numbers.rest.now _ _ c.numbers-test.true c.numbers.invariant.0
      (c.in_ok-push_number.ensures ∙ ap (λ (k : ℕ). string_bytes c.numbers.text ++ number_field k) c.read_u32.ensures) c.tail-rest.ensures,
  omega (arith, ap length c.tail-rest.ensures, length-drop 4 c.numbers.rest.now),
)

pub returns : goal.returns
returns c = numbers_end c.args.n c.numbers.i _ c.numbers.rest.now _ c.numbers-test.false c.numbers.invariant.0
