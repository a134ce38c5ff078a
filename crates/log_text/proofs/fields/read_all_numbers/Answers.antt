use Rattle.std.proofs.Common.{◌≡◌, eqb, true, [], ℕ, List, length, sym, ap, ◌∙◌}
use Rattle.std.proofs.lemmas.Bool.{eqb-true}
use Rattle.std.proofs.lemmas.Result.{err_from_is_err_and}
use Rattle.log_text.specs.Reading.{HasLayout}
use Rattle.call_log.specs.declared.kinds.Layout.TheVariants.{Words}
use Rattle.log_text.proofs.Results.{when_bad}
use Rattle.log_text.proofs.Bodies.{length-words_of, AreWords-words_of}
use Rattle.log_text.proofs.Shapes.{numbers_put, numbers_text, numbers_rest}
use Rattle.log_text.proofs.fields.read_all_numbers.Goals as goal

pub returns-in_err-rest-clause-bad : goal.returns-in_err-rest-clause-bad
returns-in_err-rest-clause-bad c =
    let p = err_from_is_err_and c.from_residual.result c.from_residual.ensures.1 in
    rw (p.1, p.2) (
    when_bad c.in_err-rest.field-0.0 _ _
    (λ none (b : List ℕ) (h : HasLayout (Words c.args.n) b) is. none _ [] (length-words_of c.args.n b) (AreWords-words_of c.args.n b h.bytes) tt (numbers_text c.args.n _ b is))
    c.in_err-rest.ensures.bad
    )

pub returns-then-not-is_empty-clause-bad : goal.returns-then-not-is_empty-clause-bad
returns-then-not-is_empty-clause-bad c =
    λ (b : List ℕ) (h : HasLayout (Words c.args.n) b) is.
    let none : eqb (length c.in_ok-rest.rest.now) 0 ≡ true =
    ap (λ (l : List ℕ). eqb (length l) 0) (numbers_rest c.args.n _ _ _ _ b c.in_ok-rest.ensures.found.0 c.in_ok-rest.ensures.found.1 h is) in
    cc

pub returns-clause-found : goal.returns-clause-found
returns-clause-found c = numbers_put c.args.n _ _ _ _ c.requires.few c.in_ok-rest.ensures.found.0 (eqb-true _ 0 (sym c.is_empty.ensures ∙ c.if-not-is_empty.false))
