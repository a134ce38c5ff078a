use Rattle.std.proofs.Common.{ℕ, List}
use Rattle.std.proofs.lemmas.Result.{err_from_is_err_and}
use Rattle.log_text.specs.Reading.{HasLayout}
use Rattle.call_log.specs.declared.kinds.Layout.TheVariants.{Counted}
use Rattle.log_text.proofs.Results.{on_ok, when_bad, if_bad}
use Rattle.log_text.proofs.Bodies.{length-words_of, AreWords-words_of, AreBytes-drop, stops_field}
use Rattle.log_text.proofs.Shapes.{bytes_put, bytes_text, bytes_rest}
use Rattle.log_text.proofs.fields.read_counted.Goals as goal

pub returns-in_err-rest-clause-bad : goal.returns-in_err-rest-clause-bad
returns-in_err-rest-clause-bad c =
    let p = err_from_is_err_and c.from_residual.result c.from_residual.ensures.1 in
    rw (p.1, p.2) (
    when_bad c.in_err-rest.field-0.0 _ _
    (λ none (b : List ℕ) (h : HasLayout (Counted c.args.n) b) is. none _ _ (length-words_of c.args.n b) (AreWords-words_of c.args.n b h.bytes) (stops_field _) (bytes_text c.args.n _ b is))
    c.in_err-rest.ensures.bad
    )

pub returns-clause-found : goal.returns-clause-found
returns-clause-found c =
    on_ok c.read_bytes.result _ _
    (λ b. bytes_put c.args.n c.byte_count.result _ _ _ _ _ _ c.requires.few c.requires.small c.in_ok-rest.ensures.found.0 c.in_ok-put_word.ensures.put c.byte_count.ensures b)
    c.read_bytes.ensures.found

pub returns-clause-bad : goal.returns-clause-bad
returns-clause-bad c =
    if_bad c.read_bytes.result _ _
    (λ none (b : List ℕ) (h : HasLayout (Counted c.args.n) b) is.
    none _ (AreBytes-drop _ b h.bytes) (bytes_rest c.args.n _ _ _ _ b c.in_ok-rest.ensures.found.0 c.in_ok-rest.ensures.found.1 h is))
    c.read_bytes.ensures.bad
