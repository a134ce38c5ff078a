use Rattle.std.proofs.Common.{◌%◌, ℕ, List, ap, ◌∙◌}
use Rattle.std.proofs.lemmas.Result.{err_from_is_err_and}
use Rattle.log_text.specs.Reading.{HasLayout}
use Rattle.call_log.specs.declared.kinds.Layout.TheVariants.{Tokens}
use Rattle.log_text.proofs.Results.{on_ok, when_bad, if_bad}
use Rattle.log_text.proofs.Bodies.{length-words_of, AreWords-words_of, AreBytes-drop, stops_field}
use Rattle.log_text.proofs.Shapes.{tokens_put, tokens_text, tokens_rest, tokens_whole}
use Rattle.log_text.proofs.fields.read_tokens.Goals as goal

pub returns-in_err-rest-clause-bad : goal.returns-in_err-rest-clause-bad
returns-in_err-rest-clause-bad c =
    let p = err_from_is_err_and c.from_residual.result c.from_residual.ensures.1 in
    rw (p.1, p.2) (
    when_bad c.in_err-rest.field-0.0 _ _
    (λ none (b : List ℕ) (h : HasLayout Tokens b) is. none _ _ (length-words_of 1 b) (AreWords-words_of 1 b h.bytes) (stops_field _) (tokens_text _ b is))
    c.in_err-rest.ensures.bad
    )

pub returns-then-byte_count-ne0-clause-bad : goal.returns-then-byte_count-ne0-clause-bad
returns-then-byte_count-ne0-clause-bad c =
    λ (b : List ℕ) (h : HasLayout Tokens b) is.
    let e = tokens_rest _ _ _ _ b c.in_ok-rest.ensures.found.0 c.in_ok-rest.ensures.found.1 h is in
    c.if-byte_count-ne0.true (ap (λ (k : ℕ). k % 4) (c.byte_count.ensures _ e) ∙ tokens_whole b h)

pub returns-clause-found : goal.returns-clause-found
returns-clause-found c =
    on_ok c.read_bytes.result _ _
    (λ b. tokens_put _ _ _ _ _ c.byte_count.result c.requires.small c.in_ok-rest.ensures.found.0 c.byte_count.ensures c.if-byte_count-ne0.false b)
    c.read_bytes.ensures.found

pub returns-clause-bad : goal.returns-clause-bad
returns-clause-bad c =
    if_bad c.read_bytes.result _ _
    (λ none (b : List ℕ) (h : HasLayout Tokens b) is.
    none _ (AreBytes-drop 4 b h.bytes) (tokens_rest _ _ _ _ b c.in_ok-rest.ensures.found.0 c.in_ok-rest.ensures.found.1 h is))
    c.read_bytes.ensures.bad
