use Rattle.std.proofs.Common.{◌≡◌, length, sym, ap, ◌∙◌, arith}
use Rattle.std.proofs.lemmas.Bool.{eqb-true}
use Rattle.log_text.proofs.ByteFields.{field_some, field_from, word_pos}
use Rattle.log_text.proofs.Results.{on_ok}
use Rattle.log_text.proofs.fields.read_bytes.Goals as goal

pub returns-then-is_empty-clause-bad : goal.returns-then-is_empty-clause-bad
returns-then-is_empty-clause-bad c =
    λ bytes fit is.
    let none : length c.in-Some.word.now ≡ 0 = eqb-true _ 0 (sym c.is_empty.ensures ∙ c.if-is_empty.true) in
    absurd (omega (arith, field_some bytes, ap length (sym c.in-Some.ensures ∙ is)))

pub returns-clause-found : goal.returns-clause-found
returns-clause-found c =
    on_ok c.read_hex.result _ _ (λ r. record {
      bytes = r.0;
      fit = r.1;
      spelled = c.in-Some.ensures ∙ field_from r.0 c.in-Some.word.now r.2 (word_pos _ (sym c.is_empty.ensures ∙ c.if-is_empty.false));
      put = r.3;
    }) c.read_hex.ensures.found
