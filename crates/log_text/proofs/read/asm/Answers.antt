use Rattle.std.proofs.Common.{◌∷◌, [], length, sym, ap, ◌∙◌, arith}
use Rattle.std.proofs.lemmas.List.{length-append}
use Rattle.std.proofs.lemmas.Slice.Eq.{bytes_eq-Decides}
use Rattle.text_words.proofs.Cutting.{same_bytes, none_left, not_both}
use Rattle.log_text.proofs.Lines.{first_cut, bad_first, bad_unended, bad_call, whole_text, assembles_more}
use Rattle.log_text.proofs.read.asm.Goals as goal

pub returns-in_default-clause-bad : goal.returns-in_default-clause-bad
returns-in_default-clause-bad c = bad_first c.args.text.now (λ more e. c.in_default.ensures (100 ∷ 51 ∷ 108 ∷ 49 ∷ 32 ∷ 49 ∷ []) more e)

pub returns-then-ne-clause-bad : goal.returns-then-ne-clause-bad
returns-then-ne-clause-bad c =
    bad_first c.args.text.now
    (λ more e.
    let is = (first_cut c.args.text.now c.in-Some.first.now c.in-Some.lines.now more c.in-Some.ensures e).0 in
    not_both _ _ c.ne.ensures ((bytes_eq-Decides c.in-Some.first.now c.as_slice.result.now).1 (is ∙ sym c.as_slice.ensures)) c.if-ne.true)

pub returns-in_default-next_line-clause-bad : goal.returns-in_default-next_line-clause-bad
returns-in_default-next_line-clause-bad c = bad_unended _ _ _ _ c.lines.invariant.0 c.in_default-next_line.ensures

pub returns-then-eq-clause-log : goal.returns-then-eq-clause-log
returns-then-eq-clause-log c =
    whole_text _ _ _ _ _ _ _ c.lines.invariant.0 c.in-Some-next_line.ensures ((same_bytes _ _ _ _ c.eq.ensures c.as_slice-in-lines.ensures).0 c.if-eq.true)
    (none_left _ (sym c.is_empty.ensures ∙ c.if-not-is_empty.false)) c.in_ok-put_end.ensures.appended

pub returns-in-Err-Bad-clause-bad : goal.returns-in-Err-Bad-clause-bad
returns-in-Err-Bad-clause-bad c =
    bad_call _ _ _ _ _ _ c.lines.invariant.0 c.in-Some-next_line.ensures (rw c.in-Err-Bad.field-0-is at c.in-Err-Bad.ensures.bad)
    (λ is.
    let same = (same_bytes _ _ _ _ c.eq.ensures c.as_slice-in-lines.ensures).1 is in
    let differ = c.if-eq.false in
    cc)

pub lines-preserved : goal.lines-preserved
lines-preserved c =
    let long = ap length c.in-Some-next_line.ensures.spelled in
    (assembles_more _ _ _ _ _ _ _ c.lines.invariant.0 c.in-Some-next_line.ensures c.in-Ok.ensures.found, omega (arith, long, length-append c.in-Some-next_line.line.now (10 ∷ c.in-Some-next_line.after.now)))
