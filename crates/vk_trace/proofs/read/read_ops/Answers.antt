use Rattle.std.proofs.Common.{length, ap, sym, ◌∙◌, ◌∷◌, arith}
use Rattle.std.proofs.lemmas.List.{length-append}
use Rattle.text_words.proofs.Cutting.{some_left}
use Rattle.vk_trace.proofs.Texts.{reads_more, bad_unended, bad_words}
use Rattle.vk_trace.proofs.read.read_ops.Goals as goal

pub returns-in_default-clause-bad : goal.returns-in_default-clause-bad
returns-in_default-clause-bad c = bad_unended _ _ _ _ c.lines.invariant.0 (some_left _ (sym c.is_empty.ensures ∙ c.lines-test.true)) c.in_default.ensures

pub returns-in-Err-Bad-clause-bad : goal.returns-in-Err-Bad-clause-bad
returns-in-Err-Bad-clause-bad c =
    bad_words _ _ _ _ _ _ c.lines.invariant.0 (some_left _ (sym c.is_empty.ensures ∙ c.lines-test.true)) c.in-Some.ensures (rw c.in-Err-Bad.field-0-is at c.in-Err-Bad.ensures.bad)

pub lines-preserved : goal.lines-preserved
lines-preserved c =
    let long = ap length c.in-Some.ensures.spelled in (
      reads_more _ _ _ _ _ _ c.in-Ok.op _ c.lines.invariant.0 c.in-Some.ensures c.in-Ok.ensures.found c.in_ok-push.ensures.items,
      omega (arith, long, length-append c.in-Some.bare.now (10 ∷ c.in-Some.after.now)),
    )
