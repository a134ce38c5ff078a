use Rattle.std.proofs.Common.{◌≡◌, ◌+◌, true, false, sym, subst, ◌∙◌, arith}
use Rattle.list_audit.specs.AuditText.{IsFirstBad}
use Rattle.list_audit.proofs.Rising.{passed, failed}
use Rattle.list_audit.proofs.Front.{so_far_more, front_unended, front_words, bad_number}
use Rattle.list_audit.proofs.reading.read_front.Goals as goal

pub returns-in-Err-Bad-clause-front : goal.returns-in-Err-Bad-clause-front
returns-in-Err-Bad-clause-front c =
    front_words c.args.text.now c.lines.rest.now c.in-Some.bare.now c.in-Some.after.now c.lines.ops.items c.lines.last c.lines.invariant c.in-Some.ensures
    (rw c.in-Err-Bad.field-0-is at c.in-Err-Bad.ensures.bad)

pub returns-then-not-may_follow-clause-bad : goal.returns-then-not-may_follow-clause-bad
returns-then-not-may_follow-clause-bad c =
    let falls : c.may_follow.result ≡ false = grind arith in
    subst (λ n. IsFirstBad c.args.text.now (n + 1)) (sym (c.len.ensures ∙ c.lines.ops.ok.0))
    (bad_number c.args.text.now c.lines.rest.now c.in-Some.bare.now c.in-Some.after.now c.lines.ops.items c.in-Ok.op c.lines.last c.lines.invariant c.in-Some.ensures c.in-Ok.ensures.found
    (failed c.may_follow.result _ _ c.may_follow.ensures falls))

pub lines-preserved : goal.lines-preserved
lines-preserved c =
    let rises : c.may_follow.result ≡ true = grind arith in
    so_far_more c.args.text.now c.lines.rest.now c.in-Some.bare.now c.in-Some.after.now c.lines.ops.items _ c.in-Ok.op c.lines.last c.last_with-last.result c.lines.invariant c.in-Some.ensures c.in-Ok.ensures.found
    (passed c.may_follow.result _ _ c.may_follow.ensures rises) c.last_with-last.ensures c.in_ok-push.ensures.items

pub returns-clause-front : goal.returns-clause-front
returns-clause-front c = front_unended c.args.text.now c.lines.rest.now c.lines.ops.items c.lines.last c.lines.invariant c.in_default.ensures
