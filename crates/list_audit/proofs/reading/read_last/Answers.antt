use Rattle.std.proofs.Common.{sym, ◌∙◌}
use Rattle.text_words.proofs.Cutting.{some_left, none_left}
use Rattle.list_audit.proofs.Front.{last_order, bad_unended, bad_words, bad_behind}
use Rattle.list_audit.proofs.reading.read_last.Goals as goal

pub returns-in_default-clause-bad : goal.returns-in_default-clause-bad
returns-in_default-clause-bad c = bad_unended c.args.rest.now c.args.line (some_left c.args.rest.now (sym c.is_empty.ensures ∙ c.if-is_empty.false)) c.in_default.ensures

pub returns-in-Err-Bad-clause-bad : goal.returns-in-Err-Bad-clause-bad
returns-in-Err-Bad-clause-bad c =
    bad_words c.args.rest.now c.in-Some.bare.now c.in-Some.after.now c.args.line (some_left c.args.rest.now (sym c.is_empty.ensures ∙ c.if-is_empty.false)) c.in-Some.ensures
    (rw c.in-Err-Bad.field-0-is at c.in-Err-Bad.ensures.bad)

pub returns-then-not-is_empty-clause-bad : goal.returns-then-not-is_empty-clause-bad
returns-then-not-is_empty-clause-bad c =
    bad_behind c.args.rest.now c.in-Some.bare.now c.in-Some.after.now c.in-Ok.places.items c.args.line c.in-Some.ensures c.in-Ok.ensures.found
    (some_left c.in-Some.after.now (sym c.is_empty-2.ensures ∙ c.if-not-is_empty.true))

pub returns-clause-last : goal.returns-clause-last
returns-clause-last c =
    last_order c.args.rest.now c.in-Some.bare.now c.in-Some.after.now c.in-Ok.places.items c.in-Some.ensures c.in-Ok.ensures.found
    (none_left c.in-Some.after.now (sym c.is_empty-2.ensures ∙ c.if-not-is_empty.false))
