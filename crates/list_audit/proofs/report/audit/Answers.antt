use Rattle.std.proofs.Common.{length, subst, ap, arith}
use Rattle.vk_types.specs.Covered.{Covered}
use Rattle.list_audit.proofs.Front.{text_read}
use Rattle.list_audit.proofs.Whole.{few, agree, covered_if}
use Rattle.list_audit.proofs.report.audit.Goals as goal

pub report_on-requires : goal.report_on-requires
report_on-requires c = omega (arith, few c.args.text.now c.in_ok-ops.rest.now c.in_ok-ops.ops.items c.in_ok-ops.ensures.front, c.requires, ap length c.deref.ensures.value)

pub returns-clause-agree : goal.returns-clause-agree
returns-clause-agree c = λ none.
    agree c.args.text.now c.in_ok-ops.ops.items _ (text_read c.args.text.now c.in_ok-ops.rest.now c.in_ok-ops.ops.items _ c.in_ok-ops.ensures.front c.in_ok-order.ensures.last)
    (subst Covered c.deref.ensures.value (covered_if c.deref.result.now c.in_ok-report.report.pair c.in_ok-report.ensures.pair none))
