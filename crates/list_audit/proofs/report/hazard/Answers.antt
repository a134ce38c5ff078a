use Rattle.std.proofs.Common.{sym, subst}
use Rattle.list_audit.specs.Reports.{IsHazardIf}
use Rattle.list_audit.proofs.Whole.{hazard_if}
use Rattle.list_audit.proofs.report.hazard.Goals as goal

pub returns : goal.returns
returns c = subst (IsHazardIf c.args.ops.now) (sym c.err.ensures.value) (hazard_if c.args.ops.now c.in_ok-end.end c.in_ok-end.ensures.ok c.in_ok-end.ensures.err)
