use Rattle.std.proofs.Common.{arith, sym, ◌∙◌}
use Rattle.d3d_views.proofs.Spans.{ends_inside, start_fits, len_fits}
use Rattle.d3d_views.proofs.span.view_span.Goals as goal

pub overflow_mul-result : goal.overflow_mul-result
overflow_mul-result c =
    rw c.from-unit.ensures (omega (arith, start_fits c.args.v.now.first c.args.v.now.count c.args.v.now.unit c.args.shape.now.size (sym c.is_outside.ensures ∙ c.if-is_outside.false) (omega arith)))

pub overflow_mul-result-2 : goal.overflow_mul-result-2
overflow_mul-result-2 c =
    rw c.from-unit.ensures (omega (arith, len_fits c.args.v.now.first c.args.v.now.count c.args.v.now.unit c.args.shape.now.size (sym c.is_outside.ensures ∙ c.if-is_outside.false) (omega arith)))

pub returns-clause-inside : goal.returns-clause-inside
returns-clause-inside c =
    ends_inside c.args.v.now.first c.args.v.now.count c.args.v.now.unit c.args.shape.now.size (sym c.is_outside.ensures ∙ c.if-is_outside.false)
