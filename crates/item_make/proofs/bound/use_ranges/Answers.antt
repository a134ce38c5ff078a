use Rattle.std.proofs.Common.{List, take, arith, subst}
use Rattle.dx_types.specs.declared.range.Range.{Range}
use Rattle.d3d_state.specs.Meaning.{objects_of}
use Rattle.batch_make.specs.Making.{Has}
use Rattle.item_make.specs.Bound.{with_ranges}
use Rattle.item_make.proofs.Staging.{ranges_more}
use Rattle.item_make.proofs.bound.use_ranges.Goals as goal

pub each-preserved : goal.each-preserved
each-preserved c = λ part m has.
    let named = c.args.blocks.now in
    let o = objects_of c.args.objects.now in
    subst (λ (l : List Range). Has part (record m { staging = l }) c.use_range.new.parts)
    (ranges_more named o c.args.ranges.now c.each.r-index _ m.staging (omega arith))
    (c.in_ok-use_range.ensures part (record m { staging = with_ranges named o (take c.each.r-index c.args.ranges.now) m.staging }) (c.each.invariant part m has))
