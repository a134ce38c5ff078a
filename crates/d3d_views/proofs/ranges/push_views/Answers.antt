use Rattle.std.proofs.Common.{Some, Vec, Global, sym, ap, ◌∙◌}
use Rattle.dx_types.specs.declared.range.ResRange.{ResRange}
use Rattle.d3d_model.specs.Binding.{BoundView, bound_range}
use Rattle.d3d_model.specs.View.{view_range}
use Rattle.d3d_views.proofs.Pushed.{pushed, skipped}
use Rattle.d3d_views.proofs.ranges.push_views.Goals as goal
use Rattle.d3d_views.proofs.ranges.push_views.Goals.{in-Some+in_ok-push, in_default}

pub loop-slot-preserved : goal.loop-slot-preserved
loop-slot-preserved c = elim c.match-slot.branch [
  | in-Some+in_ok-push w ↦
      let gives = ap bound_range (sym c.slot-item.is ∙ w.in-Some.is) ∙ ap Some (sym (w.view_range.ensures ∙ ap (λ (v : BoundView). view_range v.shape) w.v.view_is)) in
      pushed bound_range c.args.slots.now c.loop-slot.slot-index c.slot-item.result c.args.ranges.now.items c.loop-slot.ranges.items c.match-slot.ranges.items w.view_range.result
      c.loop-slot-test.true gives c.loop-slot.invariant (ap (λ (v : Vec ResRange Global). v.items) w.ranges-is ∙ w.in_ok-push.ensures.items)
  | in_default w ↦
      ap (λ (v : Vec ResRange Global). v.items) w.ranges-is
      ∙ skipped bound_range c.args.slots.now c.loop-slot.slot-index c.slot-item.result c.args.ranges.now.items c.loop-slot.ranges.items c.loop-slot-test.true
      (ap bound_range (sym c.slot-item.is ∙ w.in_default.is)) c.loop-slot.invariant
]
