use Rattle.std.proofs.Common.{None, Vec, Global, ap, ◌∙◌}
use Rattle.dx_types.specs.declared.range.ResRange.{ResRange}
use Rattle.d3d_views.proofs.Pushed.{pushed, skipped}
use Rattle.d3d_views.proofs.ranges.push_constants.Goals as goal
use Rattle.d3d_views.proofs.ranges.push_constants.Goals.{in-Some+in_ok-push, in_default}

pub loop-slot-preserved : goal.loop-slot-preserved
loop-slot-preserved c = elim c.match-slot.branch [
  | in-Some+in_ok-push w ↦
      pushed (λ slot. slot) c.args.slots.now c.loop-slot.slot-index None c.args.ranges.now.items c.loop-slot.ranges.items c.match-slot.ranges.items w.in-Some.range
      c.loop-slot-test.true w.in-Some.is c.loop-slot.invariant (ap (λ (v : Vec ResRange Global). v.items) w.ranges-is ∙ w.in_ok-push.ensures.items)
  | in_default w ↦
      ap (λ (v : Vec ResRange Global). v.items) w.ranges-is
      ∙ skipped (λ slot. slot) c.args.slots.now c.loop-slot.slot-index None c.args.ranges.now.items c.loop-slot.ranges.items c.loop-slot-test.true w.in_default.is c.loop-slot.invariant
]
