use Rattle.std.proofs.Common.{sym, ap, ◌∙◌, Some}
use Rattle.vk_types.specs.Listing.{op_touches}
use Rattle.list_audit.proofs.Shares.{with_hit, with_miss, with_skip}
use Rattle.list_audit.proofs.sharing.shared_with.Goals as goal
use Rattle.list_audit.proofs.sharing.shared_with.Goals.{in-Some+else-conflicts, in_default}

pub returns-then-conflicts : goal.returns-then-conflicts
returns-then-conflicts c =
    sym (c.loop-i.invariant
    ∙ with_hit c.args.t.now (op_touches c.args.op.now) c.loop-i.i c.in-Some.u (sym c.touch_of.ensures ∙ c.in-Some.is) (sym c.conflicts.ensures ∙ c.if-conflicts.true)
    ∙ ap (λ r. Some r) (sym c.overlap.ensures))

pub loop-i-preserved : goal.loop-i-preserved
loop-i-preserved c =
    elim c.match-touch_of.branch [
      | in-Some+else-conflicts w ↦
          c.loop-i.invariant
          ∙ with_miss c.args.t.now (op_touches c.args.op.now) c.loop-i.i w.in-Some.u (sym c.touch_of.ensures ∙ w.in-Some.is) (sym w.conflicts.ensures ∙ w.if-conflicts.false)
      | in_default w ↦ c.loop-i.invariant ∙ with_skip c.args.t.now (op_touches c.args.op.now) c.loop-i.i (sym c.touch_of.ensures ∙ w.in_default.is)
    ]
