use Rattle.std.proofs.Common.{sym, ◌∙◌}
use Rattle.vk_types.specs.Hazards.{touches, same_stage}
use Rattle.base_lemmas.proofs.Scan.{scan_hit, scan_miss, scan_none}
use Rattle.vk_types.proofs.command.Command.touches_at.Goals as goal
use Rattle.vk_types.proofs.command.Command.touches_at.Goals.{in-Some+else-is, in_default}

pub returns-then-is : goal.returns-then-is
returns-then-is c =
    sym (scan_hit (λ t. same_stage t.stage c.args.stage) (touches c.args.self.now) c.loop-i.i c.in-Some.t
    (sym c.touch_at.ensures ∙ c.in-Some.is) (sym c.is.ensures ∙ c.if-is.true))

pub loop-i-preserved : goal.loop-i-preserved
loop-i-preserved c =
    elim c.match-touch_at.branch [
      | in-Some+else-is w ↦
          scan_miss (λ t. same_stage t.stage c.args.stage) (touches c.args.self.now) c.loop-i.i w.in-Some.t
          (sym c.touch_at.ensures ∙ w.in-Some.is) (sym w.is.ensures ∙ w.if-is.false) c.loop-i.invariant
      | in_default w ↦ scan_none (λ t. same_stage t.stage c.args.stage) (touches c.args.self.now) c.loop-i.i (sym c.touch_at.ensures ∙ w.in_default.is) c.loop-i.invariant
    ]
