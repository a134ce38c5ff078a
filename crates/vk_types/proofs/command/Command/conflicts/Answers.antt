use Rattle.std.proofs.Common.{sym, ◌∙◌}
use Rattle.std.specs.List.{list_any}
use Rattle.vk_types.specs.Hazards.{touches, touches_conflict}
use Rattle.base_lemmas.proofs.Scan.{scan_hit, scan_miss, scan_none}
use Rattle.vk_types.proofs.command.Command.conflicts.Goals as goal
use Rattle.vk_types.proofs.command.Command.conflicts.Goals.{in-Some+else-clashes, in_default}

pub returns-then-clashes : goal.returns-then-clashes
returns-then-clashes c =
    sym (scan_hit (λ t. list_any (touches_conflict t) (touches c.args.other.now)) (touches c.args.self.now) c.loop-i.i c.in-Some.t
    (sym c.touch_at.ensures ∙ c.in-Some.is) (sym c.clashes.ensures ∙ c.if-clashes.true))

pub loop-i-preserved : goal.loop-i-preserved
loop-i-preserved c =
    elim c.match-touch_at.branch [
      | in-Some+else-clashes w ↦
          scan_miss (λ t. list_any (touches_conflict t) (touches c.args.other.now)) (touches c.args.self.now) c.loop-i.i w.in-Some.t
          (sym c.touch_at.ensures ∙ w.in-Some.is) (sym w.clashes.ensures ∙ w.if-clashes.false) c.loop-i.invariant
      | in_default w ↦ scan_none (λ t. list_any (touches_conflict t) (touches c.args.other.now)) (touches c.args.self.now) c.loop-i.i (sym c.touch_at.ensures ∙ w.in_default.is) c.loop-i.invariant
    ]
