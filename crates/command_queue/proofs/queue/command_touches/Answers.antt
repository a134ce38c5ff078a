use Rattle.std.proofs.Common.{sym, ◌∙◌}
use Rattle.std.specs.Prelude.{◌==◌}
use Rattle.vk_types.specs.declared.touch.Touch.{Touch}
use Rattle.vk_types.specs.Hazards.{touches}
use Rattle.base_lemmas.proofs.Scan.{scan_hit, scan_miss, scan_none}
use Rattle.command_queue.proofs.queue.command_touches.Goals as goal
use Rattle.command_queue.proofs.queue.command_touches.Goals.{in-Some+else-has_block, in_default}

pub returns-then-has_block : goal.returns-then-has_block
returns-then-has_block c =
    sym (scan_hit (λ (t : Touch). t.range.block == c.args.block) (touches c.args.c.now) c.loop-i.i c.in-Some.t
    (sym c.touch_at.ensures ∙ c.in-Some.is) (sym c.has_block.ensures ∙ c.if-has_block.true))

pub loop-i-preserved : goal.loop-i-preserved
loop-i-preserved c =
    elim c.match-touch_at.branch [
      | in-Some+else-has_block w ↦
          scan_miss (λ (t : Touch). t.range.block == c.args.block) (touches c.args.c.now) c.loop-i.i w.in-Some.t
          (sym c.touch_at.ensures ∙ w.in-Some.is) (sym w.has_block.ensures ∙ w.if-has_block.false) c.loop-i.invariant
      | in_default w ↦ scan_none (λ (t : Touch). t.range.block == c.args.block) (touches c.args.c.now) c.loop-i.i (sym c.touch_at.ensures ∙ w.in_default.is) c.loop-i.invariant
    ]
