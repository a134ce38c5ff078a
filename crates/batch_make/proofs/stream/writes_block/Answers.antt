use Rattle.std.proofs.Common.{◌&&◌, sym, ◌∙◌}
use Rattle.std.specs.Ordering.{nat_cmp}
use Rattle.std.specs.BTreeSet.{contains}
use Rattle.vk_types.specs.Hazards.{touches, has_write}
use Rattle.base_lemmas.proofs.Scan.{scan_hit, scan_miss, scan_none}
use Rattle.batch_make.proofs.stream.writes_block.Goals as goal
use Rattle.batch_make.proofs.stream.writes_block.Goals.{in-Some+else-writes_there, in_default}

pub returns-then-writes_there : goal.returns-then-writes_there
returns-then-writes_there c =
    sym (scan_hit (λ t. has_write t.access && contains nat_cmp c.args.blocks.now t.range.block) (touches c.args.command.now)
    c.loop-i.i c.in-Some.touch (sym c.touch_at.ensures ∙ c.in-Some.is)
    (sym c.writes_there.ensures ∙ c.if-writes_there.true))

pub loop-i-preserved : goal.loop-i-preserved
loop-i-preserved c =
    elim c.match-touch_at.branch [
      | in-Some+else-writes_there w ↦
          scan_miss (λ t. has_write t.access && contains nat_cmp c.args.blocks.now t.range.block) (touches c.args.command.now)
          c.loop-i.i w.in-Some.touch (sym c.touch_at.ensures ∙ w.in-Some.is)
          (sym w.writes_there.ensures ∙ w.if-writes_there.false) c.loop-i.invariant
      | in_default w ↦
          scan_none (λ t. has_write t.access && contains nat_cmp c.args.blocks.now t.range.block) (touches c.args.command.now)
          c.loop-i.i (sym c.touch_at.ensures ∙ w.in_default.is) c.loop-i.invariant
    ]
