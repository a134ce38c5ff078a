use Rattle.std.proofs.Common.{true, sym, ◌∙◌}
use Rattle.vk_types.specs.Hazards.{has_write}
use Rattle.barrier_track.proofs.Touched.{grows_from_adds, grows_from_keeps, adds_so}
use Rattle.barrier_track.proofs.touches.put.Goals as goal

pub returns-in_err-add-clause-part_touched : goal.returns-in_err-add-clause-part_touched
returns-in_err-add-clause-part_touched c =
    grows_from_keeps true c.args.touched.now c.args.t.now.range c.add.new.self c.in_err-add.ensures.same

pub returns-in_err-add-2-clause-part_touched : goal.returns-in_err-add-2-clause-part_touched
returns-in_err-add-2-clause-part_touched c =
    grows_from_adds true c.args.touched.now c.args.t.now.range c.add.new.self c.in_ok-add.ensures.added

pub returns-in_err-add-2-clause-part_written : goal.returns-in_err-add-2-clause-part_written
returns-in_err-add-2-clause-part_written c =
    grows_from_keeps (has_write c.args.t.now.access) c.args.written.now c.args.t.now.range c.add-then-writes.new.self
    c.in_err-add-2.ensures.same

pub returns-in_ok-add-2-clause-part_touched : goal.returns-in_ok-add-2-clause-part_touched
returns-in_ok-add-2-clause-part_touched c =
    grows_from_adds true c.args.touched.now c.args.t.now.range c.add.new.self c.in_ok-add.ensures.added

pub returns-in_ok-add-2-clause-part_written : goal.returns-in_ok-add-2-clause-part_written
returns-in_ok-add-2-clause-part_written c =
    grows_from_adds (has_write c.args.t.now.access) c.args.written.now c.args.t.now.range c.add-then-writes.new.self
    (adds_so (has_write c.args.t.now.access) c.args.written.now c.args.t.now.range c.add-then-writes.new.self (sym c.writes.ensures ∙ c.if-writes.true) c.in_ok-add-2.ensures.added)

pub returns-else-writes-clause-part_touched : goal.returns-else-writes-clause-part_touched
returns-else-writes-clause-part_touched c =
    grows_from_adds true c.args.touched.now c.args.t.now.range c.add.new.self c.in_ok-add.ensures.added
