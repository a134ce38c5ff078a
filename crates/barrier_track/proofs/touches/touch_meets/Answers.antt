use Rattle.std.proofs.Common.{sym, ◌∙◌}
use Rattle.barrier_track.proofs.Touched.{misses_write, misses_read}
use Rattle.barrier_track.proofs.touches.touch_meets.Goals as goal

pub returns-then-writes : goal.returns-then-writes
returns-then-writes c = λ miss.
    misses_write c.args.touched.now c.args.written.now c.args.t.now c.meets.result
    (sym c.writes.ensures ∙ c.if-writes.true) miss c.meets.ensures

pub returns-else-writes : goal.returns-else-writes
returns-else-writes c = λ miss.
    misses_read c.args.touched.now c.args.written.now c.args.t.now c.meets-else-writes.result
    (sym c.writes.ensures ∙ c.if-writes.false) miss c.meets-else-writes.ensures
