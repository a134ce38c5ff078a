use Rattle.barrier_track.proofs.Bytes.{added_bytes, adds_same}
use Rattle.barrier_track.proofs.ranges.add.Goals as goal

pub returns-clause-added : goal.returns-clause-added
returns-clause-added c =
    let middle = c.split.new.starts.entries in
    adds_same c.args.starts.now.entries middle c.forget.new.starts.entries c.args.from c.args.to c.split.ensures.same
    (added_bytes middle c.insert.new.self.entries c.forget.new.starts.entries c.args.from c.args.to c.requires
    c.in_ok-split.ensures.begins c.in_ok-insert.ensures.updates.0 c.forget.ensures)
