use Rattle.barrier_track.proofs.Bytes.{same_split}
use Rattle.barrier_track.proofs.ranges.split.Goals as goal

pub returns-in_ok-insert-clause-same : goal.returns-in_ok-insert-clause-same
returns-in_ok-insert-clause-same c =
    same_split c.args.starts.now.entries c.insert.new.self.entries c.args.at c.byte-has.result c.byte-has.ensures
    c.in_ok-insert.ensures.updates.0
