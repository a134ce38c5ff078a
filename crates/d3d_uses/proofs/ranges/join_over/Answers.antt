use Rattle.d3d_uses.proofs.Merged.{merged, joins}
use Rattle.d3d_uses.proofs.ranges.join_over.Goals as goal

pub returns-clause-joined : goal.returns-clause-joined
returns-clause-joined c =
    let old = c.args.ends.now.entries in
    let new = c.remove_between.new.ends.entries in
    let start = c.joined_start-start.result in
    let end = c.joined_end-end.result in
    let becomes = merged old c.insert.new.self.entries new start end c.in_ok-insert.ensures.updates.0 c.remove_between.ensures.removed in
    joins old new c.args.from c.args.to start end c.requires.apart c.requires.full c.joined_start-start.ensures c.joined_end-end.ensures becomes c.insert.ensures.was_ordered c.remove_between.ensures.ordered
