use Rattle.d3d_uses.proofs.Merged.{merged_alone, ends_alone, joins}
use Rattle.d3d_uses.proofs.ranges.put_alone.Goals as goal

pub returns-clause-joined : goal.returns-clause-joined
returns-clause-joined c =
    let old = c.args.ends.now.entries in
    let new = c.insert.new.self.entries in
    let alone = c.requires.alone in
    let becomes = merged_alone old new c.args.from c.args.to c.args.start alone c.in_ok-insert.ensures.updates.0 in
    joins old new c.args.from c.args.to c.args.start c.args.to c.requires.apart c.requires.full alone.starts (ends_alone old c.args.from c.args.to c.args.start alone) becomes c.insert.ensures.was_ordered c.insert.ensures.ordered
