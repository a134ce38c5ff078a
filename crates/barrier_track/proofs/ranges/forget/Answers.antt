use Rattle.std.proofs.Common.{◌≤◌, arith}
use Rattle.barrier_track.proofs.Bytes.{forgets_none, forgets_on, forgets_one}
use Rattle.barrier_track.proofs.ranges.forget.Goals as goal

pub walk-init : goal.walk-init
walk-init c = record { from = omega arith; to = c.requires; forgets = forgets_none c.args.starts.now.entries c.args.from }

pub walk-preserved : goal.walk-preserved
walk-preserved c =
    let first = c.in-Some.ensures in
    let lo : c.args.from ≤ c.in-Some.start = omega (arith, first.0, c.walk.invariant.from) in
    record {
      from = omega arith;
      to = omega (arith, first.1);
      forgets =
          forgets_one c.args.starts.now.entries c.walk.starts.entries c.remove.new.self.entries c.args.from
          c.in-Some.start lo
          (forgets_on c.args.starts.now.entries c.walk.starts.entries c.args.from c.walk.at c.in-Some.start
          c.walk.invariant.from first.0 c.walk.invariant.forgets first.3)
          c.remove.ensures.updates.0;
    }

pub returns : goal.returns
returns c =
    forgets_on c.args.starts.now.entries c.walk.starts.entries c.args.from c.walk.at c.args.to c.walk.invariant.from
    c.walk.invariant.to c.walk.invariant.forgets c.in_default.ensures
