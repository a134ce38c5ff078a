use Rattle.std.proofs.Common.{sym, ◌∙◌, arith}
use Rattle.barrier_track.proofs.Bytes.{byte_start, none_begun, none_on, none_one}
use Rattle.barrier_track.proofs.ranges.meets.Goals as goal

pub walk-init : goal.walk-init
walk-init c = record {
  from = omega arith;
  to = omega arith;
  none = none_begun c.args.starts.now.entries c.args.from (sym c.byte.ensures ∙ c.if-byte.false);
}

pub walk-preserved : goal.walk-preserved
walk-preserved c =
    let rs = c.args.starts.now.entries in
    let first = c.in-Some.ensures in
    let start = c.in-Some.start in
    record {
      from = omega (arith, first.0, c.walk.invariant.from);
      to = omega (arith, first.1);
      none =
          none_one rs c.args.from start
          (none_on rs c.args.from c.walk.at start c.walk.invariant.from c.walk.invariant.none first.3)
          (byte_start rs start c.in-Some.has first.2 ∙ c.if-has.false);
    }

pub returns-then-has : goal.returns-then-has
returns-then-has c =
    let first = c.in-Some.ensures in
    let start = c.in-Some.start in
    (start, omega (arith, first.0, c.walk.invariant.from), first.1, byte_start c.args.starts.now.entries start c.in-Some.has first.2 ∙ c.if-has.true)

pub returns : goal.returns
returns c =
    none_on c.args.starts.now.entries c.args.from c.walk.at c.args.to c.walk.invariant.from c.walk.invariant.none
    c.in_default.ensures
