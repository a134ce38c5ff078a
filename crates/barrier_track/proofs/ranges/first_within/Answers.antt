use Rattle.std.proofs.Common.{◌<◌, ◌≤◌, arith}
use Rattle.std.proofs.lemmas.Map.Keys.{le_from_not_gt}
use Rattle.barrier_track.specs.Bytes.{start_of}
use Rattle.barrier_track.proofs.Bytes.{not_gt_from_le, less_from_lt, lt_from_less, none_unless}
use Rattle.barrier_track.proofs.ranges.first_within.Goals as goal

pub returns : goal.returns
returns c =
    let inside = c.range.ensures.in_range tt in
    let steps = c.in_ok-start.ensures.steps in
    let first = rw steps at inside.1 in
    let end : c.in_ok-start.start.now < c.args.to = lt_from_less _ _ first.0.1 in (
      le_from_not_gt _ _ first.0.0,
      end,
      first.1,
      λ a lo hi.
          none_unless (start_of c.args.starts.now.entries a) (λ some.
          let lt : a < c.args.to = omega arith in
          let least = rw steps at (inside.2 a (not_gt_from_le _ _ lo, less_from_lt _ _ lt) some) in
          let le : c.in_ok-start.start.now ≤ a = le_from_not_gt _ _ least in
          absurd (omega arith)),
    )
