use Rattle.std.proofs.Common.{◌≤◌, arith}
use Rattle.std.proofs.lemmas.Map.Keys.{le_from_not_gt, ge_from_not_lt}
use Rattle.barrier_track.specs.Bytes.{start_of}
use Rattle.barrier_track.proofs.Bytes.{not_gt_from_le, none_unless}
use Rattle.barrier_track.proofs.ranges.last_until.Goals as goal

pub returns : goal.returns
returns c =
    let inside = c.range.ensures.in_range tt in
    let last = inside.3 _ _ c.in_ok-start.ensures.steps in (
      le_from_not_gt _ _ last.0.1,
      last.1,
      λ a lo hi.
          none_unless (start_of c.args.starts.now.entries a) (λ some.
          let le : a ≤ c.in_ok-start.start.now = ge_from_not_lt _ _ (inside.4 _ _ c.in_ok-start.ensures.steps a (tt, not_gt_from_le _ _ hi) some) in
          absurd (omega arith)),
    )
