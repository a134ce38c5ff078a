use Rattle.std.proofs.Common.{◌<◌, length, sym, ◌∙◌, arith}
use Rattle.std.proofs.lemmas.Option.{slice_get_within}
use Rattle.barrier_track.proofs.Touched.{clash_more, clash_end}
use Rattle.barrier_track.proofs.touches.clashes_from.Goals as goal

pub walk-preserved : goal.walk-preserved
walk-preserved c =
    let here = sym c.touch_at.ensures ∙ c.in-Some.is in
    let within : c.walk.at < length c.args.seen.now = slice_get_within c.args.seen.now c.walk.at c.in-Some.s here in
    record {
      within = omega arith;
      none =
          clash_more c.args.c.now c.args.seen.now c.args.from c.walk.at c.in-Some.s here
          (sym c.clashes.ensures ∙ c.if-clashes.false) c.walk.invariant.none;
    }

pub returns : goal.returns
returns c = λ e. clash_end c.args.c.now c.args.seen.now c.args.from c.walk.at (sym c.touch_at.ensures ∙ c.in_default.is) c.walk.invariant.none
