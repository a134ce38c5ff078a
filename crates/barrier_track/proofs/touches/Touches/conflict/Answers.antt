use Rattle.std.proofs.Common.{◌≡◌, List, None, length, sym, ap, ◌∙◌, subst}
use Rattle.std.proofs.lemmas.Bool.{both_ways}
use Rattle.barrier_track.specs.declared.touches.Seen.{Seen}
use Rattle.barrier_track.specs.Touched.{Touched, NoneClashes}
use Rattle.barrier_track.specs.Since.{least_seen}
use Rattle.barrier_track.proofs.Touched.{no_clash, none_of_both}
use Rattle.barrier_track.proofs.touches.Touches.conflict.Goals as goal
use Rattle.barrier_track.proofs.touches.Touches.conflict.Goals.{then-meets, else-meets}

pub returns-else-some : goal.returns-else-some
returns-else-some c =
    let i = c.self.inside in
    let none : least_seen c.args.c.now i.seen.items ≡ None =
    elim c.if-meets.branch [
      | then-meets w ↦ absurd (both_ways c.if-meets.some c.if-some.false (w.some-is ∙ w.if-meets.true))
      | else-meets w ↦
          none_of_both c.args.c.now i.seen.items i.settled
          (no_clash i.seen.items i.settled i.touched i.written c.args.c.now c.self.invariant
          (c.meets.ensures w.if-meets.false))
          (subst (λ (l : List Seen). NoneClashes c.args.c.now l i.settled (length l)) w.deref.ensures.value (w.clashes_from-some.ensures (sym w.some-is ∙ c.if-some.false)))
    ] in
    sym none ∙ ap (λ (t : Touched). least_seen c.args.c.now t.seen) c.self.view_is
