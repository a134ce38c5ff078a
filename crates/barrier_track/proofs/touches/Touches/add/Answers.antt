use Rattle.std.proofs.Common.{List, sym, subst}
use Rattle.barrier_track.specs.declared.touches.Seen.{Seen}
use Rattle.barrier_track.specs.Touched.{HaveBytes}
use Rattle.barrier_track.specs.Since.{seen_by}
use Rattle.barrier_track.proofs.Touched.{bytes_push}
use Rattle.barrier_track.proofs.touches.Touches.add.Goals as goal

pub invariant_of-self : goal.invariant_of-self
invariant_of-self c =
    let i = c.self.inside in
    subst (λ (l : List Seen). HaveBytes l i.settled i.touched i.written) (sym c.add.ensures)
    (bytes_push i.seen.items (seen_by c.args.c.now) i.settled i.touched i.written c.self.invariant)
