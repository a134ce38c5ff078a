use Rattle.std.proofs.Common.{ap, sym, ◌∙◌, ◌++◌}
use Rattle.barrier_track.specs.Tracked.{Tracked}
use Rattle.barrier_track.specs.Since.{least_seen, used_by, seen_by, cause_of}
use Rattle.barrier_track.proofs.Since.{barrier_is, added, begun}
use Rattle.barrier_track.proofs.tracker.Tracker.before.Goals as goal
use Rattle.barrier_track.proofs.tracker.Tracker.before.Goals.{then-is_some, else-is_some}

pub returns-clause-barrier : goal.returns-clause-barrier
returns-clause-barrier c = λ recent s.
    barrier_is c.args.self.now recent c.args.c.now c.conflict.result c.barrier_of-barrier.result
    (c.conflict.ensures ∙ ap (λ (t : Tracked). least_seen c.args.c.now t.seen) c.self.view_is)
    (c.barrier_of-barrier.ensures ∙ ap (λ (t : Tracked). cause_of t.uses c.conflict.result c.args.c.now.number) c.self.view_is)
    s

pub returns-clause-since : goal.returns-clause-since
returns-clause-since c = λ recent s.
    let is =
    barrier_is c.args.self.now recent c.args.c.now c.conflict.result c.barrier_of-barrier.result
    (c.conflict.ensures ∙ ap (λ (t : Tracked). least_seen c.args.c.now t.seen) c.self.view_is)
    (c.barrier_of-barrier.ensures ∙ ap (λ (t : Tracked). cause_of t.uses c.conflict.result c.args.c.now.number) c.self.view_is) s in
    elim c.if-is_some.branch [
      | then-is_some w ↦
          begun _ recent c.args.c.now c.barrier_of-barrier.result is (sym c.is_some.ensures ∙ w.if-is_some.true)
          (c.add.ensures ∙ ap (λ i. i.touches.seen ++ seen_by c.args.c.now) w.self-inside-is ∙ ap (λ l. l ++ seen_by c.args.c.now) w.clear.ensures.seen)
          (c.with-self-inside.ensures ∙ ap (λ i. used_by i.uses c.args.c.now) w.self-inside-is ∙ ap (λ u. used_by u c.args.c.now) w.none-self-inside.ensures)
      | else-is_some w ↦
          added c.args.self.now _ recent c.args.c.now c.barrier_of-barrier.result s is
          (sym c.is_some.ensures ∙ w.if-is_some.false)
          (c.add.ensures ∙ ap (λ i. i.touches.seen ++ seen_by c.args.c.now) w.self-inside-is ∙ ap (λ (t : Tracked). t.seen ++ seen_by c.args.c.now) c.self.view_is)
          (c.with-self-inside.ensures ∙ ap (λ i. used_by i.uses c.args.c.now) w.self-inside-is ∙ ap (λ (t : Tracked). used_by t.uses c.args.c.now) c.self.view_is)
    ]
