use Rattle.std.proofs.Common.{◌∙◌, refl}
use Rattle.d3d_memory.proofs.Kept.{found_some, changed_at, unchanged_at}
use Rattle.d3d_memory.proofs.contents.Contents.restore.Goals as goal
use Rattle.d3d_memory.proofs.contents.Contents.restore.Goals.{in-Some, in-None}

pub returns : goal.returns
returns c =
    let es = c.self.inside.buffers.entries in
    elim c.match-get_mut.branch [
      | in-Some w ↦
          let found = w.in-Some.ensures.value in
          let changed = (c.get_mut.follows.holds _).3 (found_some es c.args.id w.in-Some.place.now found) in
          rw w.self-inside-is (changed_at es _ c.args.self.now c.args.id (λ old. c.args.bytes.items) w.in-Some.place.now c.args.bytes c.self.view_is found changed.0 refl)
      | in-None w ↦ rw (w.self-inside-is, c.get_mut.follows.holds-at-none) (c.self.view_is ∙ unchanged_at es c.args.self.now c.args.id _ c.self.view_is w.in-None.ensures.value)
    ]
