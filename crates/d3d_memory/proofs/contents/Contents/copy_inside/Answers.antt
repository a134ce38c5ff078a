use Rattle.std.proofs.Common.{◌+◌, ◌∙◌, refl}
use Rattle.d3d_model.specs.Regions.{put, slice}
use Rattle.d3d_memory.specs.Contents.{bytes_at}
use Rattle.d3d_memory.proofs.Kept.{found_some, written_at, unchanged_at, same_change}
use Rattle.d3d_memory.proofs.contents.Contents.copy_inside.Goals as goal
use Rattle.d3d_memory.proofs.contents.Contents.copy_inside.Goals.{in-Some, in-None}

pub returns : goal.returns
returns c =
    let es = c.self.inside.buffers.entries in
    elim c.match-get_mut.branch [
      | in-Some w ↦
          let found = w.in-Some.ensures.value in
          let changed = (c.get_mut.follows.holds _).3 (found_some es c.args.id w.in-Some.bytes.now found) in
          rw w.self-inside-is (
          written_at es _ c.args.self.now c.args.id (λ old. put old c.args.to (slice old c.args.from (c.args.from + c.args.len))) w.in-Some.bytes.now w.deref_mut.result.now w.put_own.new.bytes c.self.view_is found changed.0 w.deref_mut.ensures.value (w.put_own.auto.bytes ∙ w.deref_mut.ensures.len) w.put_own.ensures
          ∙ same_change (λ old. put old c.args.to (slice old c.args.from (c.args.from + c.args.len))) (λ old. put old c.args.to (slice (bytes_at c.args.self.now c.args.id) c.args.from (c.args.from + c.args.len))) c.args.self.now c.args.id refl
          )
      | in-None w ↦ rw (w.self-inside-is, c.get_mut.follows.holds-at-none) (c.self.view_is ∙ unchanged_at es c.args.self.now c.args.id _ c.self.view_is w.in-None.ensures.value)
    ]
