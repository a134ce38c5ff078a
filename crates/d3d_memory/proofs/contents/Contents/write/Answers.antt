use Rattle.std.proofs.Common.{◌∙◌}
use Rattle.d3d_memory.proofs.Kept.{found_some, written_at, unchanged_at}
use Rattle.d3d_memory.proofs.contents.Contents.write.Goals as goal
use Rattle.d3d_memory.proofs.contents.Contents.write.Goals.{in-Some, in-None}

pub returns : goal.returns
returns c =
    let es = c.self.inside.buffers.entries in
    elim c.match-get_mut.branch [
      | in-Some w ↦
          let found = w.in-Some.ensures.value in
          let changed = (c.get_mut.follows.holds _).3 (found_some es c.args.id w.in-Some.bytes.now found) in
          rw w.self-inside-is (
          written_at es _ c.args.self.now c.args.id _ w.in-Some.bytes.now w.deref_mut.result.now w.put.new.bytes c.self.view_is found changed.0 w.deref_mut.ensures.value (w.put.auto.bytes ∙ w.deref_mut.ensures.len) w.put.ensures
          )
      | in-None w ↦ rw (w.self-inside-is, c.get_mut.follows.holds-at-none) (c.self.view_is ∙ unchanged_at es c.args.self.now c.args.id _ c.self.view_is w.in-None.ensures.value)
    ]
