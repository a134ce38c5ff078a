use Rattle.std.proofs.Common.{[], ◌∙◌, ap}
use Rattle.d3d_model.specs.D3dState.{bytes_if}
use Rattle.d3d_memory.proofs.Kept.{items_of, at_id, found_some, changed_at, unchanged_at}
use Rattle.d3d_memory.proofs.contents.Contents.take.Goals as goal
use Rattle.d3d_memory.proofs.contents.Contents.take.Goals.{in-Some, in-None}

pub returns-clause-value : goal.returns-clause-value
returns-clause-value c =
    elim c.match-get_mut.branch [
      | in-Some w ↦
          ap items_of w.result-is ∙ ap items_of w.replace.ensures.value
          ∙ ap bytes_if (at_id c.self.inside.buffers.entries c.args.self.now c.args.id _ c.self.view_is w.in-Some.ensures.value)
      | in-None w ↦
          ap items_of w.result-is ∙ w.new-in-None.ensures.items
          ∙ ap bytes_if (at_id c.self.inside.buffers.entries c.args.self.now c.args.id _ c.self.view_is w.in-None.ensures.value)
    ]

pub returns-clause-rest : goal.returns-clause-rest
returns-clause-rest c =
    let es = c.self.inside.buffers.entries in
    elim c.match-get_mut.branch [
      | in-Some w ↦
          let found = w.in-Some.ensures.value in
          let changed = (c.get_mut.follows.holds _).3 (found_some es c.args.id w.in-Some.bytes.now found) in
          rw w.self-inside-is (changed_at es _ c.args.self.now c.args.id (λ old. []) w.in-Some.bytes.now w.replace.new.dest c.self.view_is found changed.0 (ap items_of w.replace.ensures.after ∙ w.new.ensures.items))
      | in-None w ↦ rw (w.self-inside-is, c.get_mut.follows.holds-at-none) (c.self.view_is ∙ unchanged_at es c.args.self.now c.args.id _ c.self.view_is w.in-None.ensures.value)
    ]
