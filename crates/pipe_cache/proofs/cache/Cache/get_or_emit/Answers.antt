use Rattle.std.proofs.Common.{List, ap, ◌∙◌}
use Rattle.pipe_cache.specs.Cells.{Noted, known_by}
use Rattle.pipe_cache.proofs.Notes.{known_elsewhere}
use Rattle.pipe_cache.proofs.cache.Cache.get_or_emit.Goals as goal

pub returns-clause-others : goal.returns-clause-others
returns-clause-others c = λ n apart.
    known_elsewhere c.args.self.now c.note.inside.notes.items n c.args.shader c.place-place.result c.get_or_emit.new.note apart c.requires.shader c.place-place.ensures
    ∙ ap (λ (notes : List Noted). known_by c.args.self.now notes n) c.note.view_is
