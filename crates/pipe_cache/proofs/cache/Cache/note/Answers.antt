use Rattle.std.proofs.Common.{◌≡◌, List, map, sym, ap, subst, ◌∙◌}
use Rattle.std.proofs.lemmas.List.{take_all}
use Rattle.pipe_cache.specs.Cells.{AreNotesOf, Cell, Noted, known_by, unnoted_of}
use Rattle.pipe_cache.proofs.Notes.{new_notes, new_notes_know_nothing}
use Rattle.pipe_cache.proofs.cache.Cache.note.Goals as goal

pub returns-clause-note : goal.returns-clause-note
returns-clause-note c =
    let noted : c.cells.notes.items ≡ map unnoted_of c.args.self.now =
    c.cells.invariant ∙ ap (λ (cells : List Cell). map unnoted_of cells) (take_all _ _ c.cells-test.false ∙ c.deref-cell-items.ensures.value ∙ c.self.view_is) in
    subst (λ (notes : List Noted). AreNotesOf c.args.self.now notes) (sym noted) (new_notes c.args.self.now)

pub returns-clause-nothing : goal.returns-clause-nothing
returns-clause-nothing c = λ n.
    let noted : c.cells.notes.items ≡ map unnoted_of c.args.self.now =
    c.cells.invariant ∙ ap (λ (cells : List Cell). map unnoted_of cells) (take_all _ _ c.cells-test.false ∙ c.deref-cell-items.ensures.value ∙ c.self.view_is) in
    ap (λ (notes : List Noted). known_by c.args.self.now notes n) noted ∙ new_notes_know_nothing c.args.self.now n
