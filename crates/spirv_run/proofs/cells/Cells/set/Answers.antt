use Rattle.std.proofs.Common.{Some, length, ap, ◌∙◌, arith}
use Rattle.std.specs.Prelude.{slice_set}
use Rattle.std.proofs.lemmas.List.{length-map}
use Rattle.spirv_run.specs.declared.cells.Cell.{Cell}
use Rattle.spirv_run.specs.Cells.{Cells, held_in}
use Rattle.spirv_run.proofs.CellLists.{until_set, cells_set}
use Rattle.spirv_run.proofs.cells.Cells.set.Goals as goal

pub invariant_of-self : goal.invariant_of-self
invariant_of-self c = let s = c.self.inside in until_set s.turn s.cells.items c.args.id _ (omega arith) c.self.invariant

pub returns-clause-set : goal.returns-clause-set
returns-clause-set c =
    let s = c.self.inside in
    cells_set s.turn s.cells.items c.args.id c.args.value c.index.result.now c.index.result.now.kept (ap (λ (x : Cell). x.kept) c.index.ensures)
    ∙ ap (λ (o : Cells). record o { held = slice_set o.held c.args.id (Some c.args.value) }) c.self.view_is

pub returns-clause-within : goal.returns-clause-within
returns-clause-within c =
    let s = c.self.inside in
    let held = ap (λ (o : Cells). length o.held) c.self.view_is in
    let kept = ap (λ (o : Cells). length o.kept) c.self.view_is in
    omega (arith, c.requires, held, kept, length-map s.cells.items (held_in s.turn), length-map s.cells.items (λ (x : Cell). x.kept))
