use Rattle.std.proofs.Common.{Some, ap, ◌∙◌, arith}
use Rattle.std.specs.Prelude.{slice_set}
use Rattle.std.proofs.lemmas.List.{map-set}
use Rattle.spirv_run.specs.declared.cells.Cell.{Cell}
use Rattle.spirv_run.specs.Cells.{Cells}
use Rattle.spirv_run.proofs.CellLists.{until_set, until_at}
use Rattle.spirv_run.proofs.cells.Cells.keep.Goals as goal

pub returns : goal.returns
returns c =
    let s = c.self.inside in
    map-set (λ (x : Cell). x.kept) s.cells.items c.args.id _
    ∙ ap (λ (o : Cells). slice_set o.kept c.args.id (Some c.args.value)) c.self.view_is
