use Rattle.std.proofs.Common.{None, get_or, refl, ◌∙◌, arith}
use Rattle.std.proofs.Math.Seq.{map-set_same}
use Rattle.spirv_run.specs.declared.value.Value.TheVariants.{Nothing}
use Rattle.spirv_run.specs.declared.cells.Cell.{Cell}
use Rattle.spirv_run.proofs.CellLists.{unset_more}
use Rattle.spirv_run.proofs.cells.unset.Goals as goal

pub cells-preserved : goal.cells-preserved
cells-preserved c =
    let cs = c.cells.cells in
    let i = c.cells.cell-index in
    let none : Cell = record { kept = None; turn = 0; value = Nothing } in
    let old = get_or cs i none in
    let new : Cell = record { kept = old.kept; turn = 0; value = old.value } in
    record {
      kept = map-set_same (λ (x : Cell). x.kept) cs i new none refl ∙ c.cells.invariant.kept;
      unset = unset_more cs i new refl (omega arith) c.cells.invariant.unset;
    }
