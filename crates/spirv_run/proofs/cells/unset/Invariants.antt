use Rattle.std.proofs.Common.{◌≡◌, ℕ, ◌<◌, get_or}
use Rattle.spirv_run.specs.declared.cells.Cell.{Cell}
use Rattle.spirv_run.specs.Cells.{kept_of}
use Rattle.spirv_run.proofs.cells.unset.Given as goal

abbrev pub invariant-cells : goal.invariant-cells
invariant-cells l = record {
  kept : kept_of l.cells ≡ kept_of l.initial.cells;
  unset : (k : ℕ) (d : Cell) → k < l.cell-index → (get_or l.cells k d).turn ≡ 0;
}
