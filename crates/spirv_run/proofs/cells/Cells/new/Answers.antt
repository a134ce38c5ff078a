use Rattle.spirv_run.proofs.CellLists.{cells_new}
use Rattle.spirv_run.proofs.cells.Cells.new.Goals as goal

pub returns : goal.returns
returns c = cells_new c.args.count c.in_ok-cells.cells.items (c.in_ok-cells.ensures.items_if_clones_equal (λ y h. h))
