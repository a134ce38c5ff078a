use Rattle.std.proofs.Common.{◌≡◌, drop}
use Rattle.shader_model.specs.Opcodes.{row_among}
use Rattle.shader_tokens.proofs.table.find_row.Given as goal

abbrev pub invariant-loop-row : goal.invariant-loop-row
invariant-loop-row l = row_among l.number l.row-items ≡ row_among l.number (drop l.row-index l.row-items)
