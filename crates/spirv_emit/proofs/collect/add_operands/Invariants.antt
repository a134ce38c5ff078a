use Rattle.std.proofs.Common.{◌≡◌, drop}
use Rattle.std.specs.Prelude.{flat_map}
use Rattle.spirv_emit.specs.Numbers.{with_numbers, operand_numbers}
use Rattle.spirv_emit.proofs.collect.add_operands.Given as goal

abbrev pub invariant-loop-operand : goal.invariant-loop-operand
invariant-loop-operand l = with_numbers l.initial.numbers (flat_map operand_numbers l.operands) ≡ with_numbers l.numbers (flat_map operand_numbers (drop l.operand-index l.operands))
