use Rattle.std.proofs.Common.{◌≡◌, drop}
use Rattle.spirv_emit.specs.Numbers.{with_numbers}
use Rattle.spirv_emit.proofs.collect.add_all.Given as goal

abbrev pub invariant-loop-number : goal.invariant-loop-number
invariant-loop-number l = with_numbers l.initial.numbers l.more ≡ with_numbers l.numbers (drop l.number-index l.more)
