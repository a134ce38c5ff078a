use Rattle.std.proofs.Common.{◌≡◌, ◌-◌}
use Rattle.spirv_emit.specs.Numbers.{with_numbers, from_on}
use Rattle.spirv_emit.proofs.collect.add_below.Given as goal

abbrev pub invariant-loop-number : goal.invariant-loop-number
invariant-loop-number l = with_numbers l.initial.numbers (from_on 0 l.limit) ≡ with_numbers l.numbers (from_on l.number (l.limit - l.number))
