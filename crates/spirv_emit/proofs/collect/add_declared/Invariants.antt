use Rattle.std.proofs.Common.{◌≡◌, drop}
use Rattle.std.specs.Prelude.{flat_map}
use Rattle.spirv_emit.specs.Numbers.{with_numbers, declared_numbers}
use Rattle.spirv_emit.proofs.collect.add_declared.Given as goal

abbrev pub invariant-loop-one : goal.invariant-loop-one
invariant-loop-one l = with_numbers l.initial.numbers (flat_map declared_numbers l.declared) ≡ with_numbers l.numbers (flat_map declared_numbers (drop l.one-index l.declared))
