use Rattle.std.proofs.Common.{◌≡◌, ◌+◌, ◌++◌, drop}
use Rattle.spirv_emit.specs.Module.{constants}
use Rattle.spirv_emit.specs.Emits.{written}
use Rattle.spirv_emit.proofs.code.Code.numbers.Given as goal

abbrev pub invariant-loop-number : goal.invariant-loop-number
invariant-loop-number l =
    (l.initial.self.words ++ written (constants l.initial.self.next l.numbers) ≡ l.self.words ++ written (constants l.self.next (drop l.number-index l.numbers)))
    × (l.self.next ≡ l.initial.self.next + l.number-index)
