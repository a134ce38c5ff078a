use Rattle.std.proofs.Common.{◌≡◌, ◌-◌, ◌++◌}
use Rattle.std.specs.Prelude.{map}
use Rattle.spirv_emit.specs.Numbers.{from_on}
use Rattle.spirv_emit.specs.Module.{buffer_variable}
use Rattle.spirv_emit.specs.Emits.{written}
use Rattle.spirv_emit.proofs.code.Code.buffers.Given as goal

abbrev pub invariant-loop-buffer : goal.invariant-loop-buffer
invariant-loop-buffer l =
    (l.initial.self.words ++ written (map buffer_variable (from_on 22 38)) ≡ l.self.words ++ written (map buffer_variable (from_on l.buffer (60 - l.buffer))))
    × (l.self.next ≡ l.initial.self.next)
