use Rattle.std.proofs.Common.{◌≡◌, ◌-◌, ◌++◌}
use Rattle.std.specs.Prelude.{flat_map}
use Rattle.spirv_emit.specs.Numbers.{from_on}
use Rattle.spirv_emit.specs.Module.{place_of}
use Rattle.spirv_emit.specs.Emits.{written}
use Rattle.spirv_emit.proofs.code.Code.decorate_buffers.Given as goal

abbrev pub invariant-loop-binding : goal.invariant-loop-binding
invariant-loop-binding l =
    (l.initial.self.words ++ written (flat_map place_of (from_on 0 38)) ≡ l.self.words ++ written (flat_map place_of (from_on l.binding (38 - l.binding))))
    × (l.self.next ≡ l.initial.self.next)
