use Rattle.std.proofs.Common.{◌≡◌, drop}
use Rattle.shader_model.specs.Fields.{declared_among}
use Rattle.spirv_emit.proofs.lower.used_as.Given as goal

abbrev pub invariant-loop-declaration : goal.invariant-loop-declaration
invariant-loop-declaration l = declared_among l.opcode l.name.slot l.declared ≡ declared_among l.opcode l.name.slot (drop l.declaration-index l.declared)
