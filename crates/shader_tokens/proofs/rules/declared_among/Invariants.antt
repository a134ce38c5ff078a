use Rattle.std.proofs.Common.{◌≡◌, drop}
use Rattle.shader_model.specs.Fields.{declared_among}
use Rattle.shader_tokens.proofs.rules.declared_among.Given as goal

abbrev pub invariant-loop-declaration : goal.invariant-loop-declaration
invariant-loop-declaration l = declared_among l.opcode l.slot l.declared ≡ declared_among l.opcode l.slot (drop l.declaration-index l.declared)
