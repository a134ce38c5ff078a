use Rattle.std.proofs.Common.{◌+◌, ◌<◌, ◌^◌, length, refl, ap, arith}
use Rattle.shader_model.specs.Shader.{program_of}
use Rattle.spirv_emit.specs.Module.{constants, body_start}
use Rattle.spirv_emit.specs.Emits.{layout_of}
use Rattle.spirv_emit.proofs.Words.Appending.{appends_to}
use Rattle.spirv_emit.proofs.Words.ModuleParts.{module_made}
use Rattle.spirv_emit.proofs.Size.SmallPieces.{ready_of}
use Rattle.spirv_emit.proofs.module.emit_code.Goals as goal

pub emit_function-requires-clause-ready : goal.emit_function-requires-clause-ready
emit_function-requires-clause-ready c =
    let few = c.in_ok-plan.ensures.few in
    let n : body_start (layout_of c.in_ok-plan.plan) < 2 ^ 31 = omega (arith, few) in
    ready_of (program_of c.args.shader.now) c.in_ok-plan.ensures.good (body_start (layout_of c.in_ok-plan.plan)) n

pub returns : goal.returns
returns c =
    let p = program_of c.args.shader.now in
    let n = c.preamble.new.self.next in
    let numbers = appends_to c.in_ok-numbers.ensures (ap (constants n) c.as_slice.ensures) (ap (λ v. n + length v) c.as_slice.ensures) in
    let m = module_made p _ c.in_ok-plan.plan.numbers c.in_ok-plan.plan.variables c.new.ensures refl c.group.ensures c.in_ok-plan.ensures.numbers c.in_ok-plan.ensures.variables c.in_ok-preamble.ensures numbers c.in_ok-emit_function.ensures in
    record { words = m.0; bound = m.1 }
