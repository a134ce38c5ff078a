use Rattle.std.proofs.Common.{◌+◌, refl, ap}
use Rattle.shader_model.specs.Body.{body_of}
use Rattle.shader_model.specs.Shader.{program_of}
use Rattle.spirv_emit.specs.Emits.{layout_of}
use Rattle.spirv_emit.proofs.Words.ModuleParts.{function_made}
use Rattle.spirv_emit.proofs.module.emit_function.Goals as goal

pub returns : goal.returns
returns c =
    function_made _ (layout_of c.args.plan.now) (program_of c.args.shader.now) c.declared.result.now (body_of c.body.result.now) _ _ c.in_ok-function.ensures c.in_ok-label.ensures (ap (λ n. n + c.args.plan.now.variables) c.first_variable.ensures.value) c.in_ok-variables.ensures refl refl
    c.in_ok-emit_nodes.ensures c.declared.ensures (ap body_of c.body.ensures.value) refl c.in_ok-label-2.ensures c.in_ok-leave.ensures c.in_ok-function_end.ensures
