use Rattle.std.proofs.Common.{length, ap, arith}
use Rattle.shader_model.specs.Shader.{program_of}
use Rattle.spirv_emit.proofs.Size.FewNumbers.{numbers_few}
use Rattle.spirv_emit.proofs.module.plan_of.Goals as goal

pub invariant_of-result : goal.invariant_of-result
invariant_of-result c =
    let good = c.temps_of.ensures.good in
    record { room = omega (arith, ap length c.in_ok-numbers.ensures, numbers_few (program_of c.args.shader.now) good, good.nodes, c.temps_of.ensures.few) }

pub returns-clause-few : goal.returns-clause-few
returns-clause-few c =
    let good = c.temps_of.ensures.good in
    omega (arith, ap length c.in_ok-numbers.ensures, numbers_few (program_of c.args.shader.now) good, good.nodes, c.temps_of.ensures.few)
