use Rattle.std.proofs.Common.{arith}
use Rattle.d3d_resources.proofs.LeastClass.{power_small}
use Rattle.d3d_resources.proofs.classes.class_length.Goals as goal

pub pow-requires : goal.pow-requires
pow-requires c = omega (arith, power_small c.args.class c.requires)

pub overflow_mul-result : goal.overflow_mul-result
overflow_mul-result c = omega (arith, power_small c.args.class c.requires, c.pow.ensures)
