use Rattle.std.proofs.Common.{arith}
use Rattle.spirv_emit.proofs.plan.Plan.number.Goals as goal

pub overflow_cast-result : goal.overflow_cast-result
overflow_cast-result c = let h = c.args.self.now.room in let p = c.place.ensures.within in omega (arith, h, p)

pub overflow_add-result : goal.overflow_add-result
overflow_add-result c = let h = c.args.self.now.room in let p = c.place.ensures.within in omega (arith, h, p)
