use Rattle.std.proofs.Common.{ℕ, ◌<◌, ◌≤◌, ◌^◌, arith}
use Rattle.std.proofs.Math.Nat.{pow-le-pow_right}
use Rattle.immediate_ctx.proofs.class_blocks.length_of.Goals as goal

-- no class passes this power of four
power_small : (class : ℕ) → class < 8 → 4 ^ class ≤ 16384
power_small class lt = pow-le-pow_right {n = 4} (omega arith) {i = class} {j = 7} (omega arith)

pub pow-requires : goal.pow-requires
pow-requires c = omega (arith, power_small c.args.class c.requires)

pub overflow_mul-result : goal.overflow_mul-result
overflow_mul-result c = omega (arith, power_small c.args.class c.requires, c.pow.ensures)
