use Rattle.std.proofs.Common.{◌≡◌, ◌+◌, ◌-◌, ◌<◌, length, map, drop, sym, subst, arith}
use Rattle.spirv_model.specs.View.{shown}
use Rattle.spirv_run.specs.Decoding.{Knows}
use Rattle.spirv_run.proofs.Decoded.{mapped_at}
use Rattle.spirv_run.proofs.names.Names.of.Goals as goal

pub ops-preserved : goal.ops-preserved
ops-preserved c =
    let all = map shown c.args.ops.now in
    let same : c.ops.at - 1 + 1 ≡ c.ops.at = omega arith in
    let within : c.ops.at - 1 < length c.args.ops.now = omega arith in
    record {
      knows = subst (Knows c.add.new.self (c.ops.at - 1)) (sym (mapped_at shown c.args.ops.now (c.ops.at - 1) _ within))
          (c.in_ok-add.ensures (drop (c.ops.at - 1 + 1) all) (subst (λ k. Knows c.ops.names k (drop k all)) (sym same) c.ops.invariant.knows));
      within = omega arith;
    }
