use Rattle.std.proofs.Common.{◌+◌, ◌++◌, map, drop, sym, ap, ◌∙◌}
use Rattle.spirv_model.specs.View.{shown}
use Rattle.spirv_run.specs.Decoding.{steps_from}
use Rattle.spirv_run.proofs.Decoded.{mapped_at, one_stepped}
use Rattle.spirv_run.proofs.decode.steps.Goals as goal

pub ops-preserved : goal.ops-preserved
ops-preserved c =
    let all = map shown c.args.ops.now in
    one_stepped all (steps_from all 0 all) c.ops.steps.items c.ops.at _ c.is_label_at-label_next.result c.step_of.result
    (mapped_at shown c.args.ops.now c.ops.at _ c.ops-test.true) c.is_label_at-label_next.ensures c.step_of.ensures c.ops.invariant
    ∙ ap (λ z. z ++ steps_from all (c.ops.at + 1) (drop (c.ops.at + 1) all)) (sym c.in_ok-push.ensures.items)
