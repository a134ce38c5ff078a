use Rattle.std.proofs.Common.{◌+◌, ◌-◌, subst, arith, ◌≡◌}
use Rattle.vk_device.proofs.Giving.{OpsOn, ops_begin, ops_more, ops_end}
use Rattle.vk_device.proofs.complete.take_ops.Goals as goal

pub steps-init : goal.steps-init
steps-init c =
    subst (λ n. OpsOn c.args.queue.now c.args.count n c.new-ops.result.items c.args.queue.now) (let e : c.args.count ≡ c.args.count - 0 = omega arith in e)
    (ops_begin c.args.queue.now c.args.count c.new-ops.result.items c.new-ops.ensures.items)

pub steps-preserved : goal.steps-preserved
steps-preserved c =
    subst (λ n. OpsOn c.args.queue.now c.args.count n c.push_some.new.values.items c.pop-op.new.self) (let e : c.args.count - c.steps._at - 1 ≡ c.args.count - (c.steps._at + 1) = omega arith in e)
    (ops_more c.args.queue.now c.args.count (c.args.count - c.steps._at) c.steps.ops.items c.push_some.new.values.items c.pop-op.result c.steps.queue c.pop-op.new.self (omega arith)
    c.pop-op.ensures c.in_ok-push_some.ensures c.steps.invariant)

pub returns : goal.returns
returns c =
    let all = ops_end c.args.queue.now c.args.count (c.args.count - c.steps._at) c.steps.ops.items c.steps.queue (omega arith) c.steps.invariant in
    record { ops = all.0; rest = all.1 }
