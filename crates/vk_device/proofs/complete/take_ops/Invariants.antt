use Rattle.std.proofs.Common.{◌-◌}
use Rattle.vk_device.proofs.Giving.{OpsOn}
use Rattle.vk_device.proofs.complete.take_ops.Given as goal

abbrev pub invariant-steps : goal.invariant-steps
invariant-steps l = OpsOn l.fn.queue l.count (l.count - l._at) l.ops.items l.queue
