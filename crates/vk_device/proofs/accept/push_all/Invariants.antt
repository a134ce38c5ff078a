use Rattle.std.proofs.Common.{◌≡◌, ◌++◌, length, map}
use Rattle.command_queue.specs.Readiness.{fresh}
use Rattle.vk_device.proofs.accept.push_all.Given as goal

abbrev pub invariant-each : goal.invariant-each
invariant-each l = l.queue ++ map fresh l.rest.items ≡ l.fn.queue ++ map fresh l.fn.ops.items

abbrev pub decreases-each : goal.decreases-each
decreases-each l = length l.rest.items
