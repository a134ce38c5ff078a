use Rattle.std.proofs.Common.{◌≤◌, ◌+◌, length}
use Rattle.vk_trace.specs.Reading.{Reads}
use Rattle.vk_trace.proofs.read.read_ops.Given as goal

abbrev pub invariant-lines : goal.invariant-lines
invariant-lines l = Reads l.fn.text l.rest l.ops.items l.number × (l.number + length l.rest ≤ 1 + length l.fn.text)

abbrev pub decreases-lines : goal.decreases-lines
decreases-lines l = length l.rest
