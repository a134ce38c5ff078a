use Rattle.std.proofs.Common.{length}
use Rattle.list_audit.proofs.Front.{SoFar}
use Rattle.list_audit.proofs.reading.read_front.Given as goal

abbrev pub invariant-lines : goal.invariant-lines
invariant-lines l = SoFar l.fn.text l.rest l.ops.items l.last

abbrev pub decreases-lines : goal.decreases-lines
decreases-lines l = length l.rest
