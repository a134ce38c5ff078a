use Rattle.std.proofs.Common.{◌≤◌, ◌+◌, length}
use Rattle.log_text.specs.Reading.{Assembles}
use Rattle.log_text.proofs.read.asm.Given as goal

abbrev pub invariant-lines : goal.invariant-lines
invariant-lines l = Assembles l.fn.text l.rest l.log.items l.number × (l.number + length l.rest ≤ 2 + length l.fn.text)

abbrev pub decreases-lines : goal.decreases-lines
decreases-lines l = length l.rest
