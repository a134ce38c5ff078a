use Rattle.std.proofs.Common.{◌≡◌, ℕ, ◌<◌, Some, get_or}
use Rattle.call_log.specs.Kinds.{Kind, kind_numbered}
use Rattle.call_log.proofs.table.kind_named.Given as goal

abbrev pub invariant-numbers : goal.invariant-numbers
invariant-numbers l = (i : ℕ) (k : Kind) → i < l.number-index → kind_numbered (get_or l.number-items i 0) ≡ Some k → k.name ≡ l.name → ⊥
