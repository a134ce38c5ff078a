-- A class that there is not.
use Rattle.std.proofs.Common.{◌≡◌, ℕ, ◌≤◌, true, false, ◌||◌, arith}
use Rattle.std.specs.Prelude.{◌==◌, nat_lt}
use Rattle.std.proofs.lemmas.Bool.Decides.{nat_tests}

pub other_class : (class k : ℕ) → true ≡ (nat_lt class 1 || nat_lt 5 class) → 1 ≤ k → k ≤ 5 → class == k ≡ false
other_class class k h least most = grind (arith, nat_tests)
