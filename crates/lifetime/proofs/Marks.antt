-- What the order of marks tells.
use Rattle.std.proofs.Common.{◌≤◌, zero, suc, List, [], ◌∷◌, ◌++◌, All, arith}
use Rattle.lifetime.specs.declared.holds.Mark.{Mark}
use Rattle.lifetime.specs.Marks.{AreInOrder}

tail_all : (P : Mark → Type 0) (m : Mark) (ms : List Mark) → All P (m ∷ ms) → All P ms
tail_all P m ms all k d h = all (suc k) d (omega arith)

snoc_all : (P : Mark → Type 0) (ms : List Mark) (m : Mark) → All P ms → P m → All P (ms ++ m ∷ [])
snoc_all P [] m all here zero d h = here
snoc_all P [] m all here (suc k) d h = absurd (omega arith)
snoc_all P (x ∷ xs) m all here zero d h = all zero d (omega arith)
snoc_all P (x ∷ xs) m all here (suc k) d h = snoc_all P xs m (tail_all P x xs all) here k d (omega arith)

-- a mark of the greatest number comes last
pub snoc_in_order : (ms : List Mark) (m : Mark) → AreInOrder ms → All (λ (n : Mark). n.chunk ≤ m.chunk) ms → AreInOrder (ms ++ m ∷ [])
snoc_in_order [] m is below = (λ k d h. absurd (omega arith), tt)
snoc_in_order (x ∷ xs) m is below =
    (snoc_all (λ (n : Mark). x.chunk ≤ n.chunk) xs m is.0 (below zero x (omega arith)), snoc_in_order xs m is.1 (tail_all (λ (n : Mark). n.chunk ≤ m.chunk) x xs below))
