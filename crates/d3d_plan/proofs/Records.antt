-- The records of a log, by number.
use Rattle.std.proofs.Common.{◌≡◌, ℕ, zero, suc, ◌+◌, ◌≤◌, ◌<◌, List, [], ◌∷◌, length, Some, None, arith, add-one}
use Rattle.std.specs.Prelude.{slice_get}
use Rattle.call_log.specs.Grammar.{Frame, frame_no}

in_list : {X : Type 0} (xs : List X) (n : ℕ) (x : X) → slice_get xs n ≡ Some x → n < length xs
in_list [] n x e = absurd cc
in_list (y ∷ ys) zero x e = omega arith
in_list (y ∷ ys) (suc n) x e = let h = in_list ys n x e in omega (arith, h)

past_list : {X : Type 0} (xs : List X) (n : ℕ) → None ≡ slice_get xs n → length xs ≤ n
past_list [] n e = omega arith
past_list (y ∷ ys) zero e = absurd cc
past_list (y ∷ ys) (suc n) e = let h = past_list ys n e in omega (arith, h)

-- a record has a number from 1 to the count
pub numbered : (frames : List Frame) (n : ℕ) (f : Frame) → frame_no frames n ≡ Some f → n ≤ length frames
numbered frames zero f e = omega arith
numbered frames (suc n) f e = let h = in_list frames n f e in omega (arith, h)

pub past_all : (frames : List Frame) (n : ℕ) → None ≡ frame_no frames (n + 1) → length frames ≤ n
past_all frames n e = past_list frames n (rw add-one at e)
