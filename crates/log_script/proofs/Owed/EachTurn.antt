-- What holds of each turn of each call holds of each turn of the script.
use Rattle.std.proofs.Common.{◌≡◌, ℕ, zero, suc, List, [], ◌∷◌, ◌++◌, length, subst}
use Rattle.std.specs.List.{AllByRecursion}
use Rattle.call_log.specs.Call.{Issued}
use Rattle.core_model.specs.Script.{Turn}
use Rattle.log_script.specs.Turns.{turns_of}
use Rattle.log_script.specs.LogScript.{turns_upto, script_of}
use Rattle.log_script.proofs.Owed.StayingFit.{all_by, all_append}

-- a turn of some call
abbrev pub OfSome : (ℕ → Turn → Type 0) → Turn → Type 0
OfSome P t = (n : ℕ) × P n t

pub turns_all : (P : ℕ → Turn → Type 0) (log : List Issued) → ((n : ℕ) → AllByRecursion (P n) (turns_of log n))
    → (n : ℕ) → AllByRecursion (OfSome P) (turns_upto log n)
unfolding turns_upto
turns_all P log each zero = tt
turns_all P log each (suc n) =
    all_append (OfSome P) (turns_upto log n) (turns_of log (suc n)) (turns_all P log each n)
    (all_by (P (suc n)) (OfSome P) (λ t h. (suc n, h)) (turns_of log (suc n)) (each (suc n)))

pub all_behind : (P : Turn → Type 0) (front : List Turn) (t : Turn) (back : List Turn)
    → AllByRecursion P (front ++ t ∷ back) → P t
all_behind P [] t back h = h.0
all_behind P (u ∷ front) t back h = all_behind P front t back h.1

pub each_turn : (P : ℕ → Turn → Type 0) (log : List Issued) → ((n : ℕ) → AllByRecursion (P n) (turns_of log n))
    → (front : List Turn) (t : Turn) (back : List Turn) → (script_of log).turns ≡ front ++ t ∷ back
    → OfSome P t
each_turn P log each front t back e = all_behind (OfSome P) front t back
    (subst (AllByRecursion (OfSome P)) e (turns_all P log each (length log)))
