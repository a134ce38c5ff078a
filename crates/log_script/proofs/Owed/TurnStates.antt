-- From the turns of each call to the turns of the script.
use Rattle.std.proofs.Common.{◌≡◌, ℕ, zero, suc, List, [], ◌∷◌, ◌++◌, length, subst}
use Rattle.std.specs.List.{AllByRecursion}
use Rattle.call_log.specs.Call.{Issued}
use Rattle.d3d_model.specs.InOrder.{State, before_call}
use Rattle.core_model.specs.Script.{Turn}
use Rattle.log_script.specs.Turns.{turns_of}
use Rattle.log_script.specs.LogScript.{turns_upto, script_of}

pub all_both : {X : Type 0} (P : X → Type 0) (xs ys : List X) → AllByRecursion P xs → AllByRecursion P ys
    → AllByRecursion P (xs ++ ys)
all_both P [] ys h k = k
all_both P (x ∷ xs) ys h k = (h.0, all_both P xs ys h.1 k)

pub all_more : {X : Type 0} (P Q : X → Type 0) (xs : List X) → ((x : X) → P x → Q x) → AllByRecursion P xs
    → AllByRecursion Q xs
all_more P Q [] f h = tt
all_more P Q (x ∷ xs) f h = (f x h.0, all_more P Q xs f h.1)

all_amid : {X : Type 0} (P : X → Type 0) (front : List X) (x : X) (back : List X)
    → AllByRecursion P (front ++ x ∷ back) → P x
all_amid P [] x back h = h.0
all_amid P (f ∷ front) x back h = all_amid P front x back h.1

-- a turn of some call of the log, for which this holds in the state that the call meets
abbrev pub OfCall : (ℕ → State → Turn → Type 0) → List Issued → Turn → Type 0
OfCall P log t = (n : ℕ) × P n (before_call log n) t

-- what holds of the turns of each call holds of each turn up to a call
pub each_turn : (P : ℕ → State → Turn → Type 0) (log : List Issued)
    → ((n : ℕ) → AllByRecursion (P (suc n) (before_call log (suc n))) (turns_of log (suc n)))
    → (n : ℕ) → AllByRecursion (OfCall P log) (turns_upto log n)
unfolding turns_upto
each_turn P log h zero = tt
each_turn P log h (suc n) =
    all_both (OfCall P log) (turns_upto log n) (turns_of log (suc n)) (each_turn P log h n)
    (all_more (P (suc n) (before_call log (suc n))) (OfCall P log) (turns_of log (suc n)) (λ t p. (suc n, p)) (h n))

-- and of each turn of the script
pub script_turn : (P : ℕ → State → Turn → Type 0) (log : List Issued)
    → ((n : ℕ) → AllByRecursion (P (suc n) (before_call log (suc n))) (turns_of log (suc n)))
    → (front : List Turn) (t : Turn) (back : List Turn) → (script_of log).turns ≡ front ++ t ∷ back → OfCall P log t
script_turn P log h front t back e =
    all_amid (OfCall P log) front t back (subst (λ ts. AllByRecursion (OfCall P log) ts) e
    (each_turn P log h (length log)))
