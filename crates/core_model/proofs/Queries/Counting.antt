-- Sums of the invocations that commands ran, one command more.
use Rattle.std.proofs.Common.{◌≡◌, ℕ, zero, suc, ◌+◌, ◌<◌, false, cond, ◌==◌, refl, ap, inl, inr, arith}
use Rattle.std.proofs.lemmas.Bool.{cases_Bool, eqb-true, eq-eqb}
use Rattle.core_model.specs.Script.{InOrder}
use Rattle.core_model.specs.OtherParts.{sum_from}
use Rattle.core_model.specs.Invariant.{Totals}

sum_last : (f : ℕ → ℕ) (first n : ℕ) → sum_from f first (suc n) ≡ sum_from f first n + f (first + n)
sum_last f first zero = let z : first + 0 ≡ first = omega arith in let e = ap f z in omega (arith, e)
sum_last f first (suc n) =
    let r = sum_last f (suc first) n in
    let z : suc first + n ≡ first + suc n = omega arith in
    let e = ap f z in
    omega (arith, r, e)

sum_kept : (f g : ℕ → ℕ) (first n : ℕ) → ((m : ℕ) → m < first + n → f m ≡ g m) → sum_from f first n ≡ sum_from g first n
sum_kept f g first zero h = refl
sum_kept f g first (suc n) h =
    let a = h first (omega arith) in
    let r = sum_kept f g (suc first) n (λ m l. h m (omega (arith, l))) in
    omega (arith, a, r)

-- a count that is added at another number changes nothing here
elsewhere : (n k v : ℕ) → ((n == k) ≡ false) → cond (n == k) v 0 ≡ 0
elsewhere n k v h = ap (λ c. cond c v 0) h

differs : (n k : ℕ) → (n ≡ k → ⊥) → (n == k) ≡ false
differs n k h = elim (cases_Bool (n == k)) [ inl t ↦ absurd (h (eqb-true n k t)) | inr f ↦ f ]

-- the next command ran this many invocations
pub totals_more : (counts : ℕ → ℕ) (commands ran : ℕ) (state state' : InOrder) → Totals counts commands state
    → state'.total ≡ state.total + ran
    → Totals (λ n. counts n + cond (n == suc commands) ran 0) (suc commands) state'
totals_more counts commands ran state state' t e =
    let f : ℕ → ℕ = λ n. counts n + cond (n == suc commands) ran 0 in
    record {
      total =
          let a = t.total in
          let kept : sum_from f 1 commands ≡ sum_from counts 1 commands =
          sum_kept f counts 1 commands (λ m l. let z = elsewhere m (suc commands) ran
          (differs m (suc commands) (λ q. let x : ⊥ = omega (arith, l, q) in x)) in omega (arith, z)) in
          let last = sum_last f 1 commands in
          let one : 1 + commands ≡ suc commands = omega arith in
          let at : f (1 + commands) ≡ f (suc commands) = ap f one in
          let none = t.above (suc commands) (omega arith) in
          let here : cond (suc commands == suc commands) ran 0 ≡ ran =
          ap (λ c. cond c ran 0) (eq-eqb (suc commands) (suc commands) refl) in
          omega (arith, e, a, kept, last, at, none, here);
      above = λ n l.
          let none = t.above n (omega (arith, l)) in
          let z = elsewhere n (suc commands) ran (differs n (suc commands) (λ q. let x : ⊥ = omega (arith, l, q) in
          x)) in
          omega (arith, none, z);
    }
