-- Numbers kept by ids, after each change.
use Rattle.std.proofs.Common.{◌≡◌, ℕ, ◌+◌, ◌-◌, ◌<◌, ◌^◌, Bool, true, false, cond, List, Option, Some, None, refl, sym, ap, subst, inl, inr, ◌∙◌, arith, eq-eqb}
use Rattle.std.specs.Prelude.{◌==◌, IsSome, unwrap_or}
use Rattle.std.specs.Option.{option_map}
use Rattle.std.specs.Ordering.{nat_cmp, eq_by_cmp}
use Rattle.std.specs.Map.{lookup}
use Rattle.std.specs.BTreeMap.{is_at}
use Rattle.std.proofs.lemmas.Bool.{cases_eq}
use Rattle.std.proofs.lemmas.Bool.Decides.{nat_tests}
use Rattle.base_lemmas.specs.IdMap.{empty, get, insert}
use Rattle.base_lemmas.specs.CodeMap.{map_of}
use Rattle.base_lemmas.proofs.Maps.{get-empty, get-insert, get_other, get_same}
use Rattle.base_lemmas.proofs.CodeMaps.{get-map_of}
use Rattle.d3d_lists.specs.Counts.{Counts, HasRoom, count_at, set_if}

same_value : (o : Option ℕ) → option_map (λ n. n) o ≡ o
same_value None = refl
same_value (Some n) = refl

-- the number of an id, by the entries of the code
pub found : (es : List (ℕ × ℕ)) (m : Counts) (id : ℕ) (o : Option ℕ) → map_of (λ n. n) es ≡ m → o ≡ lookup (is_at (nat_cmp id)) es → get m id ≡ o
found es m id o view e = sym (e ∙ sym (same_value _) ∙ sym (get-map_of (λ n. n) es id) ∙ ap (λ (n : Counts). get n id) view)

pub count-empty : (id : ℕ) → count_at empty id ≡ 0
count-empty id = ap (λ o. unwrap_or o 0) (get-empty ℕ id)

pub count-here : (m : Counts) (id n : ℕ) → count_at (insert m id n) id ≡ n
count-here m id n = ap (λ o. unwrap_or o 0) (get_same m id n)

pub count-there : (m : Counts) (id n k : ℕ) → (k ≡ id → ⊥) → count_at (insert m id n) k ≡ count_at m k
count-there m id n k apart = ap (λ o. unwrap_or o 0) (get_other m id n k apart)

abbrev one_if : Bool → ℕ
one_if b = cond b 1 0

here : (id : ℕ) → one_if (id == id) ≡ 1
here id = ap one_if (eq-eqb id id refl)

differs : (k id : ℕ) → (k ≡ id → ⊥) → k == id ≡ false
differs k id apart = grind (arith, nat_tests)

there : (k id : ℕ) → (k ≡ id → ⊥) → one_if (k == id) ≡ 0
there k id apart = ap one_if (differs k id apart)

some_cond : (b : Bool) (n : ℕ) (o : Option ℕ) → IsSome o → IsSome (cond b (Some n) o)
some_cond true n o h = refl
some_cond false n o h = h

pub some_insert : (m : Counts) (id n k : ℕ) → IsSome (get m k) → IsSome (get (insert m id n) k)
some_insert m id n k h = subst (λ (o : Option ℕ). IsSome o) (sym (get-insert m id n k)) (some_cond (eq_by_cmp nat_cmp k id) n (get m k) h)

-- ---- room

pub room_some : (m : Counts) (id n : ℕ) → get m id ≡ Some n → n < 2 ^ 63 → HasRoom m id 2
room_some m id n e below = (subst (λ (o : Option ℕ). IsSome o) (sym e) refl, omega (arith, ap (λ o. unwrap_or o 0) e, below))

pub room_new : (m : Counts) (id : ℕ) → HasRoom (insert m id 0) id 2
room_new m id = (subst (λ (o : Option ℕ). IsSome o) (sym (get_same m id 0)) refl, omega (arith, count-here m id 0))

-- a number of 0 at an id that had none changes none
pub same_new : (m : Counts) (id : ℕ) → get m id ≡ None → (k : ℕ) → count_at (insert m id 0) k ≡ count_at m k
same_new m id none k = elim (cases_eq k id) [
  | inl e ↦ rw e (count-here m id 0 ∙ sym (ap (λ o. unwrap_or o 0) none))
  | inr apart ↦ count-there m id 0 k apart
]

pub kept_new : (m : Counts) (id : ℕ) → get m id ≡ None → (k : ℕ) → HasRoom m k 2 → HasRoom (insert m id 0) k 2
kept_new m id none k h = (some_insert m id 0 k h.0, omega (arith, same_new m id none k, h.1))

-- ---- other numbers

set_some : (o : Option ℕ) (m : Counts) (id n : ℕ) → IsSome o → set_if o m id n ≡ insert m id n
set_some None m id n h = absurd cc
set_some (Some old) m id n h = refl

raised : (m : Counts) (id n : ℕ) → n ≡ count_at m id → (k : ℕ) → count_at (insert m id (n + 1)) k ≡ count_at m k + cond (k == id) 1 0
raised m id n is k = elim (cases_eq k id) [
  | inl e ↦ rw e (omega (arith, count-here m id (n + 1), is, here id))
  | inr apart ↦ omega (arith, count-there m id (n + 1) k apart, there k id apart)
]

pub raised_by : (m new : Counts) (id n : ℕ) → IsSome (get m id) → n ≡ count_at m id → new ≡ set_if (get m id) m id (n + 1) → (k : ℕ) → count_at new k ≡ count_at m k + cond (k == id) 1 0
raised_by m new id n some is set k = ap (λ (c : Counts). count_at c k) (set ∙ set_some (get m id) m id (n + 1) some) ∙ raised m id n is k

pub kept_by : (m new : Counts) (id n : ℕ) → IsSome (get m id) → new ≡ set_if (get m id) m id n → (k : ℕ) → IsSome (get m k) → IsSome (get new k)
kept_by m new id n some set k h = subst (λ (c : Counts). IsSome (get c k)) (sym (set ∙ set_some (get m id) m id n some)) (some_insert m id n k h)

lowered : (m : Counts) (id n : ℕ) (o : Option ℕ) → get m id ≡ o → n ≡ count_at m id - 1 → (k : ℕ) → count_at (set_if o m id n) k ≡ count_at m k - cond (k == id) 1 0
lowered m id n None e is k = elim (cases_eq k id) [
  | inl same ↦ rw same (omega (arith, ap (λ o. unwrap_or o 0) e))
  | inr apart ↦ omega (arith, there k id apart)
]
lowered m id n (Some old) e is k = elim (cases_eq k id) [
  | inl same ↦ rw same (omega (arith, count-here m id n, is, here id))
  | inr apart ↦ omega (arith, count-there m id n k apart, there k id apart)
]

pub lowered_by : (m new : Counts) (id n : ℕ) → n ≡ count_at m id - 1 → new ≡ set_if (get m id) m id n → (k : ℕ) → count_at new k ≡ count_at m k - cond (k == id) 1 0
lowered_by m new id n is set k = ap (λ (c : Counts). count_at c k) set ∙ lowered m id n (get m id) refl is k

cleared : (m : Counts) (id : ℕ) (o : Option ℕ) → get m id ≡ o → (k : ℕ) → count_at (set_if o m id 0) k ≡ cond (k == id) 0 (count_at m k)
cleared m id None e k = elim (cases_eq k id) [
  | inl same ↦ rw same (ap (λ o. unwrap_or o 0) e ∙ sym (ap (λ b. cond b 0 (count_at m id)) (eq-eqb id id refl)))
  | inr apart ↦ sym (ap (λ b. cond b 0 (count_at m k)) (differs k id apart))
]
cleared m id (Some old) e k = elim (cases_eq k id) [
  | inl same ↦ rw same (count-here m id 0 ∙ sym (ap (λ b. cond b 0 (count_at m id)) (eq-eqb id id refl)))
  | inr apart ↦ count-there m id 0 k apart ∙ sym (ap (λ b. cond b 0 (count_at m k)) (differs k id apart))
]

pub cleared_by : (m new : Counts) (id : ℕ) → new ≡ set_if (get m id) m id 0 → (k : ℕ) → count_at new k ≡ cond (k == id) 0 (count_at m k)
cleared_by m new id set k = ap (λ (c : Counts). count_at c k) set ∙ cleared m id (get m id) refl k
