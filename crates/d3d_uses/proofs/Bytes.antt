-- Which bytes ranges have, by where each range ends.
use Rattle.std.proofs.Common.{◌≡◌, ◌≢◌, ℕ, ◌<◌, ◌≤◌, min, max, Bool, true, false, [], ◌∷◌, inl, inr, Option, Some, None, sym, subst, ◌∙◌, arith}
use Rattle.std.specs.Bool.{Decides}
use Rattle.std.specs.List.{list_any, IsDistinct}
use Rattle.std.specs.List.Sorted.{IsStrictlySortedBy}
use Rattle.std.specs.Map.{keys_of}
use Rattle.std.specs.Ordering.{nat_cmp, eq_by_cmp, is_gt}
use Rattle.std.specs.BTreeMap.{is_at}
use Rattle.std.specs.Cmp.{nat_cmp_total, eq_by_cmp_equiv}
use Rattle.std.proofs.lemmas.Bool.{ltb-true, lt-ltb, or_cases, or_left, or_right, cases_Bool, cond-true, cond-false, false_from_ne_true}
use Rattle.std.proofs.lemmas.Bool.Decides.{nat_tests}
use Rattle.std.proofs.lemmas.Map.{lookup-none}
use Rattle.std.proofs.lemmas.Map.Keys.{IsDistinct-from_sorted, IsDistinct-tail}
use Rattle.std.proofs.lemmas.Map.Entries.{lookup_head, lookup_tail, none_past_head}
use Rattle.d3d_uses.specs.Ranges.{Ranges, overlap, meet_any, end_of}

pub same_place : (a : ℕ) → is_at (nat_cmp a) a ≡ true
same_place a = grind (arith, nat_tests)

pub is_place : (a b : ℕ) → is_at (nat_cmp a) b ≡ true → a ≡ b
is_place a b e = grind (arith, nat_tests)

pub other_place : (a b : ℕ) → a ≢ b → is_at (nat_cmp a) b ≡ false
other_place a b e = grind (arith, nat_tests)

-- one of the ranges has a byte from one place to another
pub record Met (rs : Ranges) (from to : ℕ) : Type 0 where
  pub start : ℕ
  pub end : ℕ
  pub is : end_of rs start ≡ Some end
  pub shares : max from start < min to end

-- the range that begins at a place is one of them
some_meets : (test : ℕ × ℕ → Bool) (rs : Ranges) (a b : ℕ) → end_of rs a ≡ Some b → test (a, b) ≡ true → list_any test rs ≡ true
some_meets test [] a b e t = absurd cc
some_meets test (r ∷ rs) a b e t = elim (cases_Bool (is_at (nat_cmp a) r.0)) [
  | inl same ↦
      let ends : Some r.1 ≡ Some b = sym (cond-true _ (Some r.1) (end_of rs a) same) ∙ e in
      let is : r.1 ≡ b = cc in
      or_left (test r) (list_any test rs) (subst (λ (x : ℕ × ℕ). test x ≡ true) (sym (pair r.0 r.1 a b (sym (is_place a r.0 same)) is)) t)
  | inr other ↦ or_right (test r) (list_any test rs) (some_meets test rs a b (sym (cond-false _ (Some r.1) (end_of rs a) other) ∙ e) t)
]
  where
    pair : (a b c d : ℕ) → a ≡ c → b ≡ d → ◌≡◌ {A = ℕ × ℕ} (a, b) (c, d)
    pair a b c d p q = cc

-- and each of ranges in order is the one that begins there
meets_some : (test : ℕ × ℕ → Bool) (rs : Ranges) → IsDistinct (eq_by_cmp nat_cmp) (keys_of rs) → list_any test rs ≡ true → (a : ℕ) × (b : ℕ) × (end_of rs a ≡ Some b) × (test (a, b) ≡ true)
meets_some test [] d t = absurd cc
meets_some test (r ∷ rs) d t = elim (or_cases (test r) (list_any test rs) t) [
  | inl here ↦ (r.0, r.1, lookup_head (is_at (nat_cmp r.0)) r rs (same_place r.0), here)
  | inr there ↦
      let m = meets_some test rs (IsDistinct-tail (eq_by_cmp nat_cmp) r.0 (keys_of rs) d) there in
      let past : is_at (nat_cmp m.0) r.0 ≡ true → ⊥ = λ same. absurd (none_is _ (lookup-none (is_at (nat_cmp m.0)) rs (none_past_head (eq_by_cmp_equiv nat_cmp_total) m.0 r rs d same)) m.2) in
      (m.0, m.1, lookup_tail (is_at (nat_cmp m.0)) r rs (false_from_ne_true _ past) ∙ m.2, m.3)
]
  where
    none_is : (o : Option ℕ) {b : ℕ} → o ≡ None → o ≡ Some b → ⊥
    none_is o e f = absurd cc

pub meet_any-Decides : (rs : Ranges) (from to : ℕ) → IsStrictlySortedBy nat_cmp (keys_of rs) → Decides (meet_any rs from to) (Met rs from to)
meet_any-Decides rs from to sorted = (
  λ t. let m = meets_some (overlap from to) rs (IsDistinct-from_sorted nat_cmp (keys_of rs) sorted) t in
      record { start = m.0; end = m.1; is = m.2; shares = ltb-true _ _ m.3 },
  λ m. some_meets (overlap from to) rs m.start m.end m.is (lt-ltb _ _ m.shares),
)

pub not_gt_from_le : (a b : ℕ) → a ≤ b → is_gt (nat_cmp a b) ≡ false
not_gt_from_le a b le = grind (arith, nat_tests)
