-- Sums over commands, as one more is counted.
use Rattle.std.proofs.Common.{◌≡◌, ℕ, ◌+◌, ◌<◌, inl, inr, Bool, true, false, cond, nat_le, nat_lt, ◌&&◌, List, [], ◌∷◌, Some, refl, sym, ap, ◌∙◌, sum_by, arith}
use Rattle.std.specs.List.Sorted.{IsStrictlySortedBy}
use Rattle.std.specs.Map.{keys_of, lookup}
use Rattle.std.specs.Option.{unwrap_or}
use Rattle.std.specs.Ordering.{nat_cmp, match_ordering}
use Rattle.std.specs.BTreeMap.{is_at, insert_entry}
use Rattle.std.specs.Cmp.{nat_cmp_total}
use Rattle.std.specs.declared.cmp.Ordering.TheVariants.{Less, Equal, Greater}
use Rattle.std.proofs.lemmas.Bool.{cases_order, cond-true, cond-false}
use Rattle.std.proofs.lemmas.Bool.Decides.{nat_tests}
use Rattle.std.proofs.lemmas.Map.{lookup-none}
use Rattle.std.proofs.lemmas.Map.Keys.{sorted_tail}
use Rattle.std.proofs.lemmas.Map.Entries.{none_below_head}
use Rattle.std.proofs.lemmas.List.Sums.{sum_by-cons}
use Rattle.query_pool.specs.Asked.{counted_of, counted_more, part_between, invocations_between, invocations_of}

-- ---- an entry is put in

-- a measure of entries that is 0 where nothing was run
module _ (f : ℕ × ℕ → ℕ) (zero_at : (k : ℕ) → f (k, 0) ≡ 0) where
  put_less : (e : ℕ × ℕ) (es : List (ℕ × ℕ)) (k v : ℕ) → IsStrictlySortedBy nat_cmp (keys_of (e ∷ es)) → nat_cmp k e.0 ≡ Less
      → sum_by f (insert_entry nat_cmp (e ∷ es) k v) + f (k, counted_of k (e ∷ es)) ≡ sum_by f (e ∷ es) + f (k, v)
  put_less e es k v sorted less =
      let none = lookup-none (is_at (nat_cmp k)) (e ∷ es) (none_below_head nat_cmp_total k e es sorted less) in
      let put = ap (λ o. sum_by f (match_ordering o ((k, v) ∷ e ∷ es) ((e.0, v) ∷ es) (e ∷ insert_entry nat_cmp es k v))) less ∙ sum_by-cons f (k, v) (e ∷ es) in
      let had : f (k, counted_of k (e ∷ es)) ≡ 0 = ap (λ o. f (k, unwrap_or o 0)) none ∙ zero_at k in
      omega (arith, put, had)

  put_equal : (e : ℕ × ℕ) (es : List (ℕ × ℕ)) (k v : ℕ) → nat_cmp k e.0 ≡ Equal → k ≡ e.0
      → sum_by f (insert_entry nat_cmp (e ∷ es) k v) + f (k, counted_of k (e ∷ es)) ≡ sum_by f (e ∷ es) + f (k, v)
  put_equal e es k v equal same =
      let put = ap (λ o. sum_by f (match_ordering o ((k, v) ∷ e ∷ es) ((e.0, v) ∷ es) (e ∷ insert_entry nat_cmp es k v))) equal ∙ sum_by-cons f (e.0, v) es in
      let found : is_at (nat_cmp k) e.0 ≡ true = grind (arith, nat_tests) in
      let had : f (k, counted_of k (e ∷ es)) ≡ f e = ap (λ o. f (k, unwrap_or o 0)) (cond-true (is_at (nat_cmp k) e.0) (Some e.1) (lookup (is_at (nat_cmp k)) es) found) ∙ ap (λ q. f (q, e.1)) same in
      let old = sum_by-cons f e es in
      let key : f (e.0, v) ≡ f (k, v) = ap (λ q. f (q, v)) (sym same) in
      omega (arith, put, had, old, key)

  pub put_sum : (es : List (ℕ × ℕ)) (k v : ℕ) → IsStrictlySortedBy nat_cmp (keys_of es) → sum_by f (insert_entry nat_cmp es k v) + f (k, counted_of k es) ≡ sum_by f es + f (k, v)
  put_sum [] k v sorted = omega (arith, zero_at k)
  put_sum (e ∷ es) k v sorted = elim (cases_order k e.0) [
    | inl same ↦ put_equal e es k v (equal same) same
    | inr (inl lt) ↦ put_less e es k v sorted (less lt)
    | inr (inr gt) ↦
        let more = greater gt in
        let put = ap (λ o. sum_by f (match_ordering o ((k, v) ∷ e ∷ es) ((e.0, v) ∷ es) (e ∷ insert_entry nat_cmp es k v))) more ∙ sum_by-cons f e (insert_entry nat_cmp es k v) in
        let past : is_at (nat_cmp k) e.0 ≡ false = grind (arith, nat_tests) in
        let had : f (k, counted_of k (e ∷ es)) ≡ f (k, counted_of k es) = ap (λ o. f (k, unwrap_or o 0)) (cond-false (is_at (nat_cmp k) e.0) (Some e.1) (lookup (is_at (nat_cmp k)) es) past) in
        let rest = put_sum es k v (sorted_tail nat_cmp e.0 (keys_of es) sorted) in
        let old = sum_by-cons f e es in
        omega (arith, put, had, rest, old)
  ]
    where
      equal : k ≡ e.0 → nat_cmp k e.0 ≡ Equal
      equal same = grind (arith, nat_tests)

      less : k < e.0 → nat_cmp k e.0 ≡ Less
      less lt = grind (arith, nat_tests)

      greater : e.0 < k → nat_cmp k e.0 ≡ Greater
      greater gt = grind (arith, nat_tests)

if_none : (b : Bool) → ◌≡◌ {A = ℕ} (cond b 0 0) 0
if_none true = refl
if_none false = refl

if_both : (b : Bool) (m n : ℕ) → cond b (m + n) 0 ≡ cond b m 0 + cond b n 0
if_both true m n = refl
if_both false m n = refl

-- a count more, in what lies between two numbers
pub between_more : (es : List (ℕ × ℕ)) (k n : ℕ) → IsStrictlySortedBy nat_cmp (keys_of es) → (from to : ℕ)
    → invocations_between from to (counted_more es k n) ≡ invocations_between from to es + part_between from to (k, n)
between_more es k n sorted from to =
    let before = counted_of k es in
    let put = put_sum (part_between from to) (λ k. if_none (nat_le from k && nat_lt k to)) es k (before + n) sorted in
    let both = if_both (nat_le from k && nat_lt k to) before n in
    omega (arith, put, both)

-- a count more, in all
pub all_more : (es : List (ℕ × ℕ)) (k n : ℕ) → IsStrictlySortedBy nat_cmp (keys_of es) → invocations_of (counted_more es k n) ≡ invocations_of es + n
all_more es k n sorted =
    let put = put_sum (λ (e : ℕ × ℕ). e.1) (λ k. refl) es k (counted_of k es + n) sorted in
    omega (arith, put)
