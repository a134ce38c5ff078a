-- A command is counted in running sums.
use Rattle.std.proofs.Common.{◌≡◌, ℕ, zero, suc, ◌+◌, ◌-◌, ◌<◌, ◌≤◌, ◌^◌, inl, inr, Bool, true, false, cond, nat_lt, List, [], ◌∷◌, length, get_or, set, Some, None, refl, sym, ap, ◌∙◌, add-one, arith}
use Rattle.std.specs.Prelude.{◌==◌}
use Rattle.std.specs.List.{AllByRecursion, insert}
use Rattle.std.specs.List.Sorted.{IsStrictlySortedBy}
use Rattle.std.specs.Map.{keys_of, lookup}
use Rattle.std.specs.Option.{unwrap_or}
use Rattle.std.specs.Ordering.{nat_cmp, match_ordering}
use Rattle.std.specs.BTreeMap.{is_at, insert_entry}
use Rattle.std.specs.declared.cmp.Ordering.TheVariants.{Less, Equal, Greater}
use Rattle.std.proofs.lemmas.Bool.{cases_order, cond-true, cond-false}
use Rattle.std.proofs.lemmas.Bool.Decides.{nat_tests}
use Rattle.std.proofs.lemmas.List.{length-set, get_or-set_other}
use Rattle.std.proofs.lemmas.List.Sums.{sum_by-cons}
use Rattle.query_pool.specs.declared.sums.Sum.{Sum}
use Rattle.query_pool.specs.Asked.{counted_of, counted_more, invocations_of}
use Rattle.query_pool.specs.Running.{AllFit, Climbs, below, counts_from, placed, raised, raised_from, sum_at}

same_test : (a b : ℕ) → a ≡ b → (a == b) ≡ true
same_test a b e = grind (arith, nat_tests)

other_test : (a b : ℕ) → (a ≡ b → ⊥) → (a == b) ≡ false
other_test a b differ = by (a == b) (λ t. differ (is_same a b t))
  where
    is_same : (a b : ℕ) → (a == b) ≡ true → a ≡ b
    is_same a b t = grind (arith, nat_tests)

    by : (t : Bool) → (t ≡ true → ⊥) → t ≡ false
    by true not_true = absurd (not_true refl)
    by false not_true = refl

-- A place --------------------------------------------------------------------------------------------------------------------

pub placed_there : (k s : ℕ) (xs : List Sum) (d : Sum) → below k xs < length xs → (get_or xs (below k xs) d).command ≡ k → placed k s xs ≡ xs
placed_there k s [] d lt e = absurd (omega arith)
placed_there k s (x ∷ xs) d lt e = by (nat_lt x.command k) (placed_there k x.upto xs d) lt e
  where
    by : (t : Bool) → (below k xs < length xs → (get_or xs (below k xs) d).command ≡ k → placed k x.upto xs ≡ xs)
        → cond t (suc (below k xs)) 0 < suc (length xs) → (get_or (x ∷ xs) (cond t (suc (below k xs)) 0) d).command ≡ k
        → cond t (x ∷ placed k x.upto xs) (cond (x.command == k) (x ∷ xs) (record { command = k; upto = s } ∷ x ∷ xs)) ≡ x ∷ xs
    by true rest lt e = ap (λ l. x ∷ l) (rest (omega arith) e)
    by false rest lt e = cond-true (x.command == k) (x ∷ xs) (record { command = k; upto = s } ∷ x ∷ xs) (same_test x.command k e)

abbrev IsNew : ℕ → List Sum → Sum → Type 0
IsNew k xs d = below k xs < length xs → (get_or xs (below k xs) d).command ≡ k → ⊥

pub placed_new : (k s : ℕ) (xs : List Sum) (d : Sum) → IsNew k xs d
    → placed k s xs ≡ insert xs (below k xs) (record { command = k; upto = sum_at s xs (below k xs) })
placed_new k s [] d new = refl
placed_new k s (x ∷ xs) d new = by (nat_lt x.command k) (placed_new k x.upto xs d) new
  where
    by : (t : Bool) → (IsNew k xs d → placed k x.upto xs ≡ insert xs (below k xs) (record { command = k; upto = sum_at x.upto xs (below k xs) }))
        → (cond t (suc (below k xs)) 0 < suc (length xs) → (get_or (x ∷ xs) (cond t (suc (below k xs)) 0) d).command ≡ k → ⊥)
        → cond t (x ∷ placed k x.upto xs) (cond (x.command == k) (x ∷ xs) (record { command = k; upto = s } ∷ x ∷ xs))
        ≡ insert (x ∷ xs) (cond t (suc (below k xs)) 0) (record { command = k; upto = sum_at s (x ∷ xs) (cond t (suc (below k xs)) 0) })
    by true rest new = ap (λ l. x ∷ l) (rest (λ lt e. new (omega arith) e))
    by false rest new = cond-false (x.command == k) (x ∷ xs) (record { command = k; upto = s } ∷ x ∷ xs) (other_test x.command k (new (omega arith)))

pub there_at : (at k s : ℕ) (xs : List Sum) (d : Sum) → at ≡ below k xs → at < length xs → ((get_or xs at d).command == k) ≡ true → placed k s xs ≡ xs
there_at at k s xs d is lt t =
    let e : (get_or xs at d).command ≡ k = grind (arith, nat_tests) in
    placed_there k s xs d (omega (arith, is, lt)) (ap (λ (i : ℕ). (get_or xs i d).command) (sym is) ∙ e)

pub new_at : (at k s : ℕ) (xs : List Sum) (d : Sum) → at ≡ below k xs → (at < length xs → ((get_or xs at d).command == k) ≡ false)
    → placed k s xs ≡ insert xs at (record { command = k; upto = sum_at s xs at })
new_at at k s xs d is new =
    placed_new k s xs d (λ lt e. (let here : (get_or xs at d).command ≡ k = ap (λ (i : ℕ). (get_or xs i d).command) is ∙ e in
    let t = same_test (get_or xs at d).command k here in let f = new (omega (arith, is, lt)) in absurd (cc (t, f))))
    ∙ ap (λ (i : ℕ). insert xs i (record { command = k; upto = sum_at s xs i })) (sym is)

-- More in each sum -----------------------------------------------------------------------------------------------------------

pub raised_step : (n i : ℕ) (xs : List Sum) (d : Sum) → i < length xs → raised_from n (suc i) (set xs i (raised n (get_or xs i d))) ≡ raised_from n i xs
raised_step n i [] d lt = absurd (omega arith)
raised_step n zero (x ∷ xs) d lt = refl
raised_step n (suc i) (x ∷ xs) d lt = ap (λ l. x ∷ l) (raised_step n i xs d (omega arith))

pub rise_still : (n i at : ℕ) (xs first : List Sum) (x d : Sum) → i < length xs → x ≡ raised n (get_or xs i d) → raised_from n i xs ≡ raised_from n at first
    → raised_from n (i + 1) (set xs i x) ≡ raised_from n at first
rise_still n i at xs first x d lt is still =
    ap (λ (j : ℕ). raised_from n j (set xs i x)) (add-one i) ∙ ap (λ (y : Sum). raised_from n (suc i) (set xs i y)) is ∙ raised_step n i xs d lt ∙ still

abbrev pub FitFrom : ℕ → ℕ → List Sum → Type 0
FitFrom n i xs = (j : ℕ) (d : Sum) → i ≤ j → j < length xs → (get_or xs j d).upto + n < 2 ^ 64

pub rise_fit : (n i : ℕ) (xs : List Sum) (x : Sum) → FitFrom n i xs → FitFrom n (i + 1) (set xs i x)
rise_fit n i xs x fit j d le lt =
    let len = length-set xs i x in
    let same = get_or-set_other xs i j x d (λ e. omega (arith, e, le)) in
    let f = fit j d (omega (arith, le)) (omega (arith, lt, len)) in
    omega (arith, f, ap (λ (y : Sum). y.upto) same)

pub raised_end : (n i : ℕ) (xs : List Sum) → length xs ≤ i → raised_from n i xs ≡ xs
raised_end n i [] le = refl
raised_end n zero (x ∷ xs) le = absurd (omega arith)
raised_end n (suc i) (x ∷ xs) le = ap (λ l. x ∷ l) (raised_end n i xs (omega arith))

fits_at : (n : ℕ) (xs : List Sum) (i : ℕ) (d : Sum) → AllFit n xs → i < length xs → (get_or xs i d).upto + n < 2 ^ 64
fits_at n [] i d all lt = absurd (omega arith)
fits_at n (x ∷ xs) zero d all lt = all.0
fits_at n (x ∷ xs) (suc i) d all lt = fits_at n xs i d all.1 (omega arith)

pub fit_from : (n : ℕ) (xs : List Sum) (i : ℕ) → AllFit n xs → FitFrom n i xs
fit_from n xs i all j d le lt = fits_at n xs j d all lt

-- Counts ---------------------------------------------------------------------------------------------------------------------

-- sums and what stands before them rise alike
raised_counts : (n s : ℕ) (xs : List Sum) → counts_from (s + n) (raised_from n zero xs) ≡ counts_from s xs
raised_counts n s [] = refl
raised_counts n s (x ∷ xs) =
    let d : (x.upto + n) - (s + n) ≡ x.upto - s = omega arith in
    ap (λ v. (x.command, v) ∷ counts_from (x.upto + n) (raised_from n zero xs)) d ∙ ap (λ l. (x.command, x.upto - s) ∷ l) (raised_counts n x.upto xs)

-- no command below the first was counted
none_counted : (least s k : ℕ) (xs : List Sum) → Climbs least s xs → k < least → lookup (is_at (nat_cmp k)) (counts_from s xs) ≡ None
none_counted least s k [] up lt = refl
none_counted least s k (x ∷ xs) up lt =
    let f = up.0 in
    let far : k < x.command = omega (arith, f, lt) in
    let past : is_at (nat_cmp k) x.command ≡ false = grind (arith, nat_tests) in
    cond-false (is_at (nat_cmp k) x.command) (Some (x.upto - s)) (lookup (is_at (nat_cmp k)) (counts_from x.upto xs)) past
    ∙ none_counted (suc x.command) x.upto k xs up.2 (omega (arith, far))

abbrev counted : ℕ → ℕ → ℕ → List Sum → List Sum
counted n k s xs = raised_from n (below k xs) (placed k s xs)

counted_past : (n k s : ℕ) (x : Sum) (xs : List Sum) → nat_lt x.command k ≡ true → counted n k s (x ∷ xs) ≡ x ∷ counted n k x.upto xs
counted_past n k s x xs t = by (nat_lt x.command k) t
  where
    by : (t : Bool) → t ≡ true → raised_from n (cond t (suc (below k xs)) 0) (cond t (x ∷ placed k x.upto xs) (cond (x.command == k) (x ∷ xs) (record { command = k; upto = s } ∷ x ∷ xs)))
        ≡ x ∷ raised_from n (below k xs) (placed k x.upto xs)
    by true e = refl
    by false e = absurd (cc e)

counted_here : (n k s : ℕ) (x : Sum) (xs : List Sum) → nat_lt x.command k ≡ false → (x.command == k) ≡ true → counted n k s (x ∷ xs) ≡ raised n x ∷ raised_from n zero xs
counted_here n k s x xs t u = by (nat_lt x.command k) (x.command == k) t u
  where
    by : (t u : Bool) → t ≡ false → u ≡ true
        → raised_from n (cond t (suc (below k xs)) 0) (cond t (x ∷ placed k x.upto xs) (cond u (x ∷ xs) (record { command = k; upto = s } ∷ x ∷ xs))) ≡ raised n x ∷ raised_from n zero xs
    by true u e f = absurd (cc e)
    by false true e f = refl
    by false false e f = absurd (cc f)

counted_before : (n k s : ℕ) (x : Sum) (xs : List Sum) → nat_lt x.command k ≡ false → (x.command == k) ≡ false
    → counted n k s (x ∷ xs) ≡ raised n (record { command = k; upto = s }) ∷ raised_from n zero (x ∷ xs)
counted_before n k s x xs t u = by (nat_lt x.command k) (x.command == k) t u
  where
    by : (t u : Bool) → t ≡ false → u ≡ false
        → raised_from n (cond t (suc (below k xs)) 0) (cond t (x ∷ placed k x.upto xs) (cond u (x ∷ xs) (record { command = k; upto = s } ∷ x ∷ xs)))
        ≡ raised n (record { command = k; upto = s }) ∷ raised_from n zero (x ∷ xs)
    by true u e f = absurd (cc e)
    by false true e f = absurd (cc f)
    by false false e f = refl

-- an entry is put into a list with a first one
abbrev put_at : ℕ → ℕ → ℕ × ℕ → List (ℕ × ℕ) → List (ℕ × ℕ)
put_at k v e es = match_ordering (nat_cmp k e.0) ((k, v) ∷ e ∷ es) ((e.0, v) ∷ es) (e ∷ insert_entry nat_cmp es k v)

-- the counts of raised sums are those with more invocations of a command
pub count_is : (least s k n : ℕ) (xs : List Sum) → Climbs least s xs → counts_from s (counted n k s xs) ≡ counted_more (counts_from s xs) k n
count_is least s k n [] up = (let d : (s + n) - s ≡ 0 + n = omega arith in ap (λ v. (k, v) ∷ []) d)
count_is least s k n (x ∷ xs) up = elim (cases_order x.command k) [
  | inl same ↦ here same
  | inr (inl lt) ↦ past (count_is (suc x.command) x.upto k n xs up.2) lt
  | inr (inr gt) ↦ before gt
]
  where
    es : List (ℕ × ℕ)
    es = counts_from x.upto xs

    e : ℕ × ℕ
    e = (x.command, x.upto - s)

    past : counts_from x.upto (counted n k x.upto xs) ≡ counted_more es k n → x.command < k → counts_from s (counted n k s (x ∷ xs)) ≡ counted_more (e ∷ es) k n
    past rest lt =
        let t : nat_lt x.command k ≡ true = grind (arith, nat_tests) in
        let order : nat_cmp k x.command ≡ Greater = grind (arith, nat_tests) in
        let miss : is_at (nat_cmp k) x.command ≡ false = grind (arith, nat_tests) in
        let had : counted_of k (e ∷ es) ≡ counted_of k es = ap (λ o. unwrap_or o 0) (cond-false (is_at (nat_cmp k) x.command) (Some (x.upto - s)) (lookup (is_at (nat_cmp k)) es) miss) in
        ap (λ l. counts_from s l) (counted_past n k s x xs t)
        ∙ ap (λ l. e ∷ l) rest
        ∙ ap (λ v. e ∷ insert_entry nat_cmp es k (v + n)) (sym had)
        ∙ sym (ap (λ o. match_ordering o ((k, counted_of k (e ∷ es) + n) ∷ e ∷ es) ((e.0, counted_of k (e ∷ es) + n) ∷ es) (e ∷ insert_entry nat_cmp es k (counted_of k (e ∷ es) + n))) order)

    here : x.command ≡ k → counts_from s (counted n k s (x ∷ xs)) ≡ counted_more (e ∷ es) k n
    here same =
        let t : nat_lt x.command k ≡ false = grind (arith, nat_tests) in
        let order : nat_cmp k x.command ≡ Equal = grind (arith, nat_tests) in
        let hit : is_at (nat_cmp k) x.command ≡ true = grind (arith, nat_tests) in
        let had : counted_of k (e ∷ es) ≡ x.upto - s = ap (λ o. unwrap_or o 0) (cond-true (is_at (nat_cmp k) x.command) (Some (x.upto - s)) (lookup (is_at (nat_cmp k)) es) hit) in
        let rises = up.1 in
        let d : (x.upto + n) - s ≡ counted_of k (e ∷ es) + n = omega (arith, had, rises) in
        ap (λ l. counts_from s l) (counted_here n k s x xs t (same_test x.command k same))
        ∙ ap (λ l. (x.command, (x.upto + n) - s) ∷ l) (raised_counts n x.upto xs)
        ∙ ap (λ v. (x.command, v) ∷ es) d
        ∙ sym (ap (λ o. match_ordering o ((k, counted_of k (e ∷ es) + n) ∷ e ∷ es) ((e.0, counted_of k (e ∷ es) + n) ∷ es) (e ∷ insert_entry nat_cmp es k (counted_of k (e ∷ es) + n))) order)

    before : k < x.command → counts_from s (counted n k s (x ∷ xs)) ≡ counted_more (e ∷ es) k n
    before gt =
        let t : nat_lt x.command k ≡ false = grind (arith, nat_tests) in
        let u : (x.command == k) ≡ false = grind (arith, nat_tests) in
        let order : nat_cmp k x.command ≡ Less = grind (arith, nat_tests) in
        let had : counted_of k (e ∷ es) ≡ 0 = ap (λ o. unwrap_or o 0) (none_counted x.command s k (x ∷ xs) (omega arith, up.1, up.2) gt) in
        let d : (s + n) - s ≡ counted_of k (e ∷ es) + n = omega (arith, had) in
        ap (λ l. counts_from s l) (counted_before n k s x xs t u)
        ∙ ap (λ l. (k, (s + n) - s) ∷ l) (raised_counts n s (x ∷ xs))
        ∙ ap (λ v. (k, v) ∷ e ∷ es) d
        ∙ sym (ap (λ o. match_ordering o ((k, counted_of k (e ∷ es) + n) ∷ e ∷ es) ((e.0, counted_of k (e ∷ es) + n) ∷ es) (e ∷ insert_entry nat_cmp es k (counted_of k (e ∷ es) + n))) order)

-- Sums still climb -----------------------------------------------------------------------------------------------------------

raised_climbs : (least s n : ℕ) (xs : List Sum) → Climbs least s xs → Climbs least (s + n) (raised_from n zero xs)
raised_climbs least s n [] up = tt
raised_climbs least s n (x ∷ xs) up = (up.0, (let r = up.1 in omega (arith, r)), raised_climbs (suc x.command) x.upto n xs up.2)

pub count_climbs : (least s k n : ℕ) (xs : List Sum) → least ≤ k → Climbs least s xs → Climbs least s (counted n k s xs)
count_climbs least s k n [] le up = (le, omega arith, tt)
count_climbs least s k n (x ∷ xs) le up = elim (cases_order x.command k) [
  | inl same ↦ (let t : nat_lt x.command k ≡ false = grind (arith, nat_tests) in
      rw (counted_here n k s x xs t (same_test x.command k same)) (up.0, (let r = up.1 in omega (arith, r)), raised_climbs (suc x.command) x.upto n xs up.2))
  | inr (inl lt) ↦ (let t : nat_lt x.command k ≡ true = grind (arith, nat_tests) in
      rw (counted_past n k s x xs t) (up.0, up.1, count_climbs (suc x.command) x.upto k n xs (omega (arith, lt)) up.2))
  | inr (inr gt) ↦ (let t : nat_lt x.command k ≡ false = grind (arith, nat_tests) in let u : (x.command == k) ≡ false = grind (arith, nat_tests) in
      rw (counted_before n k s x xs t u) (le, omega arith, raised_climbs (suc k) s n (x ∷ xs) (omega (arith, gt), up.1, up.2)))
]

-- No sum is above the total --------------------------------------------------------------------------------------------------

abbrev Fits : ℕ → ℕ → List Sum → Type 0
Fits s n xs = s + invocations_of (counts_from s xs) + n < 2 ^ 64

fits_behind : (s n : ℕ) (x : Sum) (xs : List Sum) → s ≤ x.upto → Fits s n (x ∷ xs) → Fits x.upto n xs
fits_behind s n x xs le fits = (let all = sum_by-cons (λ (e : ℕ × ℕ). e.1) (x.command, x.upto - s) (counts_from x.upto xs) in omega (arith, all, le, fits))

all_fit : (least s n : ℕ) (xs : List Sum) → Climbs least s xs → Fits s n xs → AllFit n xs
all_fit least s n [] up fits = tt
all_fit least s n (x ∷ xs) up fits = (let rest = fits_behind s n x xs up.1 fits in (omega (arith, rest), all_fit (suc x.command) x.upto n xs up.2 rest))

pub placed_fits : (least s k n : ℕ) (xs : List Sum) → Climbs least s xs → Fits s n xs → AllFit n (placed k s xs)
placed_fits least s k n [] up fits = (omega (arith, fits), tt)
placed_fits least s k n (x ∷ xs) up fits =
    (let rest = fits_behind s n x xs up.1 fits in by (nat_lt x.command k) (x.command == k) rest (placed_fits (suc x.command) x.upto k n xs up.2 rest))
  where
    by : (t u : Bool) → Fits x.upto n xs → AllFit n (placed k x.upto xs) → AllFit n (cond t (x ∷ placed k x.upto xs) (cond u (x ∷ xs) (record { command = k; upto = s } ∷ x ∷ xs)))
    by true u rest placed_rest = (omega (arith, rest), placed_rest)
    by false true rest placed_rest = all_fit least s n (x ∷ xs) up fits
    by false false rest placed_rest = (omega (arith, fits), all_fit least s n (x ∷ xs) up fits)

-- Commands rise --------------------------------------------------------------------------------------------------------------

keys_above : (k least s : ℕ) (xs : List Sum) → k < least → Climbs least s xs → AllByRecursion (λ (y : ℕ). nat_cmp k y ≡ Less) (keys_of (counts_from s xs))
keys_above k least s [] lt up = tt
keys_above k least s (x ∷ xs) lt up =
    let f = up.0 in
    let far : k < x.command = omega (arith, f, lt) in
    (grind (arith, nat_tests), keys_above k (suc x.command) x.upto xs (omega (arith, far)) up.2)

pub keys_rise : (least s : ℕ) (xs : List Sum) → Climbs least s xs → IsStrictlySortedBy nat_cmp (keys_of (counts_from s xs))
unfolding IsStrictlySortedBy
keys_rise least s [] up = tt
keys_rise least s (x ∷ xs) up = (keys_above x.command (suc x.command) x.upto xs (omega arith) up.2, keys_rise (suc x.command) x.upto xs up.2)
