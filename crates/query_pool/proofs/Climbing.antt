-- Running sums are those of the counts between two numbers, and stay so as a command is counted.
use Rattle.std.proofs.Common.{◌≡◌, ℕ, zero, suc, ◌+◌, ◌-◌, ◌<◌, ◌≤◌, inl, inr, Bool, true, false, cond, nat_le, nat_lt, ◌&&◌, List, [], ◌∷◌, length, get_or, refl, ap, ◌∙◌, arith}
use Rattle.std.proofs.lemmas.Bool.{cases_order, cond-true, cond-false}
use Rattle.std.proofs.lemmas.Bool.Decides.{nat_tests}
use Rattle.std.proofs.lemmas.List.Sums.{sum_by-cons}
use Rattle.query_pool.specs.declared.sums.Sum.{Sum}
use Rattle.query_pool.specs.Asked.{part_between, invocations_between}
use Rattle.query_pool.specs.Running.{Climbs, below, counts_from, sum_at}

-- Places ---------------------------------------------------------------------------------------------------------------------

-- a smaller test
lt_true : (a b : ℕ) → a < b → nat_lt a b ≡ true
lt_true a b lt = grind (arith, nat_tests)

lt_false : (a b : ℕ) → b ≤ a → nat_lt a b ≡ false
lt_false a b le = grind (arith, nat_tests)

pub below_length : (k : ℕ) (xs : List Sum) → below k xs ≤ length xs
below_length k [] = omega arith
below_length k (x ∷ xs) = by (nat_lt x.command k) (below_length k xs)
  where
    by : (t : Bool) → below k xs ≤ length xs → cond t (suc (below k xs)) 0 ≤ suc (length xs)
    by true h = omega arith
    by false h = omega arith

-- each command is at least the first
least_at : (least s : ℕ) (xs : List Sum) (i : ℕ) (d : Sum) → Climbs least s xs → i < length xs → least ≤ (get_or xs i d).command
least_at least s [] i d up lt = absurd (omega arith)
least_at least s (x ∷ xs) zero d up lt = up.0
least_at least s (x ∷ xs) (suc i) d up lt = (let h = least_at (suc x.command) x.upto xs i d up.2 (omega arith) in let f = up.0 in omega (arith, h, f))

-- a smaller command's place is below
pub below_past : (least s k : ℕ) (xs : List Sum) (i : ℕ) (d : Sum) → Climbs least s xs → i < length xs → (get_or xs i d).command < k → i < below k xs
below_past least s k [] i d up lt less = absurd (omega arith)
below_past least s k (x ∷ xs) zero d up lt less = rw (lt_true x.command k less) (omega arith)
below_past least s k (x ∷ xs) (suc i) d up lt less =
    let above = least_at (suc x.command) x.upto xs i d up.2 (omega arith) in
    let more = below_past (suc x.command) x.upto k xs i d up.2 (omega arith) less in
    rw (lt_true x.command k (omega (arith, above, less))) (omega (arith, more))

-- no place of a command that isn't smaller is
pub below_upto : (k : ℕ) (xs : List Sum) (i : ℕ) (d : Sum) → i < length xs → k ≤ (get_or xs i d).command → below k xs ≤ i
below_upto k [] i d lt le = absurd (omega arith)
below_upto k (x ∷ xs) zero d lt le = rw (lt_false x.command k le) (omega arith)
below_upto k (x ∷ xs) (suc i) d lt le = by (nat_lt x.command k) (below_upto k xs i d (omega arith) le)
  where
    by : (t : Bool) → below k xs ≤ i → cond t (suc (below k xs)) 0 ≤ suc i
    by true h = omega arith
    by false h = omega arith

-- none is below a number that all reach
none_below : (least s k : ℕ) (xs : List Sum) → Climbs least s xs → k ≤ least → below k xs ≡ 0
none_below least s k [] up le = refl
none_below least s k (x ∷ xs) up le = (let f = up.0 in cond-false (nat_lt x.command k) (suc (below k xs)) 0 (lt_false x.command k (omega (arith, f, le))))

pub sum_at_is : (s : ℕ) (xs : List Sum) (n : ℕ) (d : Sum) → n < length xs → sum_at s xs (suc n) ≡ (get_or xs n d).upto
sum_at_is s [] n d lt = absurd (omega arith)
sum_at_is s (x ∷ []) zero d lt = refl
sum_at_is s (x ∷ y ∷ xs) zero d lt = refl
sum_at_is s (x ∷ xs) (suc n) d lt = sum_at_is x.upto xs n d (omega arith)

-- Differences of sums --------------------------------------------------------------------------------------------------------

sums_rise : (least s : ℕ) (xs : List Sum) (n : ℕ) → Climbs least s xs → s ≤ sum_at s xs n
sums_rise least s [] n up = omega arith
sums_rise least s (x ∷ xs) zero up = omega arith
sums_rise least s (x ∷ xs) (suc n) up = (let f = up.1 in let h = sums_rise (suc x.command) x.upto xs n up.2 in omega (arith, f, h))

pub first_sum : (s : ℕ) (xs : List Sum) → sum_at s xs 0 ≡ s
first_sum s [] = refl
first_sum s (x ∷ xs) = refl

-- the sum of the commands below a number
sum_to : ℕ → ℕ → List Sum → ℕ
sum_to s k xs = sum_at s xs (below k xs)

to_past : (s k : ℕ) (x : Sum) (xs : List Sum) → x.command < k → sum_at s (x ∷ xs) (below k (x ∷ xs)) ≡ sum_at x.upto xs (below k xs)
to_past s k x xs less = ap (λ n. sum_at s (x ∷ xs) n) (cond-true (nat_lt x.command k) (suc (below k xs)) 0 (lt_true x.command k less))

to_here : (s k : ℕ) (x : Sum) (xs : List Sum) → k ≤ x.command → sum_at s (x ∷ xs) (below k (x ∷ xs)) ≡ s
to_here s k x xs le = ap (λ n. sum_at s (x ∷ xs) n) (cond-false (nat_lt x.command k) (suc (below k xs)) 0 (lt_false x.command k le))

to_none : (least s k : ℕ) (xs : List Sum) → Climbs least s xs → k ≤ least → sum_at s xs (below k xs) ≡ s
to_none least s k xs up le = ap (λ n. sum_at s xs n) (none_below least s k xs up le) ∙ first_sum s xs

part_in : (from to c n : ℕ) → from ≤ c → c < to → part_between from to (c, n) ≡ n
part_in from to c n le lt = (let t : (nat_le from c && nat_lt c to) ≡ true = grind (arith, nat_tests) in cond-true (nat_le from c && nat_lt c to) n 0 t)

part_before : (from to c n : ℕ) → c < from → part_between from to (c, n) ≡ 0
part_before from to c n lt = (let t : (nat_le from c && nat_lt c to) ≡ false = grind (arith, nat_tests) in cond-false (nat_le from c && nat_lt c to) n 0 t)

part_after : (from to c n : ℕ) → to ≤ c → part_between from to (c, n) ≡ 0
part_after from to c n le = (let t : (nat_le from c && nat_lt c to) ≡ false = grind (arith, nat_tests) in cond-false (nat_le from c && nat_lt c to) n 0 t)

-- what was counted between two numbers is a difference of sums
pub between_sums : (least s from to : ℕ) (xs : List Sum) → Climbs least s xs
    → invocations_between from to (counts_from s xs) ≡ sum_at s xs (below to xs) - sum_at s xs (below from xs)
between_sums least s from to [] up = omega arith
between_sums least s from to (x ∷ xs) up =
    let all = sum_by-cons (part_between from to) (x.command, x.upto - s) (counts_from x.upto xs) in
    let rest = between_sums (suc x.command) x.upto from to xs up.2 in
    let rises = up.1 in
    let high = sums_rise (suc x.command) x.upto xs (below to xs) up.2 in
    let low = sums_rise (suc x.command) x.upto xs (below from xs) up.2 in
    elim (cases_order x.command from) [
      | inl same ↦ at_or_past (omega (arith, same)) all rest rises high
      | inr (inl lt) ↦ before lt all rest rises high low
      | inr (inr gt) ↦ at_or_past (omega (arith, gt)) all rest rises high
    ]
  where
    Goal : Type 0
    Goal = invocations_between from to (counts_from s (x ∷ xs)) ≡ sum_at s (x ∷ xs) (below to (x ∷ xs)) - sum_at s (x ∷ xs) (below from (x ∷ xs))

    All : Type 0
    All = invocations_between from to (counts_from s (x ∷ xs)) ≡ part_between from to (x.command, x.upto - s) + invocations_between from to (counts_from x.upto xs)

    Rest : Type 0
    Rest = invocations_between from to (counts_from x.upto xs) ≡ sum_at x.upto xs (below to xs) - sum_at x.upto xs (below from xs)

    at_or_past : from ≤ x.command → All → Rest → s ≤ x.upto → x.upto ≤ sum_at x.upto xs (below to xs) → Goal
    at_or_past le all rest rises high =
        let start = to_here s from x xs le in
        let none = to_none (suc x.command) x.upto from xs up.2 (omega (arith, le)) in
        elim (cases_order x.command to) [
          | inl same ↦ past start none (omega (arith, same)) all rest
          | inr (inl lt) ↦ (let part = part_in from to x.command (x.upto - s) le lt in let end = to_past s to x xs lt in omega (arith, start, none, part, end, all, rest, rises, high))
          | inr (inr gt) ↦ past start none (omega (arith, gt)) all rest
        ]
      where
        past : sum_at s (x ∷ xs) (below from (x ∷ xs)) ≡ s → sum_at x.upto xs (below from xs) ≡ x.upto → to ≤ x.command → All → Rest → Goal
        past start none le all rest =
            let part = part_after from to x.command (x.upto - s) le in
            let end = to_here s to x xs le in
            let nothing = to_none (suc x.command) x.upto to xs up.2 (omega (arith, le)) in
            omega (arith, start, none, part, end, nothing, all, rest)

    before : x.command < from → All → Rest → s ≤ x.upto → x.upto ≤ sum_at x.upto xs (below to xs) → x.upto ≤ sum_at x.upto xs (below from xs) → Goal
    before less all rest rises high low =
        let part = part_before from to x.command (x.upto - s) less in
        let start = to_past s from x xs less in
        elim (cases_order x.command to) [
          | inl same ↦ past part start (omega (arith, same)) all rest rises low
          | inr (inl lt) ↦ (let end = to_past s to x xs lt in omega (arith, part, start, end, all, rest))
          | inr (inr gt) ↦ past part start (omega (arith, gt)) all rest rises low
        ]
      where
        past : part_between from to (x.command, x.upto - s) ≡ 0 → sum_at s (x ∷ xs) (below from (x ∷ xs)) ≡ sum_at x.upto xs (below from xs) → to ≤ x.command → All → Rest
            → s ≤ x.upto → x.upto ≤ sum_at x.upto xs (below from xs) → Goal
        past part start le all rest rises low =
            let end = to_here s to x xs le in
            let nothing = to_none (suc x.command) x.upto to xs up.2 (omega (arith, le)) in
            omega (arith, part, start, end, nothing, all, rest, rises, low)
