-- What an addition comes to.
use Rattle.std.proofs.Common.{◌≡◌, ◌≢◌, ◌⊎◌, cond, ℕ, ◌<◌, ◌≤◌, min, max, Bool, false, ◌||◌, ◌-◌, [], ◌∷◌, inl, inr, Option, Some, None, refl, sym, ap, ◌∙◌, arith}
use Rattle.std.specs.Prelude.{nat_lt}
use Rattle.std.specs.List.Sorted.{IsStrictlySortedBy}
use Rattle.std.specs.Map.{keys_of}
use Rattle.std.specs.Ordering.{nat_cmp}
use Rattle.std.proofs.lemmas.Bool.Decides.{same_from_decides}
use Rattle.std.proofs.lemmas.Bool.{ltb-true, lt-ltb, or_cases, or_left, or_right, le-ltb, cases_order, cases_lt, cases_eq, and_left, and_from, and_parts, le-leb, leb-true, cond-true, cond-false, false_from_ne_true}
use Rattle.std.specs.BTreeMap.{is_at}
use Rattle.d3d_uses.specs.Ranges.{Ranges, Adds, overlap, meet_any, end_of, IsApart, IsLast, JoinsStart, JoinsEnd, IsAlone, Joins, RemovesBetween, is_between}
use Rattle.d3d_uses.proofs.Bytes.{same_place, other_place, Met, meet_any-Decides}

-- a range without a byte meets none
pub none_meets : (rs : Ranges) (from to : ℕ) → to ≤ from → false ≡ meet_any rs from to
none_meets [] from to le = refl
none_meets (r ∷ rs) from to le = none_meets rs from to le ∙ sym (ap (λ (b : Bool). b || meet_any rs from to) (le-ltb (max from r.0) (min to r.1) (omega arith)))

-- where no range begins before the end, none is met
pub none_before : (rs : Ranges) (from to : ℕ) → IsStrictlySortedBy nat_cmp (keys_of rs) → from < to → IsLast rs (to - 1) None → false ≡ meet_any rs from to
none_before rs from to sorted lt none =
    same_from_decides false (meet_any rs from to)
    ((λ e. absurd cc), λ (m : Met rs from to). absurd (is_none (none m.start (omega (arith, m.shares))) m.is))
    (meet_any-Decides rs from to sorted)
  where
    is_none : {o : Option ℕ} {b : ℕ} → o ≡ None → o ≡ Some b → ⊥
    is_none e f = absurd cc

same_end : (rs : Ranges) (a c b d : ℕ) → a ≡ c → end_of rs a ≡ Some b → end_of rs c ≡ Some d → b ≡ d
same_end rs a c b d e f g = let h : end_of rs a ≡ end_of rs c = ap (end_of rs) e in cc

-- else the last that begins there is met, or none
pub last_decides : (rs : Ranges) (from to start end : ℕ) → IsStrictlySortedBy nat_cmp (keys_of rs) → IsApart rs → from < to → IsLast rs (to - 1) (Some (start, end))
    → nat_lt from end ≡ meet_any rs from to
last_decides rs from to start end sorted apart lt last =
    same_from_decides (nat_lt from end) (meet_any rs from to) (
      (λ e. let below : from < end = ltb-true from end e in let full : start < end = apart.full start end last.1 in record { start = start; end = end; is = last.1; shares = omega (arith, last.0) }),
      λ (m : Met rs from to). lt-ltb from end (below m),
    )
    (meet_any-Decides rs from to sorted)
  where
    below : Met rs from to → from < end
    below m =
        let le : m.start ≤ start = last.2 m.start m.end (omega (arith, m.shares)) m.is in
        elim (cases_order m.start start) [
          | inl same ↦ omega (arith, m.shares, same_end rs m.start start m.end end same m.is last.1)
          | inr (inl before) ↦ omega (arith, m.shares, apart.gaps m.start m.end start end m.is last.1 before, apart.full start end last.1)
          | inr (inr after) ↦ absurd (omega arith)
        ]

-- ---- an addition

some_none : {o : Option ℕ} {b : ℕ} → o ≡ None → o ≡ Some b → ⊥
some_none e f = absurd cc

none_else : (o : Option ℕ) → ((b : ℕ) → o ≡ Some b → ⊥) → o ≡ None
none_else None h = refl
none_else (Some b) h = absurd (h b refl)

-- the new ranges have one from `start` to `end` in place of the old ones that begin there
pub record IsMerged (old : Ranges) (start end : ℕ) (new : Ranges) : Type 0 where
  pub here : end_of new start ≡ Some end
  pub gone : (a : ℕ) → start < a → a ≤ end → end_of new a ≡ None
  pub kept : (a : ℕ) → a ≢ start → (start < a → a ≤ end → ⊥) → end_of new a ≡ end_of old a

pub merged : (old mid new : Ranges) (start end : ℕ) → ((a : ℕ) → end_of mid a ≡ cond (is_at (nat_cmp start) a) (Some end) (end_of old a)) → RemovesBetween mid start end new
    → IsMerged old start end new
merged old mid new start end puts removes = record {
  here = removes start ∙ cond-false _ None (end_of mid start) (and_left _ _ (le-ltb start start (omega arith))) ∙ puts start ∙ cond-true _ (Some end) (end_of old start) (same_place start);
  gone = λ a lt le. removes a ∙ cond-true _ None (end_of mid a) (and_from _ _ (lt-ltb start a lt) (le-leb a end le));
  kept = λ a other out. removes a ∙ cond-false _ None (end_of mid a) (outside a out) ∙ puts a ∙ cond-false _ (Some end) (end_of old a) (other_place start a (λ e. other (sym e)));
}
  where
    outside : (a : ℕ) → (start < a → a ≤ end → ⊥) → is_between start end a ≡ false
    outside a out = false_from_ne_true _ (λ t. let parts = and_parts _ _ t in out (ltb-true _ _ parts.0) (leb-true _ _ parts.1))

module _ (old new : Ranges) (from to start end : ℕ) (apart : IsApart old) (lt : from < to) (s : JoinsStart old from start) (e : JoinsEnd old to end) (m : IsMerged old start end new) where
  -- a byte of the new ranges is one of the old or of those added
  new_met : (x y : ℕ) → Met new x y → (max x from < min y to) ⊎ Met old x y
  new_met x y t = elim (cases_eq t.start start) [
    | inl same ↦
        let share : max x start < min y end = omega (arith, t.shares, same_end new t.start start t.end end same t.is m.here) in
        elim (cases_lt (max x start) from) [
          | inl before ↦ let own = s.own (omega arith) in inr (record { start = start; end = own.0; is = own.1; shares = omega (arith, own.2) })
          | inr at ↦ elim (cases_lt (max x start) to) [
            | inl inside ↦ inl (omega arith)
            | inr after ↦ let own = e.own (omega arith) in inr (record { start = own.0; end = end; is = own.1; shares = omega (arith, own.2) })
          ]
        ]
    | inr other ↦ inr (record { start = t.start; end = t.end; is = sym (m.kept t.start other (λ a b. none_is (m.gone t.start a b) t.is)) ∙ t.is; shares = t.shares })
  ]
    where
      none_is : {o : Option ℕ} {b : ℕ} → o ≡ None → o ≡ Some b → ⊥
      none_is e f = absurd cc

  added_met : (x y : ℕ) → max x from < min y to → Met new x y
  added_met x y share = record { start = start; end = end; is = m.here; shares = omega (arith, s.before, e.after) }

  -- a range that went into the new one ends there or before
  kept_met : (x y : ℕ) → Met old x y → Met new x y
  kept_met x y t = elim (cases_lt t.start start) [
    | inl before ↦ stays (λ same. omega arith) (λ a b. omega arith)
    | inr from_start ↦ elim (cases_lt end t.start) [
      | inl past ↦ stays (λ same. omega (arith, s.before, e.after)) (λ a b. omega arith)
      | inr until_end ↦ elim (cases_lt to t.start) [
        | inl after ↦ let own = e.own (omega arith) in absurd (omega (arith, apart.gaps own.0 end t.start t.end own.1 t.is (omega (arith, own.2))))
        | inr at ↦ record { start = start; end = end; is = m.here; shares = omega (arith, t.shares, e.covers t.start t.end t.is at) }
      ]
    ]
  ]
    where
      stays : (t.start ≡ start → ⊥) → (start < t.start → t.start ≤ end → ⊥) → Met new x y
      stays other out = record { start = t.start; end = t.end; is = m.kept t.start other out ∙ t.is; shares = t.shares }

  -- the new ranges have the bytes of both
  pub adds : IsStrictlySortedBy nat_cmp (keys_of old) → IsStrictlySortedBy nat_cmp (keys_of new) → Adds old from to new
  adds sorted_old sorted_new x y =
      let old_is = meet_any-Decides old x y sorted_old in
      let new_is = meet_any-Decides new x y sorted_new in
      same_from_decides (meet_any new x y) (overlap x y (from, to) || meet_any old x y) new_is (
        λ t. elim (or_cases (overlap x y (from, to)) (meet_any old x y) t) [
          | inl h ↦ added_met x y (ltb-true _ _ h)
          | inr h ↦ kept_met x y (old_is.0 h)
        ],
        λ t. elim (new_met x y t) [
          | inl h ↦ or_left _ _ (lt-ltb _ _ h)
          | inr h ↦ or_right _ _ (old_is.1 h)
        ],
      )

  was_old : (a b : ℕ) → a ≢ start → end_of new a ≡ Some b → end_of old a ≡ Some b
  was_old a b other is = sym (m.kept a other (λ x y. some_none (m.gone a x y) is)) ∙ is

  -- and are apart
  apart_again : IsApart new
  apart_again = record { full = full_again; gaps = gaps_again }
    where
      full_again : (a b : ℕ) → end_of new a ≡ Some b → a < b
      full_again a b is = elim (cases_eq a start) [
        | inl same ↦ omega (arith, same_end new a start b end same is m.here, s.before, e.after)
        | inr other ↦ apart.full a b (was_old a b other is)
      ]

      gaps_again : (a b c d : ℕ) → end_of new a ≡ Some b → end_of new c ≡ Some d → a < c → b < c
      gaps_again a b c d is_a is_c less = elim (cases_eq a start) [
        | inl same ↦ elim (cases_lt end c) [
          | inl past ↦ omega (arith, same_end new a start b end same is_a m.here)
          | inr within ↦ absurd (some_none (m.gone c (omega arith) within) is_c)
        ]
        | inr other ↦ elim (cases_eq c start) [
          | inl at ↦ omega (arith, s.apart a b (was_old a b other is_a) (omega arith))
          | inr else ↦ apart.gaps a b c d (was_old a b other is_a) (was_old c d else is_c) less
        ]
      ]

  pub joins : IsStrictlySortedBy nat_cmp (keys_of old) → IsStrictlySortedBy nat_cmp (keys_of new) → Joins old from to new
  joins sorted_old sorted_new = record { adds = adds sorted_old sorted_new; apart = apart_again }

-- ---- where the range that is met or touched is known

-- what is put for it and the added bytes is a merged range
pub merged_alone : (old new : Ranges) (from to start : ℕ) → IsAlone old from to start → ((a : ℕ) → end_of new a ≡ cond (is_at (nat_cmp start) a) (Some to) (end_of old a))
    → IsMerged old start to new
merged_alone old new from to start alone puts = record {
  here = puts start ∙ cond-true _ (Some to) (end_of old start) (same_place start);
  gone = λ a lt le. else_old a (λ e. omega arith) ∙ none_else (end_of old a) (λ b is. let at = alone.only a b is le in omega (arith, at.0));
  kept = λ a other out. else_old a (λ e. other (sym e));
}
  where
    else_old : (a : ℕ) → start ≢ a → end_of new a ≡ end_of old a
    else_old a other = puts a ∙ cond-false _ (Some to) (end_of old a) (other_place start a other)

pub ends_alone : (rs : Ranges) (from to start : ℕ) → IsAlone rs from to start → JoinsEnd rs to to
ends_alone rs from to start alone = record { after = omega arith; own = λ lt. absurd (omega arith); covers = λ a b is le. (alone.only a b is le).1 }

module _ (rs : Ranges) (from to start end : ℕ) (apart : IsApart rs) (lt : from < to) (last : IsLast rs to (Some (start, end))) (before : start ≤ from) where
  -- the last has the added bytes already
  pub joins_already : to ≤ end → IsStrictlySortedBy nat_cmp (keys_of rs) → Joins rs from to rs
  joins_already covers sorted = record { adds = adds_none; apart = apart }
    where
      adds_none : Adds rs from to rs
      adds_none x y =
          let is = meet_any-Decides rs x y sorted in
          same_from_decides (meet_any rs x y) (overlap x y (from, to) || meet_any rs x y) is (
            λ t. elim (or_cases (overlap x y (from, to)) (meet_any rs x y) t) [
              | inl h ↦ let share = ltb-true _ _ h in record { start = start; end = end; is = last.1; shares = omega (arith, share) }
              | inr h ↦ is.0 h
            ],
            λ t. or_right _ _ (is.1 t),
          )
