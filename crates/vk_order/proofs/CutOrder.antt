-- Cuts in order: where a search ends, and that ranges which share a byte share a cut.
use Rattle.std.proofs.Common.{◌≡◌, ℕ, ◌+◌, ◌-◌, ◌<◌, ◌≤◌, max, Bool, true, false, ◌&&◌, ◌||◌, ◌==◌, nat_lt, List, length, Some, slice_get, refl, sym, ap, subst, ◌∙◌, ◌⊎◌, inl, inr, arith}
use Rattle.std.proofs.lemmas.Bool.{and_parts, both_ways, cases_Bool, cases_eq, cases_lt, eqb-true, lt-ltb, ltb-true, or_cases}
use Rattle.std.proofs.lemmas.Option.{slice_get_within}
use Rattle.dx_types.specs.declared.range.Range.{Range}
use Rattle.vk_types.specs.Memory.{meets}
use Rattle.vk_order.specs.declared.cuts.Cut.{Cut}
use Rattle.vk_order.specs.declared.tree.Reach.{Reach}
use Rattle.vk_order.specs.Cuts.{precedes, begin_of, end_of, IsReach, IsRising, IsWhole}

-- the same as a fact
abbrev Less : Cut → Cut → Type 0
Less a b = (a.block < b.block) ⊎ ((a.block ≡ b.block) × (a.at < b.at))

less_of : (a b : Cut) → precedes a b ≡ true → Less a b
less_of a b e =
    elim (or_cases (nat_lt a.block b.block) ((a.block == b.block) && nat_lt a.at b.at) e) [
      | inl l ↦ inl (ltb-true a.block b.block l)
      | inr r ↦
          let p = and_parts (a.block == b.block) (nat_lt a.at b.at) r in
          inr (eqb-true a.block b.block p.0, ltb-true a.at b.at p.1)
    ]

of_less : (a b : Cut) → Less a b → precedes a b ≡ true
of_less a b (inl l) = ap (λ t. t || ((a.block == b.block) && nat_lt a.at b.at)) (lt-ltb a.block b.block l)
of_less a b (inr p) = right (nat_lt a.block b.block) ((a.block == b.block) && nat_lt a.at b.at) (ap (λ t. t && nat_lt a.at b.at) (same a.block b.block p.0) ∙ lt-ltb a.at b.at p.1)
  where
    right : (x y : Bool) → y ≡ true → (x || y) ≡ true
    right true y e = refl
    right false y e = e

    same : (m n : ℕ) → m ≡ n → (m == n) ≡ true
    same m n e = grind arith

pub less_more : (a b c : Cut) → precedes a b ≡ true → precedes b c ≡ true → precedes a c ≡ true
less_more a b c e f = of_less a c (join (less_of a b e) (less_of b c f))
  where
    join : Less a b → Less b c → Less a c
    join (inl l) (inl m) = inl (omega (arith, l, m))
    join (inl l) (inr m) = let q = m.0 in inl (omega (arith, l, q))
    join (inr l) (inl m) = let q = l.0 in inl (omega (arith, q, m))
    join (inr l) (inr m) = let p = l.0 in let q = m.0 in let r = l.1 in let s = m.1 in inr (omega (arith, p, q), omega (arith, r, s))

same_element : (cuts : List Cut) (j k : ℕ) (a b : Cut) → j ≡ k → slice_get cuts j ≡ Some a → slice_get cuts k ≡ Some b → a ≡ b
same_element cuts j k a b e f g = let h : Some a ≡ Some b = sym f ∙ (ap (slice_get cuts) e ∙ g) in cc h

-- cuts up to the one at i rise
abbrev pub RiseBelow : List Cut → ℕ → Type 0
RiseBelow cuts i = (j k : ℕ) (a b : Cut) → j < k → k < i → slice_get cuts j ≡ Some a → slice_get cuts k ≡ Some b → precedes a b ≡ true

pub rise_next : (cuts : List Cut) (i : ℕ) (p q : Cut) → 1 ≤ i → slice_get cuts (i - 1) ≡ Some p → slice_get cuts i ≡ Some q → precedes p q ≡ true → RiseBelow cuts i → RiseBelow cuts (i + 1)
rise_next cuts i p q one ep eq e h j k a b l m ea eb =
    elim (cases_lt k i) [
      | inl less ↦ h j k a b l less ea eb
      | inr ge ↦
          let here : k ≡ i = omega (arith, m, ge) in
          let bq : b ≡ q = same_element cuts k i b q here eb eq in
          subst (λ (c : Cut). precedes a c ≡ true) (sym bq)
          (elim (cases_eq j (i - 1)) [
            | inl last ↦ let ap_is : a ≡ p = same_element cuts j (i - 1) a p last ea ep in subst (λ (c : Cut). precedes c q ≡ true) (sym ap_is) e
            | inr n ↦ less_more a p q (h j (i - 1) a p (omega (arith, n, l, here)) (omega (arith, one)) ea ep) e
          ])
    ]

pub rise_whole : (cuts : List Cut) (i : ℕ) → length cuts ≤ i → RiseBelow cuts i → IsRising cuts
rise_whole cuts i le h j k a b l ea eb = let w = slice_get_within cuts k b eb in h j k a b l (omega (arith, w, le)) ea eb

-- where the middle precedes a cut, so does each before it; where it doesn't, none behind it does
pub step_low : (cuts : List Cut) (m : ℕ) (d cut : Cut) → IsRising cuts → slice_get cuts m ≡ Some d → precedes d cut ≡ true
    → (k : ℕ) (c : Cut) → k < m + 1 → slice_get cuts k ≡ Some c → precedes c cut ≡ true
step_low cuts m d cut rising em e k c l ec =
    elim (cases_lt k m) [
      | inl less ↦ less_more c d cut (rising k m c d less ec em) e
      | inr ge ↦ let same : c ≡ d = same_element cuts k m c d (omega (arith, l, ge)) ec em in subst (λ (b : Cut). precedes b cut ≡ true) (sym same) e
    ]

pub step_high : (cuts : List Cut) (m : ℕ) (d cut : Cut) → IsRising cuts → slice_get cuts m ≡ Some d → precedes d cut ≡ false
    → (k : ℕ) (c : Cut) → m ≤ k → slice_get cuts k ≡ Some c → precedes c cut ≡ false
step_high cuts m d cut rising em e k c l ec =
    elim (cases_Bool (precedes c cut)) [
      | inr miss ↦ miss
      | inl hit ↦ elim (cases_lt m k) [
        | inl less ↦ absurd (both_ways (precedes d cut) e (less_more d c cut (rising m k d c less em ec) hit))
        | inr ge ↦
            let same : c ≡ d = same_element cuts k m c d (omega (arith, l, ge)) ec em in
            absurd (both_ways (precedes d cut) e (subst (λ (b : Cut). precedes b cut ≡ true) same hit))
      ]
    ]

-- a cut in the range stands between the places of its ends
pub inside_of : (cuts : List Cut) (r : Range) (from to : ℕ)
    → ((k : ℕ) (c : Cut) → k < from → slice_get cuts k ≡ Some c → precedes c (begin_of r) ≡ true)
    → ((k : ℕ) (c : Cut) → to ≤ k → slice_get cuts k ≡ Some c → precedes c (end_of r) ≡ false)
    → (k : ℕ) (c : Cut) → slice_get cuts k ≡ Some c → c.block ≡ r.block → r.from ≤ c.at → c.at < r.to → (from ≤ k) × (k < to)
inside_of cuts r from to below above k c e same le lt = (first (cases_lt k from), second (cases_lt k to))
  where
    first : (k < from) ⊎ (from ≤ k) → from ≤ k
    first (inr ge) = ge
    first (inl l) = absurd (apart (less_of c (begin_of r) (below k c l e)))
      where
        apart : Less c (begin_of r) → ⊥
        apart (inl b) = omega (arith, b, same)
        apart (inr p) = let q = p.1 in omega (arith, q, le)

    second : (k < to) ⊎ (to ≤ k) → k < to
    second (inl l) = l
    second (inr ge) = absurd (both_ways (precedes c (end_of r)) (above k c ge e) (of_less c (end_of r) (inr (same, lt))))

pub whole_reach : (cuts : List Cut) (r : Range) (reach : Reach) → reach.from ≡ 0 → reach.to ≡ max (length cuts) 1 → IsReach cuts r reach
whole_reach cuts r reach f t = record {
  begin = inr (record { from = f; to = omega (arith, t); some = omega (arith, t) });
  inside = λ k c e same le lt. let w = slice_get_within cuts k c e in (omega (arith, f), omega (arith, w, t));
}

pub found_reach : (cuts : List Cut) (r : Range) (from to : ℕ) → slice_get cuts from ≡ Some (begin_of r)
    → ((k : ℕ) (c : Cut) → k < from → slice_get cuts k ≡ Some c → precedes c (begin_of r) ≡ true)
    → ((k : ℕ) (c : Cut) → to ≤ k → slice_get cuts k ≡ Some c → precedes c (end_of r) ≡ false)
    → let reach : Reach = record { from = from; to = to } in IsReach cuts r reach
found_reach cuts r from to found below above = record { begin = inl found; inside = inside_of cuts r from to below above }

-- Ranges that share a byte share a place ---------------------------------------------------------------------------------

pub record Shared (cuts : List Cut) (a b : Reach) : Type 0 where
  pub place : ℕ
  pub from_a : a.from ≤ place
  pub to_a : place < a.to
  pub from_b : b.from ≤ place
  pub to_b : place < b.to
  pub within : place < max (length cuts) 1

record Meeting (r s : Range) : Type 0 where
  block : r.block ≡ s.block
  first : r.from < s.to
  second : s.from < r.to
  some_r : r.from < r.to
  some_s : s.from < s.to

meeting : (r s : Range) → meets r s ≡ true → Meeting r s
meeting r s e =
    let p = and_parts (r.block == s.block) ((nat_lt r.from s.to && nat_lt s.from r.to) && (nat_lt r.from r.to && nat_lt s.from s.to)) e in
    let q = and_parts (nat_lt r.from s.to && nat_lt s.from r.to) (nat_lt r.from r.to && nat_lt s.from s.to) p.1 in
    let t = and_parts (nat_lt r.from s.to) (nat_lt s.from r.to) q.0 in
    let u = and_parts (nat_lt r.from r.to) (nat_lt s.from s.to) q.1 in
    record {
      block = eqb-true r.block s.block p.0;
      first = ltb-true r.from s.to t.0;
      second = ltb-true s.from r.to t.1;
      some_r = ltb-true r.from r.to u.0;
      some_s = ltb-true s.from s.to u.1;
    }

-- at the cut where the later of the two begins
at_cut : (cuts : List Cut) (r s : Range) (a b : Reach) → IsReach cuts r a → IsReach cuts s b → r.block ≡ s.block → r.from ≤ s.from → s.from < r.to → s.from < s.to
    → slice_get cuts b.from ≡ Some (begin_of s) → Shared cuts a b
at_cut cuts r s a b ra sb block le lt some found =
    let i = ra.inside b.from (begin_of s) found (sym block) le lt in
    let j = sb.inside b.from (begin_of s) found refl (omega arith) some in
    let w = slice_get_within cuts b.from (begin_of s) found in
    record { place = b.from; from_a = i.0; to_a = i.1; from_b = j.0; to_b = j.1; within = omega (arith, w) }

turned : (cuts : List Cut) (a b : Reach) → Shared cuts a b → Shared cuts b a
turned cuts a b s = record { place = s.place; from_a = s.from_b; to_a = s.to_b; from_b = s.from_a; to_b = s.to_a; within = s.within }

-- where one of them has all places
at_whole : (cuts : List Cut) (r : Range) (a b : Reach) → IsReach cuts r a → r.from < r.to → slice_get cuts a.from ≡ Some (begin_of r) → IsWhole cuts b → Shared cuts a b
at_whole cuts r a b ra some found whole =
    let i = ra.inside a.from (begin_of r) found refl (omega arith) some in
    let w = slice_get_within cuts a.from (begin_of r) found in
    let f = whole.from in
    let t = whole.to in
    record { place = a.from; from_a = i.0; to_a = i.1; from_b = omega (arith, f); to_b = omega (arith, w, t); within = omega (arith, w) }

pub reaches_meet : (cuts : List Cut) (r s : Range) (a b : Reach) → IsReach cuts r a → IsReach cuts s b → meets r s ≡ true → Shared cuts a b
reaches_meet cuts r s a b ra sb e = by (meeting r s e) ra.begin sb.begin
  where
    both : Meeting r s → slice_get cuts a.from ≡ Some (begin_of r) → slice_get cuts b.from ≡ Some (begin_of s) → (r.from < s.from) ⊎ (s.from ≤ r.from) → Shared cuts a b
    both m f g (inl l) = at_cut cuts r s a b ra sb m.block (omega (arith, l)) m.second m.some_s g
    both m f g (inr l) = turned cuts b a (at_cut cuts s r b a sb ra (sym m.block) l m.first m.some_r f)

    by : Meeting r s → (slice_get cuts a.from ≡ Some (begin_of r)) ⊎ IsWhole cuts a → (slice_get cuts b.from ≡ Some (begin_of s)) ⊎ IsWhole cuts b → Shared cuts a b
    by m (inl f) (inl g) = both m f g (cases_lt r.from s.from)
    by m (inl f) (inr w) = at_whole cuts r a b ra m.some_r f w
    by m (inr w) (inl g) = turned cuts b a (at_whole cuts s b a sb m.some_s g w)
    by m (inr v) (inr w) =
        let f = v.from in let p = v.some in let g = w.from in let q = w.some in
        record { place = 0; from_a = omega (arith, f); to_a = p; from_b = omega (arith, g); to_b = q; within = omega arith }
