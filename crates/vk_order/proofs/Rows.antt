-- Rows, as ranks are noted.
use Rattle.std.proofs.Common.{◌≡◌, ℕ, zero, suc, ◌+◌, ◌<◌, ◌≤◌, true, false, List, [], ◌∷◌, length, set, refl, sym, ap, subst, ◌∙◌, inl, inr, ◌⊎◌, Some, slice_get, arith}
use Rattle.std.proofs.lemmas.Bool.{cases_lt}
use Rattle.std.proofs.Math.ListN.{length-set}
use Rattle.vk_types.specs.declared.op.Barrier.{Barrier}
use Rattle.vk_order.specs.declared.turns.Row.{Row}
use Rattle.vk_order.specs.Classes.{names}
use Rattle.vk_order.specs.Turns.{RowGrew, RowsGrew, IsReadied}

pub get_in_set : {A : Type 0} (xs : List A) (i j : ℕ) (v x : A) → slice_get (set xs i v) j ≡ Some x → ((j ≡ i) × (x ≡ v)) ⊎ (slice_get xs j ≡ Some x)
get_in_set [] i zero v x e = absurd (cc e)
get_in_set [] i (suc j) v x e = absurd (cc e)
get_in_set (y ∷ xs) zero zero v x e = inl (refl, cc e)
get_in_set (y ∷ xs) zero (suc j) v x e = inr e
get_in_set (y ∷ xs) (suc i) zero v x e = inr e
get_in_set (y ∷ xs) (suc i) (suc j) v x e =
    elim (get_in_set xs i j v x e) [
      | inl h ↦ inl (ap suc h.0, h.1)
      | inr h ↦ inr h
    ]

pub get_at_set : {A : Type 0} (xs : List A) (i : ℕ) (v : A) → i < length xs → slice_get (set xs i v) i ≡ Some v
get_at_set [] i v l = absurd (omega (arith, l))
get_at_set (y ∷ xs) zero v l = refl
get_at_set (y ∷ xs) (suc i) v l = get_at_set xs i v (omega (arith, l))

pub rows_same : (rows : List Row) → RowsGrew rows rows
rows_same rows = record { len = refl; each = λ i row e. record { before = row; there = e; same = refl; latest = omega arith; ready = omega arith } }

-- a row is replaced by one with the same stages and no smaller ranks
pub rows_set : (old rows : List Row) (i : ℕ) (row next : Row) → RowsGrew old rows → slice_get rows i ≡ Some row → next.stages ≡ row.stages → row.latest ≤ next.latest → row.ready ≤ next.ready
    → RowsGrew old (set rows i next)
rows_set old rows i row next g there stages latest ready = record {
  len = length-set rows i next ∙ g.len;
  each = λ j r e. elim (get_in_set rows i j next r e) [
    | inr was ↦ g.each j r was
    | inl here ↦
        let before = g.each i row there in
        let at = here.0 in
        let first = before.latest in
        let second = before.ready in
        subst (λ (k : ℕ). RowGrew old k r) (sym at)
        (subst (λ (q : Row). RowGrew old i q) (sym here.1) (record {
          before = before.before;
          there = before.there;
          same = stages ∙ before.same;
          latest = omega (arith, first, latest);
          ready = omega (arith, second, ready);
        }))
  ];
}

-- the first rows are ready
abbrev pub ReadyBelow : List Row → Barrier → ℕ → ℕ → Type 0
ReadyBelow rows b rank n = (j : ℕ) (row : Row) → j < n → slice_get rows j ≡ Some row → names b.dest row.stages ≡ true → rank ≤ row.ready

pub ready_set : (rows : List Row) (b : Barrier) (rank i : ℕ) (row next : Row) → ReadyBelow rows b rank i → slice_get rows i ≡ Some row → rank ≤ next.ready → ReadyBelow (set rows i next) b rank (i + 1)
ready_set rows b rank i row next below there ready j r l e named =
    elim (get_in_set rows i j next r e) [
      | inl here ↦ subst (λ (q : Row). rank ≤ q.ready) (sym here.1) ready
      | inr was ↦ elim (cases_lt j i) [
        | inl less ↦ below j r less was named
        | inr ge ↦
            let same : j ≡ i = omega (arith, l, ge) in
            below_or rows b rank i j row next r same e there ready
      ]
    ]
  where
    below_or : (rows : List Row) (b : Barrier) (rank i j : ℕ) (row next r : Row) → j ≡ i → slice_get (set rows i next) j ≡ Some r → slice_get rows i ≡ Some row → rank ≤ next.ready → rank ≤ r.ready
    below_or rows b rank i j row next r same e there ready =
        let here : slice_get (set rows i next) i ≡ Some next = get_at_set rows i next (inside_of rows i row there) in
        let both : Some next ≡ Some r = sym here ∙ ap (slice_get (set rows i next)) (sym same) ∙ e in
        let is : next ≡ r = cc both in
        subst (λ (q : Row). rank ≤ q.ready) is ready
      where
        inside_of : (rows : List Row) (i : ℕ) (row : Row) → slice_get rows i ≡ Some row → i < length rows
        inside_of [] zero row e = absurd (cc e)
        inside_of [] (suc i) row e = absurd (cc e)
        inside_of (x ∷ rows) zero row e = omega arith
        inside_of (x ∷ rows) (suc i) row e = let l = inside_of rows i row e in omega (arith, l)

pub ready_next : (rows : List Row) (b : Barrier) (rank i : ℕ) (row : Row) → ReadyBelow rows b rank i → slice_get rows i ≡ Some row → names b.dest row.stages ≡ false → ReadyBelow rows b rank (i + 1)
ready_next rows b rank i row below there named j r l e n =
    elim (cases_lt j i) [
      | inl less ↦ below j r less e n
      | inr ge ↦
          let same : j ≡ i = omega (arith, l, ge) in
          let both : Some row ≡ Some r = sym there ∙ ap (slice_get rows) (sym same) ∙ e in
          let is : row ≡ r = cc both in
          let wrong : false ≡ true = sym named ∙ ap (λ (q : Row). names b.dest q.stages) is ∙ n in
          absurd (cc wrong)
    ]

-- what the first rows have that the source of a barrier names
abbrev pub NamedBelow : List Row → Barrier → ℕ → ℕ → Type 0
NamedBelow rows b n most = (j : ℕ) (row : Row) → j < n → slice_get rows j ≡ Some row → names b.source row.stages ≡ true → row.latest ≤ most

pub named_next : (rows : List Row) (b : Barrier) (i : ℕ) (row : Row) (most more : ℕ) → NamedBelow rows b i most → slice_get rows i ≡ Some row → most ≤ more
    → (names b.source row.stages ≡ true → row.latest ≤ more) → NamedBelow rows b (i + 1) more
named_next rows b i row most more below there le here j r l e named =
    elim (cases_lt j i) [
      | inl less ↦ let k = below j r less e named in omega (arith, k, le)
      | inr ge ↦
          let same : j ≡ i = omega (arith, l, ge) in
          let both : Some row ≡ Some r = sym there ∙ ap (slice_get rows) (sym same) ∙ e in
          let is : row ≡ r = cc both in
          let k : row.latest ≤ more = here (ap (λ (q : Row). names b.source q.stages) is ∙ named) in
          subst (λ (q : Row). q.latest ≤ more) is k
    ]

-- rows that are ready at a rank are so at each smaller one
pub ready_less : (rows : List Row) (b : Barrier) (rank less : ℕ) → less ≤ rank → IsReadied rows b rank → IsReadied rows b less
ready_less rows b rank less le r i row e named = let k = r i row e named in omega (arith, k, le)

abbrev pub no_row : Row
no_row = record { stages = record { indirect = false; compute = false; transfer = false; host = false }; latest = 0; ready = 0 }
