-- A piece that is written over some bytes.
use Rattle.std.proofs.Common.{◌≡◌, ℕ, zero, suc, ◌+◌, ◌-◌, ◌<◌, ◌≤◌, cond, true, false, List, [], ◌∷◌, ◌++◌, length, take, drop, get_or, inl, inr, refl, sym, ap, ◌∙◌, arith, length-take, length-drop, get_or-take, get_or-drop}
use Rattle.std.proofs.Math.ListN.{set, length-set}
use Rattle.std.proofs.lemmas.Bool.{cases_lt, cases_eq, cond-true, cond-false, and_from, and_left, and_right, le-leb, lt-leb, lt-ltb, le-ltb}
use Rattle.std.proofs.lemmas.List.{length-append, get_or_append_left, get_or-append_right, get_or-set_same, get_or-set_other}
use Rattle.vk_types.specs.Memory.{number_at}
use Rattle.device_memory.specs.Writes.{is_within, IsPut}

-- an element of a list of numbers, 0 past its end
pub number_get : (ns : List ℕ) (k : ℕ) → number_at ns k ≡ get_or ns k 0
number_get [] k = refl
number_get (x ∷ xs) zero = refl
number_get (x ∷ xs) (suc k) = number_get xs k

pub inside : (from to at : ℕ) → from ≤ at → at < to → is_within from to at ≡ true
inside from to at a b = and_from _ _ (le-leb from at a) (lt-ltb at to b)

pub in_front : (from to at : ℕ) → at < from → is_within from to at ≡ false
in_front from to at a = and_left _ _ (lt-leb from at a)

pub behind : (from to at : ℕ) → to ≤ at → is_within from to at ≡ false
behind from to at a = and_right _ _ (le-ltb at to a)

module _ (from to : ℕ) (piece : ℕ → ℕ) (old new : List ℕ) where
  -- the piece stands where it was written, and all around it is as before
  pub put_by_index : length new ≡ length old → ((k : ℕ) → from ≤ k → k < to → get_or new k 0 ≡ piece (k - from)) → ((k : ℕ) → k < from → get_or new k 0 ≡ get_or old k 0)
      → ((k : ℕ) → to ≤ k → get_or new k 0 ≡ get_or old k 0) → IsPut from to piece old new
  put_by_index long within before after = record {
    size = long;
    bytes = λ k. number_get new k ∙ by k ∙ ap (cond (is_within from to k) (piece (k - from))) (sym (number_get old k));
  }
    where
      outside : (k : ℕ) → is_within from to k ≡ false → get_or new k 0 ≡ get_or old k 0 → get_or new k 0 ≡ cond (is_within from to k) (piece (k - from)) (get_or old k 0)
      outside k is same = same ∙ sym (cond-false (is_within from to k) (piece (k - from)) (get_or old k 0) is)

      by : (k : ℕ) → get_or new k 0 ≡ cond (is_within from to k) (piece (k - from)) (get_or old k 0)
      by k = elim (cases_lt k from) [
        | inl lt ↦ outside k (in_front from to k lt) (before k lt)
        | inr ge ↦ elim (cases_lt k to) [
          | inl lt ↦ within k ge lt ∙ sym (cond-true (is_within from to k) (piece (k - from)) (get_or old k 0) (inside from to k ge lt))
          | inr far ↦ outside k (behind from to k far) (after k far)
        ]
      ]

module _ (old piece : List ℕ) (from to : ℕ) (order : from ≤ to) (room : to ≤ length old) (fits : length piece ≡ to - from) where
  -- the bytes with a piece over as many of them
  abbrev over : List ℕ
  over = take from old ++ (piece ++ drop (to - from) (drop from old))

  front : length (take from old) ≡ from
  front = omega (arith, length-take from old)

  size : length over ≡ length old
  size = omega (
    arith,
    front,
    fits,
    length-append (take from old) (piece ++ drop (to - from) (drop from old)),
    length-append piece (drop (to - from) (drop from old)),
    length-drop (to - from) (drop from old),
    length-drop from old,
  )

  before : (k : ℕ) → k < from → get_or over k 0 ≡ get_or old k 0
  before k lt = get_or_append_left (take from old) _ 0 k (omega (arith, front)) ∙ get_or-take from old k 0 lt

  past : (k : ℕ) → from ≤ k → get_or over k 0 ≡ get_or (piece ++ drop (to - from) (drop from old)) (k - from) 0
  past k ge = get_or-append_right (take from old) _ from k 0 front ge

  within : (k : ℕ) → from ≤ k → k < to → get_or over k 0 ≡ number_at piece (k - from)
  within k ge lt = past k ge ∙ get_or_append_left piece _ 0 (k - from) (omega (arith, fits)) ∙ sym (number_get piece (k - from))

  after : (k : ℕ) → to ≤ k → get_or over k 0 ≡ get_or old k 0
  after k ge =
      let back : from + (to - from + (k - from - (to - from))) ≡ k = omega arith in
      past k (omega arith)
      ∙ get_or-append_right piece _ (to - from) (k - from) 0 fits (omega arith)
      ∙ get_or-drop (to - from) (drop from old) (k - from - (to - from)) 0
      ∙ get_or-drop from old (to - from + (k - from - (to - from))) 0
      ∙ ap (λ (i : ℕ). get_or old i 0) back

  pub put_over : IsPut from to (number_at piece) old over
  put_over = put_by_index from to (number_at piece) old over size within before after

-- ---- byte by byte

pub put_none : (from : ℕ) (piece : ℕ → ℕ) (old : List ℕ) → IsPut from from piece old old
put_none from piece old = put_by_index from from piece old old refl (λ k ge lt. absurd (omega (arith, ge, lt))) (λ k lt. refl) (λ k ge. refl)

pub put_more : (from at v : ℕ) (piece : ℕ → ℕ) (old cur : List ℕ) → from ≤ at → at < length old → v ≡ piece (at - from) → IsPut from at piece old cur → IsPut from (at + 1) piece old (set cur at v)
put_more from at v piece old cur ge lt is put = put_by_index from (at + 1) piece old (set cur at v) (length-set cur at v ∙ put.size) here front back
  where
    was : (k : ℕ) → get_or cur k 0 ≡ cond (is_within from at k) (piece (k - from)) (get_or old k 0)
    was k = sym (number_get cur k) ∙ put.bytes k ∙ ap (cond (is_within from at k) (piece (k - from))) (number_get old k)

    other : (k : ℕ) → (k ≡ at → ⊥) → get_or (set cur at v) k 0 ≡ get_or cur k 0
    other k apart = get_or-set_other cur at k v 0 apart

    room : at < length cur
    room = omega (arith, put.size)

    here : (k : ℕ) → from ≤ k → k < at + 1 → get_or (set cur at v) k 0 ≡ piece (k - from)
    here k a b = elim (cases_eq k at) [
      | inl same ↦ ap (λ (i : ℕ). get_or (set cur at v) i 0) same ∙ get_or-set_same cur at v 0 room ∙ is ∙ ap (λ (i : ℕ). piece (i - from)) (sym same)
      | inr apart ↦ other k apart ∙ was k ∙ cond-true (is_within from at k) (piece (k - from)) (get_or old k 0) (inside from at k a (omega (arith, apart)))
    ]

    front : (k : ℕ) → k < from → get_or (set cur at v) k 0 ≡ get_or old k 0
    front k a = other k (λ e. omega (arith, e)) ∙ was k ∙ cond-false (is_within from at k) (piece (k - from)) (get_or old k 0) (in_front from at k a)

    back : (k : ℕ) → at + 1 ≤ k → get_or (set cur at v) k 0 ≡ get_or old k 0
    back k a = other k (λ e. omega (arith, e)) ∙ was k ∙ cond-false (is_within from at k) (piece (k - from)) (get_or old k 0) (behind from at k (omega arith))
