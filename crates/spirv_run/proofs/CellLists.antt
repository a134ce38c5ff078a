-- Lists of cells, turn by turn.
use Rattle.std.proofs.Common.{◌≡◌, ℕ, zero, suc, ◌+◌, ◌<◌, ◌≤◌, List, [], ◌∷◌, length, map, set, get_or, replicate, Option, Some, None, inl, inr, refl, ap, ◌∙◌, eq-eqb, arith}
use Rattle.std.proofs.lemmas.Bool.{cond-true, cond-false, cases_eq, ne_eqb}
use Rattle.std.proofs.lemmas.Grind.{get_or-set_at}
use Rattle.std.proofs.lemmas.List.{get_or-set_other, map-set}
use Rattle.std.proofs.Math.Seq.{map-set_same}
use Rattle.std.specs.Prelude.{◌==◌}
use Rattle.spirv_run.specs.declared.value.Value.{Value}
use Rattle.spirv_run.specs.declared.value.Value.TheVariants.{Nothing}
use Rattle.spirv_run.specs.declared.cells.Cell.{Cell}
use Rattle.spirv_run.specs.Cells.{Cells, held_in, kept_of, cells_in, AreUntil, AreUnset}

both : {A : Type 0} (x y : A) (xs ys : List A) → x ≡ y → xs ≡ ys → x ∷ xs ≡ y ∷ ys
both x y xs ys e f = cc

-- a new turn has what each begins with
pub fresh : (turn : ℕ) (cs : List Cell) → AreUntil turn cs → map (held_in (turn + 1)) cs ≡ kept_of cs
fresh turn [] h = refl
fresh turn (c ∷ cs) h =
    let first : held_in (turn + 1) c ≡ c.kept = cond-false (c.turn == (turn + 1)) (Some c.value) c.kept (ne_eqb c.turn (turn + 1) (λ e. absurd (omega (arith, h.0, e)))) in
    both (held_in (turn + 1) c) c.kept (map (held_in (turn + 1)) cs) (kept_of cs) first (fresh turn cs h.1)

pub until_more : (turn : ℕ) (cs : List Cell) → AreUntil turn cs → AreUntil (turn + 1) cs
until_more turn [] h = tt
until_more turn (c ∷ cs) h = (omega (arith, h.0), until_more turn cs h.1)

pub until_unset : (cs : List Cell) → AreUnset cs → AreUntil 0 cs
until_unset [] h = tt
until_unset (c ∷ cs) h = (omega (arith, h 0 c (omega arith)), until_unset cs (λ i d lt. h (suc i) d (omega arith)))

pub until_set : (turn : ℕ) (cs : List Cell) (i : ℕ) (c : Cell) → c.turn ≤ turn → AreUntil turn cs → AreUntil turn (set cs i c)
until_set turn [] i c le h = tt
until_set turn (x ∷ xs) zero c le h = (le, h.1)
until_set turn (x ∷ xs) (suc i) c le h = (h.0, until_set turn xs i c le h.1)

pub until_replicate : (turn n : ℕ) (c : Cell) → c.turn ≤ turn → AreUntil turn (replicate n c)
until_replicate turn zero c le = tt
until_replicate turn (suc n) c le = (le, until_replicate turn n c le)

pub map_replicate : (f : Cell → Option Value) (n : ℕ) (c : Cell) → map f (replicate n c) ≡ replicate n (f c)
map_replicate f zero c = refl
map_replicate f (suc n) c = both (f c) (f c) (map f (replicate n c)) (replicate n (f c)) refl (map_replicate f n c)

pub until_at : (turn : ℕ) (cs : List Cell) (i : ℕ) (d : Cell) → i < length cs → AreUntil turn cs → (get_or cs i d).turn ≤ turn
until_at turn [] i d lt h = absurd (omega arith)
until_at turn (c ∷ cs) zero d lt h = h.0
until_at turn (c ∷ cs) (suc i) d lt h = until_at turn cs i d (omega arith) h.1

same_cells : (k k' h h' : List (Option Value)) → k ≡ k' → h ≡ h' → ◌≡◌ {A = Cells} (record { kept = k; held = h }) (record { kept = k'; held = h' })
same_cells k k' h h' p q = cc

-- a cell that is set in a turn
pub cells_set : (turn : ℕ) (cs : List Cell) (i : ℕ) (v : Value) (d : Cell) (k : Option Value) → k ≡ (get_or cs i d).kept
    → cells_in turn (set cs i (record { kept = k; turn = turn; value = v })) ≡ record (cells_in turn cs) { held = set (map (held_in turn) cs) i (Some v) }
cells_set turn cs i v d k e =
    let c : Cell = record { kept = k; turn = turn; value = v } in
    same_cells (kept_of (set cs i c)) (kept_of cs) (map (held_in turn) (set cs i c)) (set (map (held_in turn) cs) i (Some v))
    (map-set_same (λ (x : Cell). x.kept) cs i c d e)
    (map-set (held_in turn) cs i c ∙ ap (set (map (held_in turn) cs) i) (cond-true (turn == turn) (Some v) k (eq-eqb turn turn refl)))

-- cells of which none has a value
pub cells_new : (n : ℕ) (cs : List Cell) → cs ≡ replicate n (record { kept = None; turn = 0; value = Nothing })
    → cells_in 1 cs ≡ record { kept = replicate n None; held = replicate n None }
cells_new n cs e =
    let c : Cell = record { kept = None; turn = 0; value = Nothing } in
    ap (cells_in 1) e
    ∙ same_cells (kept_of (replicate n c)) (replicate n None) (map (held_in 1) (replicate n c)) (replicate n None) (map_replicate (λ (x : Cell). x.kept) n c) (map_replicate (held_in 1) n c)

-- one cell more is set in no turn
pub unset_more : (cs : List Cell) (i : ℕ) (y : Cell) → y.turn ≡ 0 → i < length cs → ((k : ℕ) (d : Cell) → k < i → (get_or cs k d).turn ≡ 0)
    → (k : ℕ) (d : Cell) → k < i + 1 → (get_or (set cs i y) k d).turn ≡ 0
unset_more cs i y unset lt before k d le = elim (cases_eq k i) [
  | inl same ↦ ap (λ (x : Cell). x.turn) (get_or-set_at cs i k y d same lt) ∙ unset
  | inr other ↦ ap (λ (x : Cell). x.turn) (get_or-set_other cs i k y d other) ∙ before k d (omega arith)
]
