-- What a table keeps, after each change of the live buffers.
use Rattle.std.proofs.Common.{◌≡◌, ℕ, zero, suc, ◌+◌, ◌≤◌, ◌<◌, Bool, true, false, ◌&&◌, cond, List, [], ◌∷◌, slice_index, Option, Some, None, refl, sym, ap, ◌∙◌, arith}
use Rattle.std.specs.Prelude.{nat_le, ◌==◌}
use Rattle.std.specs.Option.{option_map}
use Rattle.std.specs.Ordering.{nat_cmp}
use Rattle.std.specs.Map.{lookup}
use Rattle.std.specs.BTreeMap.{is_at}
use Rattle.std.proofs.lemmas.Bool.{leb-false, eqb-true}
use Rattle.dx_types.specs.declared.shape.Shape.{Shape}
use Rattle.base_lemmas.specs.IdMap.{empty, get, insert, remove}
use Rattle.base_lemmas.specs.CodeMap.{map_of}
use Rattle.d3d_model.specs.Resource.{Buffers, is_dynamic, class_of, counts_as, live_bytes, live_dynamic}
use Rattle.base_lemmas.proofs.Maps.{total-empty, total-insert, total-remove-exactly}
use Rattle.base_lemmas.proofs.CodeMaps.{get-map_of}
use Rattle.d3d_resources.specs.Totals.{Kept}

same_value : {X : Type 0} (o : Option X) → option_map (λ x. x) o ≡ o
same_value None = refl
same_value (Some x) = refl

-- what is live under an id, by the entries of the code
pub shape_at : (es : List (ℕ × Shape)) (id : ℕ) → get (map_of (λ s. s) es) id ≡ lookup (is_at (nat_cmp id)) es
shape_at es id = get-map_of (λ s. s) es id ∙ same_value _

-- ---- the sums

live_bytes-empty : live_bytes empty ≡ 0
unfolding live_bytes
live_bytes-empty = total-empty (λ (s : Shape). s.size)

live_bytes-insert : (b : Buffers) (id : ℕ) (s : Shape) → get b id ≡ None → live_bytes (insert b id s) ≡ live_bytes b + s.size
unfolding live_bytes
live_bytes-insert b id s free = total-insert (λ (s : Shape). s.size) b id s free

pub live_bytes-remove : (b : Buffers) (id : ℕ) (s : Shape) → get b id ≡ Some s → live_bytes (remove b id) + s.size ≡ live_bytes b
unfolding live_bytes
live_bytes-remove b id s live = total-remove-exactly (λ (s : Shape). s.size) b id s live

live_dynamic-empty : (class : ℕ) → live_dynamic empty class ≡ 0
unfolding live_dynamic
live_dynamic-empty class = total-empty (counts_as class)

live_dynamic-insert : (b : Buffers) (id : ℕ) (s : Shape) (class : ℕ) → get b id ≡ None → live_dynamic (insert b id s) class ≡ live_dynamic b class + counts_as class s
unfolding live_dynamic
live_dynamic-insert b id s class free = total-insert (counts_as class) b id s free

pub live_dynamic-remove : (b : Buffers) (id : ℕ) (s : Shape) (class : ℕ) → get b id ≡ Some s → live_dynamic (remove b id) class + counts_as class s ≡ live_dynamic b class
unfolding live_dynamic
live_dynamic-remove b id s class live = total-remove-exactly (counts_as class) b id s live

-- ---- what is kept

no_counts : (class : ℕ) → slice_index (0 ∷ 0 ∷ 0 ∷ 0 ∷ 0 ∷ 0 ∷ 0 ∷ 0 ∷ []) class ≡ 0
no_counts zero = refl
no_counts (suc zero) = refl
no_counts (suc (suc zero)) = refl
no_counts (suc (suc (suc zero))) = refl
no_counts (suc (suc (suc (suc zero)))) = refl
no_counts (suc (suc (suc (suc (suc zero))))) = refl
no_counts (suc (suc (suc (suc (suc (suc zero)))))) = refl
no_counts (suc (suc (suc (suc (suc (suc (suc zero))))))) = refl
no_counts (suc (suc (suc (suc (suc (suc (suc (suc n)))))))) = refl

pub kept-empty : Kept empty 0 (0 ∷ 0 ∷ 0 ∷ 0 ∷ 0 ∷ 0 ∷ 0 ∷ 0 ∷ [])
kept-empty = record {
  sum_of_sizes = sym live_bytes-empty;
  room = omega (arith, live_bytes-empty);
  of_classes = λ class below. no_counts class ∙ sym (live_dynamic-empty class);
  few = λ class. omega (arith, live_dynamic-empty class);
}

-- one more of its class, where fewer than 32 are live
still_few : (now class own : ℕ) (dynamic same full : Bool) → now ≤ 32 → (same ≡ true → own ≡ class) → dynamic && full ≡ false → (full ≡ false → own ≡ class → suc now ≤ 32)
    → now + cond (dynamic && same) 1 0 ≤ 32
still_few now class own true true true le s full room = absurd cc
still_few now class own true true false le s full room = omega (arith, room refl (s refl))
still_few now class own true false full le s few room = omega arith
still_few now class own false same full le s few room = omega arith

few-insert : (b : Buffers) (s : Shape) (class : ℕ) → live_dynamic b class ≤ 32 → is_dynamic s.usage && nat_le 32 (live_dynamic b (class_of s.size)) ≡ false
    → live_dynamic b class + counts_as class s ≤ 32
few-insert b s class le few =
    still_few (live_dynamic b class) class (class_of s.size) (is_dynamic s.usage) (class_of s.size == class) (nat_le 32 (live_dynamic b (class_of s.size))) le
    (eqb-true (class_of s.size) class) few
    (λ full same. let below : suc (live_dynamic b (class_of s.size)) ≤ 32 = leb-false _ _ full in omega (arith, below, ap (live_dynamic b) same))

pub kept-insert : (b : Buffers) (total : ℕ) (dynamic after : List ℕ) (id : ℕ) (s : Shape) → Kept b total dynamic → get b id ≡ None
    → live_bytes b + s.size ≤ 268435456 → is_dynamic s.usage && nat_le 32 (live_dynamic b (class_of s.size)) ≡ false
    → ((class : ℕ) → class < 8 → slice_index after class ≡ slice_index dynamic class + counts_as class s)
    → Kept (insert b id s) (total + s.size) after
kept-insert b total dynamic after id s k free room few counts = record {
  sum_of_sizes = omega (arith, live_bytes-insert b id s free, k.sum_of_sizes);
  room = omega (arith, live_bytes-insert b id s free);
  of_classes = λ class below. omega (arith, counts class below, k.of_classes class below, live_dynamic-insert b id s class free);
  few = λ class. omega (arith, live_dynamic-insert b id s class free, few-insert b s class (k.few class) few);
}

pub kept-remove : (b : Buffers) (total : ℕ) (dynamic : List ℕ) (rest : ℕ) (after : List ℕ) (id : ℕ) (s : Shape) → Kept b total dynamic → get b id ≡ Some s
    → rest + s.size ≡ total
    → ((class : ℕ) → class < 8 → slice_index after class + counts_as class s ≡ slice_index dynamic class)
    → Kept (remove b id) rest after
kept-remove b total dynamic rest after id s k live less counts = record {
  sum_of_sizes = omega (arith, live_bytes-remove b id s live, k.sum_of_sizes, less);
  room = omega (arith, live_bytes-remove b id s live, k.room);
  of_classes = λ class below. omega (arith, counts class below, k.of_classes class below, live_dynamic-remove b id s class live);
  few = λ class. omega (arith, live_dynamic-remove b id s class live, k.few class);
}
