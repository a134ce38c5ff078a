-- The bytes that a clear writes.
use Rattle.std.proofs.Common.{◌≡◌, ℕ, zero, suc, ◌*◌, ◌/◌, List, [], ◌∷◌, ◌++◌, length, take, drop, slice_index, min, refl, sym, ap, ◌∙◌, arith}
use Rattle.std.specs.List.{flat_map}
use Rattle.std.proofs.lemmas.List.{drop_all, length-take, take_min}
use Rattle.std.proofs.lemmas.Grind.{flat_map-append}
use Rattle.byteorder.specs.Endian.{little_bytes}
use borrow.Rule.Slice.PartMut.{put_mid}
use Rattle.dx_types.specs.declared.shape.ViewShape.{ViewShape}
use Rattle.dx_types.specs.declared.shape.Form.{Form}
use Rattle.dx_types.specs.declared.shape.Form.TheVariants.{Raw, Structured, Typed}
use Rattle.d3d_model.specs.Memory.{element, elements, pattern}
use Rattle.d3d_model.specs.Regions.{put, repeated, spelled}
use Rattle.d3d_memory.specs.Clears.{element_words}

spelled_repeated : (n : ℕ) (words : List ℕ) → spelled (repeated n words) ≡ repeated n (spelled words)
unfolding spelled
spelled_repeated zero words = refl
spelled_repeated (suc n) words = flat_map-append (little_bytes 4) words (repeated n words) ∙ ap (λ (l : List ℕ). flat_map (little_bytes 4) words ++ l) (spelled_repeated n words)

pub spelled_front : (k : ℕ) (words : List ℕ) → spelled (take k words) ≡ take (4 * k) (spelled words)
unfolding spelled
spelled_front zero words = refl
spelled_front (suc k) [] = ap (λ (j : ℕ). take j []) (let e : suc (suc (suc (suc (4 * k)))) ≡ 4 * suc k = omega arith in e)
spelled_front (suc k) (w ∷ words) =
    ap (λ (l : List ℕ). little_bytes 4 w ++ l) (spelled_front k words)
    ∙ ap (λ (j : ℕ). take j (little_bytes 4 w ++ flat_map (little_bytes 4) words)) (let e : suc (suc (suc (suc (4 * k)))) ≡ 4 * suc k = omega arith in e)

-- one element is the first of the values
element_front : (form : Form) (unit : ℕ) (values : List ℕ) → length values ≡ 4 → element form unit values ≡ take (element_words form unit) values
element_front Raw unit values e = refl
element_front Structured unit values e = refl
element_front Typed unit values e = sym (ap (λ (j : ℕ). take (min (unit / 4) j) values) (sym e) ∙ take_min (unit / 4) values)

pub cleared_bytes : (old new : List ℕ) (v : ViewShape) (values bytes : List ℕ) (from n k : ℕ) → length values ≡ 4 → bytes ≡ spelled values → from ≡ v.first * v.unit → n ≡ elements v.form v
    → k ≡ element_words v.form v.unit → new ≡ put old from (repeated n (take (4 * k) bytes)) → new ≡ put old (v.first * v.unit) (pattern v values)
cleared_bytes old new v values bytes from n k four spell at times words is =
    is
    ∙ ap (λ (j : ℕ). put old j (repeated n (take (4 * k) bytes))) at
    ∙ ap (λ (j : ℕ). put old (v.first * v.unit) (repeated j (take (4 * k) bytes))) times
    ∙ ap (λ (j : ℕ). put old (v.first * v.unit) (repeated (elements v.form v) (take (4 * j) bytes))) words
    ∙ ap (λ (l : List ℕ). put old (v.first * v.unit) (repeated (elements v.form v) (take (4 * element_words v.form v.unit) l))) spell
    ∙ ap (λ (l : List ℕ). put old (v.first * v.unit) (repeated (elements v.form v) l)) (sym (spelled_front (element_words v.form v.unit) values) ∙ ap spelled (sym (element_front v.form v.unit values four)))
    ∙ ap (put old (v.first * v.unit)) (sym (spelled_repeated (elements v.form v) (element v.form v.unit values)))

-- ---- four words

four_values : (vs : List ℕ) → length vs ≡ 4 → vs ≡ slice_index vs 0 ∷ slice_index vs 1 ∷ slice_index vs 2 ∷ slice_index vs 3 ∷ []
four_values (a ∷ b ∷ c ∷ d ∷ []) e = refl
four_values [] e = absurd (omega (arith, e))
four_values (a ∷ []) e = absurd (omega (arith, e))
four_values (a ∷ b ∷ []) e = absurd (omega (arith, e))
four_values (a ∷ b ∷ c ∷ []) e = absurd (omega (arith, e))
four_values (a ∷ b ∷ c ∷ d ∷ x ∷ vs) e = absurd (omega (arith, e))

abbrev twelve_zeros : List ℕ
twelve_zeros = 0 ∷ 0 ∷ 0 ∷ 0 ∷ 0 ∷ 0 ∷ 0 ∷ 0 ∷ 0 ∷ 0 ∷ 0 ∷ 0 ∷ []

pub four_spelled : (vs a b c d : List ℕ) → length vs ≡ 4 → a ≡ little_bytes 4 (slice_index vs 0) → b ≡ little_bytes 4 (slice_index vs 1) → c ≡ little_bytes 4 (slice_index vs 2) → d ≡ little_bytes 4 (slice_index vs 3)
    → put_mid 12 4 (put_mid 8 4 (put_mid 4 4 (a ++ twelve_zeros) b) c) d ≡ spelled vs
unfolding spelled
four_spelled vs a b c d four p q r s =
    ap (λ (l : List ℕ). put_mid 12 4 (put_mid 8 4 (put_mid 4 4 (l ++ twelve_zeros) b) c) d) p
    ∙ ap (λ (l : List ℕ). put_mid 12 4 (put_mid 8 4 (put_mid 4 4 (little_bytes 4 (slice_index vs 0) ++ twelve_zeros) l) c) d) q
    ∙ ap (λ (l : List ℕ). put_mid 12 4 (put_mid 8 4 (put_mid 4 4 (little_bytes 4 (slice_index vs 0) ++ twelve_zeros) (little_bytes 4 (slice_index vs 1))) l) d) r
    ∙ ap (λ (l : List ℕ). put_mid 12 4 (put_mid 8 4 (put_mid 4 4 (little_bytes 4 (slice_index vs 0) ++ twelve_zeros) (little_bytes 4 (slice_index vs 1))) (little_bytes 4 (slice_index vs 2))) l) s
    ∙ sym (ap (flat_map (little_bytes 4)) (four_values vs four))

-- a word over the whole of a part
pub front_only : (new old : List ℕ) (w : ℕ) → new ≡ little_bytes 4 w ++ drop 4 (take 4 old) → new ≡ little_bytes 4 w
front_only new old w e = e ∙ ap (λ (l : List ℕ). little_bytes 4 w ++ l) (drop_all 4 (take 4 old) (omega (arith, length-take 4 old)))
