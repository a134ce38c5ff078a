-- What a source takes from a constant buffer is fetched into its variables.
use Rattle.std.proofs.Common.{◌≡◌, ℕ, ◌+◌, ◌-◌, ◌*◌, ◌/◌, ◌<◌, ◌≤◌, Bool, true, false, if◌then◌else◌, List, [], ◌∷◌, length, Option, Some, None, refl, ap, ◌∙◌, subst, arith}
use Rattle.std.specs.Prelude.{nat_lt, slice_index}
use Rattle.std.proofs.lemmas.Bool.{lt-ltb, ltb-true}
use Rattle.shader_model.specs.declared.ids.Ids.{Ids}
use Rattle.shader_model.specs.declared.tree.Declared.{Declared}
use Rattle.shader_model.specs.declared.tree.Operand.{Operand}
use Rattle.shader_model.specs.Words.{picked, index_in, swizzle_in}
use Rattle.shader_model.specs.Good.{OperandFits}
use Rattle.shader_model.specs.Invocation as model
use Rattle.shader_model.specs.Invocation.{State, words_in, vector_word, vector_of, relative}
use Rattle.shader_model.specs.Arithmetic.{added}
use Rattle.spirv_model.specs.Meaning.Values.{Value, Word, Truth}
use Rattle.spirv_model.specs.Meaning.Bindings.{words_at}
use Rattle.spirv_emit.specs.declared.formula.Formula.TheVariants as formula
use Rattle.spirv_emit.specs.declared.piece.Leaf.TheVariants.{Number, Length}
use Rattle.spirv_emit.specs.declared.piece.Action.TheVariants.{Fetch}
use Rattle.spirv_emit.specs.declared.piece.Piece.TheVariants.{Reach}
use Rattle.spirv_emit.specs.Steps.{steps_of}
use Rattle.spirv_emit.specs.Lower as lower
use Rattle.spirv_emit.specs.Lower.{nought, calculation, fetched, fetch, temporary}
use Rattle.spirv_emit.specs.Frames.{Frame, with_variable, steps_value, calculated, acted_at, missed, reached, piece_done}
use Rattle.spirv_emit.proofs.Lowering.FormulaValues.{vector_place_gives, relative_place_gives}
use Rattle.spirv_emit.proofs.Meaning.CodeStretches.{Shows}

-- a fetch of the word c of the vector v, where its condition and its place are known
fetch_by : (ids : Ids) (b x v c : ℕ) (ws : List ℕ) (f : Frame) (place : Option Value) → c < 4 → words_at f.slots b ≡ ws → (v < length ws / 4 → place ≡ Some (Word (4 * v + c))) → reached ids (Some (Truth (nat_lt v (length ws / 4)))) b place (Fetch x) f ≡ Some (with_variable x (vector_word ws v c) f)
fetch_by ids b x v c ws f place lc same at = by_side (nat_lt v (length ws / 4)) refl
  where
    inside : v < length ws / 4 → acted_at ids b (Some (Word (4 * v + c))) (Fetch x) f ≡ Some (with_variable x (slice_index ws (4 * v + c)) f)
    inside lt =
        ap (λ (zs : List ℕ). if nat_lt (4 * v + c) (length zs) then Some (with_variable x (slice_index zs (4 * v + c)) f) else None) same
        ∙ ap (λ t. if t then Some (with_variable x (slice_index ws (4 * v + c)) f) else None) (lt-ltb (4 * v + c) (length ws) (omega (arith, lt, lc)))

    by_side : (t : Bool) → nat_lt v (length ws / 4) ≡ t → (if t then acted_at ids b place (Fetch x) f else Some (missed (Fetch x) f)) ≡ Some (with_variable x (if t then slice_index ws (4 * v + c) else 0) f)
    by_side true e = let lt = ltb-true v (length ws / 4) e in ap (λ q. acted_at ids b q (Fetch x) f) (at lt) ∙ inside lt
    by_side false e = refl

module _ (ds : List Declared) (temps : ℕ) (ids : Ids) where
  -- the words of a constant buffer's binding
  constant_words : (z : model.Slots) (b : ℕ) → b < 14 → words_at z b ≡ words_in z.constants b
  constant_words z b lt = ap (λ t. if t then words_in z.constants b else (if nat_lt b 30 then words_in z.reads (b - 14) else (if nat_lt b 38 then words_in z.writes (b - 30) else []))) (lt-ltb b 14 lt)

  picked_below : (swizzle c : ℕ) → picked swizzle c < 4
  picked_below swizzle c = omega arith

  module _ (j i : ℕ) (o : Operand) (f : Frame) (s : State) (h : Shows temps f s) (fits : OperandFits ds temps o) (lt : o.index < 14) where
    abbrev b : ℕ
    b = o.index

    abbrev c : ℕ
    c = picked o.swizzle i

    abbrev w : ℕ
    w = slice_index o.words 0

    abbrev r : ℕ
    r = slice_index o.words 1

    abbrev ws : List ℕ
    ws = words_in s.slots.constants b

    abbrev x : ℕ
    x = fetched j i

    here : words_at f.slots b ≡ ws
    here = ap (λ (z : model.Slots). words_at z b) h.slots ∙ constant_words s.slots b lt

    limit : length ws ≤ 4194304
    limit = subst (λ (zs : List ℕ). length zs ≤ 4194304) (constant_words s.slots b lt) (h.limited b)

    -- by the number of the vector alone
    plain_fetch : o.flag ≡ false → piece_done ids (fetch j o i) f ≡ Some (with_variable x (vector_word ws w c) f)
    plain_fetch e =
        let below = picked_below o.swizzle i in
        let few = limit in
        let place = calculated ids f (calculation formula.VectorPlace (Number w) (Number c) nought nought nought) in
        ap (λ t. piece_done ids (if t then Reach (calculation formula.RelativeInside (Number w) (lower.relative o) (Length b) nought nought) b (calculation formula.RelativePlace (Number w) (lower.relative o) (Number c) nought nought) (Fetch x) else Reach (calculation formula.VectorInside (Number w) (Length b) nought nought nought) b (calculation formula.VectorPlace (Number w) (Number c) nought nought nought) (Fetch x)) f) e
        ∙ ap (λ (zs : List ℕ). reached ids (Some (Truth (nat_lt w (length zs / 4)))) b place (Fetch x) f) here
        ∙ fetch_by ids b x w c ws f place below here (λ less. vector_place_gives w c 0 0 0 (omega (arith, less, few, below)))

    -- by a temporary's word added to it
    flagged_fetch : o.flag ≡ true → piece_done ids (fetch j o i) f ≡ Some (with_variable x (vector_word ws (added w (relative r s)) c) f)
    flagged_fetch e =
        let below = picked_below o.swizzle i in
        let few = limit in
        let y = temporary (index_in r) (picked (swizzle_in r) 0) in
        let word : f.variables y ≡ relative r s = h.words (index_in r) (picked (swizzle_in r) 0) (fits.relative e) (picked_below (swizzle_in r) 0) in
        let place = calculated ids f (calculation formula.RelativePlace (Number w) (lower.relative o) (Number c) nought nought) in
        ap (λ t. piece_done ids (if t then Reach (calculation formula.RelativeInside (Number w) (lower.relative o) (Length b) nought nought) b (calculation formula.RelativePlace (Number w) (lower.relative o) (Number c) nought nought) (Fetch x) else Reach (calculation formula.VectorInside (Number w) (Length b) nought nought nought) b (calculation formula.VectorPlace (Number w) (Number c) nought nought nought) (Fetch x)) f) e
        ∙ ap (λ (zs : List ℕ). reached ids (Some (Truth (nat_lt (added w (f.variables y)) (length zs / 4)))) b place (Fetch x) f) here
        ∙ ap (λ k. reached ids (Some (Truth (nat_lt (added w k) (length ws / 4)))) b place (Fetch x) f) word
        ∙ fetch_by ids b x (added w (relative r s)) c ws f place below here
        (λ less. ap (λ k. steps_value (w ∷ k ∷ c ∷ 0 ∷ 0 ∷ []) (steps_of formula.RelativePlace)) word ∙ relative_place_gives w (relative r s) c 0 0 (omega (arith, less, few, below)))

    pub fetch_done : piece_done ids (fetch j o i) f ≡ Some (with_variable x (vector_word ws (vector_of o s) c) f)
    fetch_done = by_flag o.flag refl
      where
        by_flag : (t : Bool) → o.flag ≡ t → piece_done ids (fetch j o i) f ≡ Some (with_variable x (vector_word ws (if t then added w (relative r s) else w) c) f)
        by_flag true e = flagged_fetch e
        by_flag false e = plain_fetch e
