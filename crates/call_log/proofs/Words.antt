-- The bytes of some words.
use Rattle.std.proofs.Common.{◌≡◌, ℕ, ◌+◌, ◌*◌, ◌<◌, List, [], ◌∷◌, ◌++◌, length, get_or, take, refl, sym, ap, ◌∙◌, arith}
use Rattle.std.specs.List.{flat_map}
use Rattle.std.proofs.lemmas.List.{take_more, append-nil}
use Rattle.std.proofs.lemmas.List.Concat.{flat_map-append}
use Rattle.byteorder.specs.Endian.{little_bytes}
use Rattle.call_log.specs.Put.{spell_words}

-- one word more
pub spell_more : (ws : List ℕ) (i d : ℕ) → i < length ws → spell_words (take i ws) ++ little_bytes 4 (get_or ws i d) ≡ spell_words (take (i + 1) ws)
unfolding spell_words
spell_more ws i d lt =
    ap (λ (l : List ℕ). flat_map (little_bytes 4) (take i ws) ++ l) (sym (append-nil (little_bytes 4 (get_or ws i d))))
    ∙ sym (flat_map-append (little_bytes 4) (take i ws) (get_or ws i d ∷ []))
    ∙ ap (flat_map (little_bytes 4)) (sym (take_more ws i d lt))

pub length-spell_words : (ws : List ℕ) → length (spell_words ws) ≡ 4 * length ws
unfolding spell_words
length-spell_words [] = refl
length-spell_words (w ∷ ws) = omega (arith, length-spell_words ws)

-- what was there before stands in front
pub front_kept : (old more now : List ℕ) → take (length (old ++ more)) now ≡ old ++ more → take (length old) now ≡ old
front_kept [] more now e = refl
front_kept (x ∷ old) more [] e = absurd cc
front_kept (x ∷ old) more (y ∷ now) e =
    let first : y ≡ x = cc in
    let others : take (length (old ++ more)) now ≡ old ++ more = cc in
    let rest : take (length old) now ≡ old = front_kept old more now others in
    λ i. first i ∷ rest i
