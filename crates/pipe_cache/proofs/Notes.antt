-- What is noted of the cells of a cache.
use Rattle.std.proofs.Common.{◌≡◌, ℕ, zero, suc, List, [], ◌∷◌, map, get_or, set, None, refl, sym, ap, subst, ◌∙◌}
use Rattle.std.proofs.lemmas.List.{length-map, get_or-map, get_or-set_other}
use Rattle.pipe_cache.specs.Cells.{AreNotesOf, Cell, HasShader, IsNoteOf, Noted, known_by, known_of, place_in, unnoted, unnoted_of}
use Rattle.pipe_cache.proofs.Places.{other_place}

-- nothing else is known of other shaders
pub known_elsewhere : (cells : List Cell) (notes : List Noted) (m n k : ℕ) (v : Noted) → (m ≡ n → ⊥) → HasShader cells n
    → k ≡ place_in cells n → known_by cells (set notes k v) m ≡ known_by cells notes m
known_elsewhere cells notes m n k v apart has placed =
    ap known_of (get_or-set_other notes k (place_in cells m) v (unnoted 0) (λ e. other_place cells m n apart has (e ∙ placed)))

nothing_known : (cells : List Cell) (i : ℕ) → known_of (get_or (map unnoted_of cells) i (unnoted 0)) ≡ None
nothing_known [] i = refl
nothing_known (c ∷ cs) zero = refl
nothing_known (c ∷ cs) (suc i) = nothing_known cs i

-- a new note
pub new_notes : (cells : List Cell) → AreNotesOf cells (map unnoted_of cells)
new_notes cells = record {
  count = length-map cells unnoted_of;
  each = λ k c n below. subst (λ (w : Noted). IsNoteOf (get_or cells k c) w) (sym (get_or-map unnoted_of cells k c n below)) (record { cell = refl; right = λ never. absurd cc });
}

pub new_notes_know_nothing : (cells : List Cell) (n : ℕ) → known_by cells (map unnoted_of cells) n ≡ None
new_notes_know_nothing cells n = nothing_known cells (place_in cells n)
