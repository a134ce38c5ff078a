-- The words of a view, written one after another.
use Rattle.std.proofs.Common.{◌≡◌, ◌<◌, ◌≤◌, ℕ, Bool, true, false, List, [], length, Option, Some, None, if◌then◌else◌, ◌⊎◌, inl, inr, refl, sym, ap, ◌∙◌, arith}
use Rattle.std.specs.Prelude.{slice_index_or, slice_set}
use Rattle.std.proofs.lemmas.List.{get_or-set_same, set-set, set_past, get_or_past}
use Rattle.shader_model.specs.declared.tree.Declared.{Declared}
use Rattle.shader_model.specs.Words.{bit}
use Rattle.shader_model.specs.Invocation.{words_in, place, with_word, stored}
use Rattle.shader_slots.specs.Bound.{Bound, with_written}

-- what becomes of a slot's words, where no words become none
at_slot : (n : ℕ) (ws : List (List ℕ)) → (n < length ws) ⊎ (length ws ≤ n) → (f : List ℕ → List ℕ) → f [] ≡ [] → slice_index_or (slice_set ws n (f (slice_index_or ws n []))) n [] ≡ f (slice_index_or ws n [])
at_slot n ws (inl h) f e = get_or-set_same ws n (f (slice_index_or ws n [])) [] h
at_slot n ws (inr h) f e =
    let none : slice_index_or ws n [] ≡ [] = get_or_past ws n [] h in
    let kept : slice_set ws n (f (slice_index_or ws n [])) ≡ ws = set_past ws n (f (slice_index_or ws n [])) h in
    ap (λ z. slice_index_or z n []) kept ∙ none ∙ sym e ∙ ap f (sym none)

within : (n k : ℕ) → (n < k) ⊎ (k ≤ n)
within n k = grind arith

-- one change of a slot's words after another
pub one_more : (n : ℕ) (f g : List ℕ → List ℕ) (a b d : Bound) → f [] ≡ [] → b ≡ with_written n (f (words_in a.words.writes n)) a → d ≡ with_written n (g (words_in b.words.writes n)) b
    → d ≡ with_written n (g (f (words_in a.words.writes n))) a
one_more n f g a b d e hb hd =
    let w = words_in a.words.writes n in
    let here : words_in b.words.writes n ≡ f w = ap (λ z. words_in z.words.writes n) hb ∙ at_slot n a.words.writes (within n (length a.words.writes)) f e in
    let twice : with_written n (g (f w)) (with_written n (f w) a) ≡ with_written n (g (f w)) a =
    ap (λ z. record a { words = record (a.words) { writes = z } }) (set-set a.words.writes n (f w) (g (f w))) in
    hd ∙ ap (λ z. with_written n (g z) b) here ∙ ap (with_written n (g (f w))) hb ∙ twice

none_set : (at : Option ℕ) (v : ℕ) → with_word [] at v ≡ []
none_set None v = refl
none_set (Some at) v = refl

stored_if : (b : Bool) (at : Option ℕ) (v : ℕ) → (if b then with_word [] at v else []) ≡ []
stored_if true at v = none_set at v
stored_if false at v = refl

-- no words become none
pub none_stored : (d : Declared) (extra a o : ℕ) (value : ℕ → ℕ) (c : ℕ) → stored d extra a o value c [] ≡ []
none_stored d extra a o value c = stored_if (bit c extra) (place d [] a o c) (value c)

-- the four components of a store
pub all_four : (n : ℕ) (f0 f1 f2 f3 : List ℕ → List ℕ) (a b0 b1 b2 b3 : Bound) → f0 [] ≡ [] → f1 [] ≡ [] → f2 [] ≡ []
    → b0 ≡ with_written n (f0 (words_in a.words.writes n)) a → b1 ≡ with_written n (f1 (words_in b0.words.writes n)) b0
    → b2 ≡ with_written n (f2 (words_in b1.words.writes n)) b1 → b3 ≡ with_written n (f3 (words_in b2.words.writes n)) b2
    → b3 ≡ with_written n (f3 (f2 (f1 (f0 (words_in a.words.writes n))))) a
all_four n f0 f1 f2 f3 a b0 b1 b2 b3 e0 e1 e2 h0 h1 h2 h3 =
    let s1 = one_more n f0 f1 a b0 b1 e0 h0 h1 in
    let s2 = one_more n (λ w. f1 (f0 w)) f2 a b1 b2 (ap f1 e0 ∙ e1) s1 h2 in
    one_more n (λ w. f2 (f1 (f0 w))) f3 a b2 b3 (ap f2 (ap f1 e0 ∙ e1) ∙ e2) s2 h3
