-- The table of a module while it is made.
use Rattle.std.proofs.Common.{◌≡◌, ℕ, zero, suc, ◌+◌, ◌-◌, ◌<◌, ◌≤◌, Bool, List, [], ◌∷◌, ◌++◌, length, take, drop, map, get_or, refl, sym, ap, ◌∙◌, arith, append-nil, append_assoc}
use Rattle.std.proofs.lemmas.List.{map-append, take_all}
use Rattle.spirv_model.specs.Op.{Op}
use Rattle.spirv_model.specs.Words.{Instruction, BadCount, BadOpcode, front}
use Rattle.spirv_model.specs.FirstBad.{reading, read_front}
use Rattle.spirv_model.specs.Meaning.ModuleDispatch.{local_size, group_of}
use Rattle.spirv_run.specs.declared.step.Step.{Step}
use Rattle.spirv_run.specs.Decoding.{steps_from, step_of, steps_of, ops_of, is_label, begins_with_label}

-- one instruction more was read
pub one_read : (n i w : ℕ) (ws rest : List ℕ) (o : Op) → i < n → Instruction o rest ≡ front w ws → (reading (n - i) (w ∷ ws)).ops ≡ o ∷ (reading (n - (i + 1)) rest).ops
unfolding reading
one_read n i w ws rest o lt h =
    let one : n - i ≡ suc (n - (i + 1)) = omega arith in
    ap (λ k. (reading k (w ∷ ws)).ops) one ∙ ap (λ f. (read_front f (reading (n - (i + 1)))).ops) (sym h)

pub none_read : (n i w : ℕ) (ws : List ℕ) → i < n → BadCount ≡ front w ws → (reading (n - i) (w ∷ ws)).ops ≡ []
unfolding reading
none_read n i w ws lt h =
    let one : n - i ≡ suc (n - (i + 1)) = omega arith in
    ap (λ k. (reading k (w ∷ ws)).ops) one ∙ ap (λ f. (read_front f (reading (n - (i + 1)))).ops) (sym h)

pub no_opcode : (n i w : ℕ) (ws : List ℕ) → i < n → BadOpcode ≡ front w ws → (reading (n - i) (w ∷ ws)).ops ≡ []
unfolding reading
no_opcode n i w ws lt h =
    let one : n - i ≡ suc (n - (i + 1)) = omega arith in
    ap (λ k. (reading k (w ∷ ws)).ops) one ∙ ap (λ f. (read_front f (reading (n - (i + 1)))).ops) (sym h)

pub read_nothing : (k : ℕ) → (reading k []).ops ≡ []
unfolding reading
read_nothing zero = refl
read_nothing (suc k) = refl

pub no_words_left : (ws : List ℕ) → (reading 0 ws).ops ≡ []
unfolding reading
no_words_left [] = refl
no_words_left (w ∷ ws) = refl

module _ {A B : Type 0} (f : A → B) where
  -- what stands at a place of a mapped list
  pub mapped_at : (xs : List A) (i : ℕ) (d : A) → i < length xs → drop i (map f xs) ≡ f (get_or xs i d) ∷ drop (i + 1) (map f xs)
  mapped_at [] i d lt = absurd (omega arith)
  mapped_at (x ∷ xs) zero d lt = refl
  mapped_at (x ∷ xs) (suc i) d lt =
      let same : suc (i + 1) ≡ suc i + 1 = omega arith in
      mapped_at xs i d (omega arith) ∙ ap (λ k. f (get_or xs i d) ∷ drop k (f x ∷ map f xs)) same

-- one step more of the table
pub one_stepped : (all : List Op) (total steps : List Step) (at : ℕ) (o : Op) (l : Bool) (s : Step) → drop at all ≡ o ∷ drop (at + 1) all
    → l ≡ begins_with_label (drop (at + 1) all) → s ≡ step_of all o l (at + 1) → total ≡ steps ++ steps_from all at (drop at all)
    → total ≡ (steps ++ s ∷ []) ++ steps_from all (at + 1) (drop (at + 1) all)
one_stepped all total steps at o l s e hl hs h =
    let rest : List Step = steps_from all (at + 1) (drop (at + 1) all) in
    h ∙ ap (λ z. steps ++ steps_from all at z) e
    ∙ ap (λ z. steps ++ step_of all o z (at + 1) ∷ rest) (sym hl)
    ∙ ap (λ z. steps ++ z ∷ rest) (sym hs)
    ∙ sym (append_assoc steps (s ∷ []) rest)

-- a label stands at a place of viewed instructions
pub label_there : {A : Type 0} (f : A → Op) (xs : List A) (i : ℕ) (d : A) → i < length xs → is_label (f (get_or xs i d)) ≡ begins_with_label (drop i (map f xs))
label_there f xs i d lt = sym (ap begins_with_label (mapped_at f xs i d lt))

-- a list of at least one element
pub first_and_rest : (ws : List ℕ) → 1 ≤ length ws → ws ≡ get_or ws 0 0 ∷ drop 1 ws
first_and_rest [] h = absurd (omega arith)
first_and_rest (w ∷ ws) h = refl

-- reading has come to the end of the words
pub read_whole : (total ops : List Op) (k : ℕ) (rest : List ℕ) → total ≡ ops ++ (reading k rest).ops → (reading k rest).ops ≡ [] → ops ≡ total
read_whole total ops k rest h e = sym (h ∙ ap (λ z. ops ++ z) e ∙ append-nil ops)

pub empty_read : (k : ℕ) (rest : List ℕ) → length rest < 1 → (reading k rest).ops ≡ []
empty_read k [] h = read_nothing k
empty_read k (w ∷ ws) h = absurd (omega arith)

pub bad_count_read : (n i : ℕ) (rest : List ℕ) → i < n → 1 ≤ length rest → BadCount ≡ front (get_or rest 0 0) (take (length rest - 1) (drop 1 rest)) → (reading (n - i) rest).ops ≡ []
bad_count_read n i [] lt h e = absurd (omega arith)
bad_count_read n i (w ∷ ws) lt h e = none_read n i w ws lt (e ∙ ap (front w) (take_all (length (w ∷ ws) - 1) ws (omega arith)))

pub bad_opcode_read : (n i : ℕ) (rest : List ℕ) → i < n → 1 ≤ length rest → BadOpcode ≡ front (get_or rest 0 0) (take (length rest - 1) (drop 1 rest)) → (reading (n - i) rest).ops ≡ []
bad_opcode_read n i [] lt h e = absurd (omega arith)
bad_opcode_read n i (w ∷ ws) lt h e = no_opcode n i w ws lt (e ∙ ap (front w) (take_all (length (w ∷ ws) - 1) ws (omega arith)))

pub more_read : {A : Type 0} (f : A → Op) (total : List Op) (ops more : List A) (o : A) (n i : ℕ) (rest later : List ℕ) → i < n → 1 ≤ length rest
    → Instruction (f o) later ≡ front (get_or rest 0 0) (take (length rest - 1) (drop 1 rest)) → more ≡ ops ++ o ∷ [] → total ≡ map f ops ++ (reading (n - i) rest).ops
    → total ≡ map f more ++ (reading (n - (i + 1)) later).ops
more_read f total ops more o n i [] later lt h e m t = absurd (omega arith)
more_read f total ops more o n i (w ∷ ws) later lt h e m t =
    let r : List Op = (reading (n - (i + 1)) later).ops in
    t ∙ ap (λ z. map f ops ++ z) (one_read n i w ws later (f o) lt (e ∙ ap (front w) (take_all (length (w ∷ ws) - 1) ws (omega arith))))
    ∙ sym (append_assoc (map f ops) (f o ∷ []) r)
    ∙ ap (λ z. z ++ r) (sym (map-append f ops (o ∷ [])))
    ∙ ap (λ z. map f z ++ r) (sym m)

-- the steps and the group of instructions that a module's words have
pub table_steps : (words : List ℕ) (ops : List Op) (steps : List Step) → ops ≡ ops_of words → steps ≡ steps_from ops 0 ops → steps ≡ steps_of words
unfolding steps_of
table_steps words ops steps e h = h ∙ ap (λ z. steps_from z 0 z) e

pub table_group : (words : List ℕ) (ops : List Op) (group : List ℕ) → ops ≡ ops_of words → group ≡ local_size ops → group ≡ group_of words
unfolding group_of
table_group words ops group e h = h ∙ ap local_size e
