-- Marks of messages as one place more stands behind them.
use Rattle.std.proofs.Common.{◌≡◌, ℕ, suc, Bool, true, false, ◌||◌, List, [], ◌∷◌, ◌++◌, length}
use Rattle.std.proofs.Common.{refl, sym, ap, ◌∙◌, ◌⊎◌, inl, inr, Some, append_assoc}
use Rattle.std.proofs.Common.{append-nil}
use Rattle.std.proofs.lemmas.List.Folds.{list_any-append}
use Rattle.vk_types.specs.declared.message.Placed.{Placed}
use Rattle.core_model.specs.Owners.{is_block}
use Rattle.core_model.specs.Marked.{IsMarkedBy}
use Rattle.core_model.specs.Succession.{takes, stages_in, is_staged_in, all_places}
use Rattle.core_model.proofs.Messages.Placements.{all_places_append}

-- One place more ----------------------------------------------------------------------------------------------------

pub messages_more : (pss : List (List Placed)) (ps : List Placed) (p : Placed)
    → all_places (pss ++ (ps ++ p ∷ []) ∷ []) ≡ all_places (pss ++ ps ∷ []) ++ p ∷ []
messages_more [] ps p = append-nil (ps ++ p ∷ []) ∙ ap (λ l. l ++ p ∷ []) (sym (append-nil ps))
messages_more (qs ∷ pss) ps p = ap (λ l. qs ++ l) (messages_more pss ps p)
    ∙ sym (append_assoc qs (all_places (pss ++ ps ∷ [])) (p ∷ []))

pub or_false : (c : Bool) → (c || false) ≡ c
or_false true = refl
or_false false = refl

pub takes_more : (b : ℕ) (ps : List Placed) (p : Placed) → takes b (ps ++ p ∷ []) ≡ (takes b ps || is_block p.block b)
takes_more b ps p = list_any-append (λ p. is_block p.block b) ps (p ∷ [])
    ∙ ap (λ c. takes b ps || c) (or_false (is_block p.block b))

pub stages_more : (b : ℕ) (ps : List Placed) (p : Placed) → stages_in b (ps ++ p ∷ [])
    ≡ (stages_in b ps || is_staged_in b p.staged)
stages_more b ps p = list_any-append (λ p. is_staged_in b p.staged) ps (p ∷ [])
    ∙ ap (λ c. stages_in b ps || c) (or_false (is_staged_in b p.staged))

-- the last of two lists that are one
abbrev pub LastSplit : {A : Type 0} → List A → A → List A → A → List A → Type 0
LastSplit {A} pss ps front here back = ((front ≡ pss) × (here ≡ ps) × (back ≡ []))
    ⊎ ((rest : List A) × (pss ≡ front ++ here ∷ rest) × (back ≡ rest ++ ps ∷ []))

pub ends_in : {A : Type 0} (pss : List A) (ps : A) (front : List A) (here : A) (back : List A)
    → pss ++ ps ∷ [] ≡ front ++ here ∷ back → LastSplit pss ps front here back
ends_in [] ps [] here back e = inl (refl, (let s : ps ≡ here = cc e in sym s), (let t : [] ≡ back = cc e in sym t))
ends_in [] ps (f ∷ []) here back e = absurd (cc e)
ends_in [] ps (f ∷ g ∷ front) here back e = absurd (cc e)
ends_in (x ∷ pss) ps [] here back e =
    let s : x ≡ here = cc e in
    let t : pss ++ ps ∷ [] ≡ back = cc e in
    inr (pss, ap (λ x. x ∷ pss) s, sym t)
ends_in (x ∷ pss) ps (f ∷ front) here back e =
    let s : x ≡ f = cc e in
    let t : pss ++ ps ∷ [] ≡ front ++ here ∷ back = cc e in
    elim (ends_in pss ps front here back t) [
      | inl w ↦ inl (ap (λ l. f ∷ l) w.0 ∙ ap (λ x. x ∷ pss) (sym s), w.1, w.2)
      | inr w ↦ inr (w.0, ap (λ x. x ∷ pss) s ∙ ap (λ l. f ∷ l) w.1, w.2)
    ]

-- a mark stays where the place takes another block
pub marked_more : (pss : List (List Placed)) (ps : List Placed) (p : Placed) (b n : ℕ) → is_block p.block b ≡ false
    → IsMarkedBy (pss ++ ps ∷ []) b n → IsMarkedBy (pss ++ (ps ++ p ∷ []) ∷ []) b n
marked_more pss ps p b n other h =
    elim (ends_in pss ps h.front h.here h.back h.split) [
      | inl w ↦ record {
        front = pss;
        here = ps ++ p ∷ [];
        back = [];
        split = refl;
        number = ap (λ l. suc (length l)) (sym w.0) ∙ h.number;
        before = h.before;
        place = h.place;
        after = h.after ++ p ∷ [];
        placed = ap (λ l. l ++ p ∷ []) (sym w.1 ∙ h.placed) ∙ append_assoc h.before (h.place ∷ h.after) (p ∷ []);
        marked = h.marked;
        since = ap (takes b) (append-nil (h.after ++ p ∷ [])) ∙ takes_more b h.after p
            ∙ ap (λ c. c || is_block p.block b) (ap (takes b) (sym (append-nil h.after))
            ∙ ap (λ l. takes b (h.after ++ all_places l)) (sym w.2) ∙ h.since) ∙ other;
      }
      | inr w ↦ record {
        front = h.front;
        here = h.here;
        back = w.0 ++ (ps ++ p ∷ []) ∷ [];
        split = ap (λ l. l ++ (ps ++ p ∷ []) ∷ []) w.1 ∙ append_assoc h.front (h.here ∷ w.0) ((ps ++ p ∷ []) ∷ []);
        number = h.number;
        before = h.before;
        place = h.place;
        after = h.after;
        placed = h.placed;
        marked = h.marked;
        since =
            ap (λ l. takes b (h.after ++ l)) (messages_more w.0 ps p)
            ∙ ap (takes b) (sym (append_assoc h.after (all_places (w.0 ++ ps ∷ [])) (p ∷ [])))
            ∙ takes_more b (h.after ++ all_places (w.0 ++ ps ∷ [])) p
            ∙ ap (λ c. c || is_block p.block b) (ap (λ l. takes b (h.after ++ all_places l)) (sym w.2)
            ∙ h.since) ∙ other;
      }
    ]

-- the place itself is a mark
pub marked_here : (pss : List (List Placed)) (ps : List Placed) (p : Placed) (b n : ℕ) → suc (length pss) ≡ n
    → p.mark ≡ Some b → IsMarkedBy (pss ++ (ps ++ p ∷ []) ∷ []) b n
marked_here pss ps p b n e m = record {
  front = pss;
  here = ps ++ p ∷ [];
  back = [];
  split = refl;
  number = e;
  before = ps;
  place = p;
  after = [];
  placed = refl;
  marked = m;
  since = refl;
}

-- an empty message more
pub marked_next : (pss : List (List Placed)) (b n : ℕ) → IsMarkedBy pss b n → IsMarkedBy (pss ++ [] ∷ []) b n
marked_next pss b n h = record {
  front = h.front;
  here = h.here;
  back = h.back ++ [] ∷ [];
  split = ap (λ l. l ++ [] ∷ []) h.split ∙ append_assoc h.front (h.here ∷ h.back) ([] ∷ []);
  number = h.number;
  before = h.before;
  place = h.place;
  after = h.after;
  placed = h.placed;
  marked = h.marked;
  since = ap (λ l. takes b (h.after ++ l)) (all_places_append h.back ([] ∷ []) ∙ append-nil (all_places h.back))
      ∙ h.since;
}
