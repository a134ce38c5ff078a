-- What an item takes, or stages bytes in, the device doesn't hold as App takes it.
use Rattle.std.proofs.Common.{◌≡◌, ℕ, suc, ◌≤◌, Bool, true, false, ◌||◌, List, [], ◌∷◌, ◌++◌, length, map}
use Rattle.std.proofs.Common.{refl, sym, ap, ◌∙◌, subst, inl, inr, Option, Some, None, arith, append_assoc}
use Rattle.std.proofs.Common.{append-nil}
use Rattle.std.specs.List.{AllByRecursion}
use Rattle.std.proofs.lemmas.Bool.{cases_Bool, eqb-true}
use Rattle.std.proofs.lemmas.List.Folds.{list_any-append}
use Rattle.dx_types.specs.declared.range.Range.{Range}
use Rattle.vk_types.specs.declared.message.Placed.{Placed}
use Rattle.vk_types.specs.Effects.{Meaning}
use Rattle.base_lemmas.proofs.Lists.{all_back}
use Rattle.core_model.specs.Script.{Script}
use Rattle.core_model.specs.CoreState.{Page, Segment, Owner, Unmade, Home, Returning, Spare, Live, Retired, Paged}
use Rattle.core_model.specs.CoreState.{Dropped, Core, later, taken_count, finished_count}
use Rattle.core_model.specs.Readings.{Reading}
use Rattle.core_model.specs.Invariant.{IsSince, handed}
use Rattle.core_model.specs.Marked.{IsOff, all_messages, IsMarkedBy}
use Rattle.core_model.specs.Kept.{IsPageOf, ArePaged, Kept}
use Rattle.core_model.specs.Succession.{takes, stages_in, is_staged_in, all_places, staged_range_of, staged_ranges}
use Rattle.core_model.specs.Spine.{gives_up, holds_block}
use Rattle.core_model.proofs.Steps.Giving.{IsVacant}
use Rattle.core_model.proofs.Blocks.BlockSorts.{IsUnmade, IsPage, IsBuffers, page_or_buffers, unmade_or_buffers}
use Rattle.core_model.proofs.Blocks.BlockSorts.{unmade_or_page}
use Rattle.core_model.proofs.Blocks.MarkedBlocks.{ends_in}
use Rattle.core_model.proofs.Messages.Placements.{places_of, length_places, places_of_append, all_places_append}
use Rattle.core_model.proofs.Messages.PlacedPages.{once_all, all_of_map}
use Rattle.core_model.proofs.Messages.PlacedLines.{LinePlaced, PlacedCore}
use Rattle.core_model.proofs.Messages.ListedBatches.{handed_long}
use Rattle.core_model.proofs.Messages.UnheldPlaces.{takes_neither, stages_neither, no_places, none_holds, fewer_hold}
use Rattle.core_model.proofs.Messages.UnheldPlaces.{given_back, mark_gives, untaken}

messages_last : (pss : List (List Placed)) (ps : List Placed) → all_places (pss ++ ps ∷ []) ≡ all_places pss ++ ps
messages_last pss ps = all_places_append pss (ps ∷ []) ∙ ap (λ l. all_places pss ++ l) (append-nil ps)

not_both : (c : Bool) → (c ≡ true → ⊥) → c ≡ false
not_both c f = elim (cases_Bool c) [ inl t ↦ absurd (f t) | inr n ↦ n ]

-- A block that is free to take --------------------------------------------------------------------------------------

module _ (meaning : Meaning) (reading : Reading) (script : Script) (old : Core)
    (k : Kept meaning reading script old) (p : PlacedCore old) where
  abbrev earlier : List (List Placed)
  earlier = places_of (handed old)

  abbrev here : List Placed
  here = old.open_chunk.placed

  in_all : (b : ℕ) → (takes b (all_places (all_messages old)) ≡ false
      → takes b (all_places earlier) ≡ false)
      × (stages_in b (all_places (all_messages old)) ≡ false → stages_in b (all_places earlier) ≡ false)
  in_all b = (
    (λ h. (takes_neither b (all_places earlier) here (sym (ap (takes b) (messages_last earlier here)) ∙ h)).0),
    (λ h. (stages_neither b (all_places earlier) here (sym (ap (stages_in b) (messages_last earlier here)) ∙ h)).0),
  )

  unstaged : (b : ℕ) → (IsPage (old.owner b) → ⊥) → stages_in b (all_places earlier) ≡ false
  unstaged b n = (in_all b).1 (not_both (stages_in b (all_places (all_messages old))) (λ t. n (p.sorts.staged b t)))

  never_taken : (b : ℕ) → (IsBuffers (old.owner b) → ⊥) → takes b (all_places earlier) ≡ false
  never_taken b n = (in_all b).0 (not_both (takes b (all_places (all_messages old))) (λ t. n (p.sorts.taken b t)))

  pub unmade_unheld : (b : ℕ) → IsUnmade (old.owner b) → holds_block (finished_count old) earlier b ≡ false
  unmade_unheld b u =
      none_holds b (finished_count old) earlier
      (no_places b earlier (never_taken b (unmade_or_buffers (old.owner b) u))
      (unstaged b (unmade_or_page (old.owner b) u)))

  marked_unheld : (b n : ℕ) → n ≤ finished_count old → (IsPage (old.owner b) → ⊥)
      → IsMarkedBy (all_messages old) b n → holds_block (finished_count old) earlier b ≡ false
  marked_unheld b n l strange m =
      elim (ends_in earlier here m.front m.here m.back m.split) [
        | inl w ↦
            let long : length m.front ≡ length earlier = ap length w.0 in
            let a = length_places (handed old) in
            let c = handed_long old in
            let number = m.number in
            absurd (let z : ⊥ = omega (arith, long, a, c, l, number) in z)
        | inr w ↦
            let number = m.number in
            let none : takes b (all_places w.0) ≡ false =
            (takes_neither b (all_places w.0) here
            (sym (ap (takes b) (messages_last w.0 here))
            ∙ (takes_neither b m.after (all_places (w.0 ++ here ∷ []))
            (ap (λ l. takes b (m.after ++ all_places l)) (sym w.2) ∙ m.since)).1)).0 in
            let whole : all_places earlier ≡ all_places m.front ++ (m.here ++ all_places w.0) =
            ap all_places w.1 ∙ all_places_append m.front (m.here ∷ w.0) in
            let clean : stages_in b (all_places w.0) ≡ false =
            (stages_neither b m.here (all_places w.0)
            (stages_neither b (all_places m.front) (m.here ++ all_places w.0)
            (ap (stages_in b) (sym whole) ∙ unstaged b strange)).1).1 in
            ap (λ l. holds_block (finished_count old) l b) w.1
            ∙ given_back b (finished_count old) m.front m.here w.0 false (omega (arith, number, l))
            (ap (gives_up b) m.placed ∙ mark_gives b m.before m.place m.after m.marked) (no_places b w.0 none clean)
      ]

  pub vacant_unheld : (b : ℕ) → IsVacant (old.owner b) → holds_block (finished_count old) earlier b ≡ false
  vacant_unheld b v = by (old.owner b) refl v
    where
      by : (o : Owner) → old.owner b ≡ o → IsVacant o → holds_block (finished_count old) earlier b ≡ false
      by Unmade e v = unmade_unheld b (subst IsUnmade (sym e) tt)
      by (Home j) e v = marked_unheld b j (subst (IsSince (finished_count old)) e (k.good.sound.since b))
          (λ x. subst IsPage e x) (p.sorts.marked b j (subst (IsOff j) (sym e) refl))
      by (Returning j) e v = absurd v
      by Spare e v = absurd v
      by (Live buffer since bound) e v = absurd v
      by (Retired j since bound) e v = absurd v
      by (Paged j since bound) e v = absurd v
      by Dropped e v = absurd v

  -- a page that came back is named by no chunk whose post App did not take
  named_alone : (b : ℕ) (ps : List Placed) → AllByRecursion (λ r. r.block ≡ b → ⊥) (staged_ranges ps)
      → stages_in b ps ≡ false
  named_alone b [] h = refl
  named_alone b (q ∷ ps) h =
      let rest = all_back (λ r. r.block ≡ b → ⊥) (staged_range_of q.staged) (staged_ranges ps) h in
      ap (λ c. c || stages_in b ps) (not_both (is_staged_in b q.staged) (at q.staged refl)) ∙ named_alone b ps rest
    where
      at : (o : Option Range) → q.staged ≡ o → is_staged_in b q.staged ≡ true → ⊥
      at None e t = let z : false ≡ true = ap (is_staged_in b) (sym e) ∙ t in cc z
      at (Some r) e t =
          let first : AllByRecursion (λ r. r.block ≡ b → ⊥) ((r ∷ []) ++ staged_ranges ps) =
          subst (λ o. AllByRecursion (λ r. r.block ≡ b → ⊥) (staged_range_of o ++ staged_ranges ps)) e h in
          first.0 (eqb-true r.block b (ap (is_staged_in b) (sym e) ∙ t))

  not_paged : (b j : ℕ) → old.owner b ≡ Spare → IsPageOf j (old.owner b) → ⊥
  not_paged b j e h = subst (IsPageOf j) e h

  later_unstaged : (b : ℕ) → old.owner b ≡ Spare → (j : ℕ) (pre : List (List Placed)) (ss : List Segment)
      → ArePaged j old.owner ss → LinePlaced pre ss → stages_in b (all_places (places_of ss)) ≡ false
  later_unstaged b e j pre [] a l = refl
  later_unstaged b e j pre (s ∷ ss) a l =
      let apart : AllByRecursion (λ n. n ≡ b → ⊥) (map (λ q. q.block) s.pages) =
      all_to (λ q h same. not_paged b (suc j) e (subst (λ b. IsPageOf (suc j) (old.owner b)) same h)) s.pages a.0 in
      let named = all_of_map (λ r. r.block) (λ n. n ≡ b → ⊥) (staged_ranges s.placed)
      (once_all (λ n. n ≡ b → ⊥) [] (map (λ r. r.block) (staged_ranges s.placed)) tt
      (subst (AllByRecursion (λ n. n ≡ b → ⊥)) l.0.right.numbers apart)) in
      list_any-append (λ p. is_staged_in b p.staged) s.placed (all_places (places_of ss))
      ∙ ap (λ c. c || stages_in b (all_places (places_of ss))) (named_alone b s.placed named)
      ∙ later_unstaged b e (suc j) (pre ++ s.placed ∷ []) ss a.2 l.1
    where
      all_to : ((q : Page) → IsPageOf (suc j) (old.owner q.block) → q.block ≡ b → ⊥) → (qs : List Page)
          → AllByRecursion (λ q. IsPageOf (suc j) (old.owner q.block)) qs
          → AllByRecursion (λ n. n ≡ b → ⊥) (map (λ q. q.block) qs)
      all_to f [] h = tt
      all_to f (q ∷ qs) h = (f q h.0, all_to f qs h.1)

  line_back : (pre : List (List Placed)) (xs ys : List Segment) → LinePlaced pre (xs ++ ys)
      → LinePlaced (pre ++ places_of xs) ys
  line_back pre [] ys h = subst (λ l. LinePlaced l ys) (sym (append-nil pre)) h
  line_back pre (x ∷ xs) ys h = subst (λ l. LinePlaced l ys) (append_assoc pre (x.placed ∷ []) (places_of xs))
      (line_back (pre ++ x.placed ∷ []) xs ys h.1)

  pub spare_unheld : (b : ℕ) → old.owner b ≡ Spare → holds_block (finished_count old) earlier b ≡ false
  spare_unheld b e =
      let none = never_taken b (page_or_buffers (old.owner b) (subst IsPage (sym e) tt)) in
      let split : earlier ≡ places_of old.taken ++ places_of (later old) = places_of_append old.taken (later old) in
      let parts = takes_neither b (all_places (places_of old.taken)) (all_places (places_of (later old)))
      (ap (takes b) (sym (ap all_places split ∙ all_places_append (places_of old.taken) (places_of (later old))))
      ∙ none) in
      let clean = later_unstaged b e (taken_count old) (places_of old.taken) (later old) k.beside.pages.handed
      (line_back [] old.taken (later old) p.line) in
      let long = length_places old.taken in
      ap (λ l. holds_block (finished_count old) l b) split
      ∙ fewer_hold b (length (places_of old.taken)) (finished_count old)
      (places_of old.taken ++ places_of (later old)) false (omega (arith, long))
      (untaken b (places_of old.taken) (places_of (later old)) parts.0
      (no_places b (places_of (later old)) parts.1 clean))
