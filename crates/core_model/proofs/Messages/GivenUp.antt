-- What the items of a message give up: blocks that an item of it took, or that buffers had before it.
use Rattle.std.proofs.Common.{◌≡◌, ℕ, suc, true, false, cond, ◌==◌, List, [], ◌∷◌, ◌++◌, length, sym, ap}
use Rattle.std.proofs.Common.{◌∙◌, subst, inl, inr, ◌⊎◌, Option, Some, None, append_assoc, append-nil}
use Rattle.std.proofs.lemmas.Bool.{cases_Bool, both_ways, or_cases, eqb-true}
use Rattle.std.proofs.lemmas.List.Folds.{list_any-append}
use Rattle.vk_types.specs.declared.message.Placed.{Placed}
use Rattle.core_model.specs.Script.{Play, Create, Discard, No_overwrite, Stage, Command, Destroy, Create_shader}
use Rattle.core_model.specs.Script.{Mark_query, Set_state, Turn, Refused, Passed, Flushed, Asked, Item, Script, updated}
use Rattle.core_model.specs.Chunking.{chunk_turns}
use Rattle.core_model.specs.Renaming.{BlockMap}
use Rattle.core_model.specs.Owners.{is_block}
use Rattle.core_model.specs.Lawful.{IsLawful}
use Rattle.core_model.specs.Succession.{Head, Log, PlacesPlay, takes, all_places, places_in}
use Rattle.core_model.specs.Spine.{Succeeds, made_of, gives_up, IsHeldBy}
use Rattle.core_model.specs.Batching.{Made}
use Rattle.core_model.proofs.Steps.Binding.{or_left}
use Rattle.core_model.proofs.Steps.Destroying.{found}
use Rattle.core_model.proofs.Blocks.MarkedBlocks.{ends_in}
use Rattle.core_model.proofs.Messages.Placements.{GivesTo}
use Rattle.core_model.proofs.Messages.HeadLines.{last_of}
use Rattle.core_model.proofs.Messages.HeldBlocks.{takes_more, taken_strange, taken_anew}
use Rattle.core_model.proofs.Messages.MessageItems.{behind_all}

-- the block was a live buffer's
pub mark_live : (script : Script) (play : Play) (p : Placed) (old new : BlockMap) → PlacesPlay script play p old new
    → (b : ℕ) → p.mark ≡ Some b
    → (r : ℕ) × (old r ≡ Some b)
mark_live script (Create buffer bytes) p old new k b e = absurd (let z : None ≡ Some b = sym k.2 ∙ e in cc z)
mark_live script (Discard buffer from bytes) p old new k b e = (buffer, sym k.2 ∙ e)
mark_live script (No_overwrite buffer from bytes) p old new k b e =
    absurd (let z : None ≡ Some b = sym k.0.1 ∙ e in cc z)
mark_live script (Stage bytes target skip) p old new k b e = absurd (let z : None ≡ Some b = sym k.1 ∙ e in cc z)
mark_live script (Command w skip) p old new k b e = absurd (let z : None ≡ Some b = sym k.0.1 ∙ e in cc z)
mark_live script (Destroy buffer) p old new k b e = (buffer, sym k.1 ∙ e)
mark_live script Create_shader p old new k b e = absurd (let z : None ≡ Some b = sym k.0.1 ∙ e in cc z)
mark_live script (Mark_query query begins) p old new k b e = absurd (let z : None ≡ Some b = sym k.0.1 ∙ e in cc z)
mark_live script Set_state p old new k b e = absurd (let z : None ≡ Some b = sym k.0.1 ∙ e in cc z)

module _ (script : Script) (before : BlockMap) where
  -- an item of the message took the block, or a buffer had it before
  abbrev IsKnown : List Placed → ℕ → Type 0
  IsKnown here b = (takes b here ≡ true) ⊎ ((q : ℕ) × (before q ≡ Some b))

  known_more : (here : List Placed) (p : Placed) (b : ℕ) → IsKnown here b → IsKnown (here ++ p ∷ []) b
  known_more here p b (inl t) =
      inl (list_any-append (λ q. is_block q.block b) here (p ∷ []) ∙ or_left (takes b here) (takes b (p ∷ [])) t)
  known_more here p b (inr x) = inr x

  record Known (here : List Placed) (blocks : BlockMap) : Type 0 where
    owned : (r b : ℕ) → blocks r ≡ Some b → IsKnown here b
    gave : (b : ℕ) → gives_up b here ≡ true → IsKnown here b

  is_marked : (o : Option ℕ) (b : ℕ) → is_block o b ≡ true → o ≡ Some b
  is_marked None b h = absurd (cc h)
  is_marked (Some c) b h = ap Some (sym (eqb-true b c h))

  gave_more : (here : List Placed) (p : Placed) (play : Play) (old new : BlockMap)
      → PlacesPlay script play p old new → Known here old
      → (b : ℕ) → gives_up b (here ++ p ∷ []) ≡ true → IsKnown (here ++ p ∷ []) b
  gave_more here p play old new k h b g =
      elim (or_cases (gives_up b here) (gives_up b (p ∷ []))
      (sym (list_any-append (λ q. is_block q.mark b) here (p ∷ [])) ∙ g)) [
        | inl t ↦ known_more here p b (h.gave b t)
        | inr u ↦ elim (or_cases (is_block p.mark b) false u) [
          | inl m ↦ let x = mark_live script play p old new k b (is_marked p.mark b m) in
              known_more here p b (h.owned x.0 b x.1)
          | inr n ↦ absurd (cc n)
        ]
      ]

  taken_known : (here : List Placed) (p : Placed) (old new : BlockMap) (buffer c : ℕ) → p.block ≡ Some c
      → new ≡ updated buffer (Some c) old
      → Known here old → (r b : ℕ) → new r ≡ Some b → IsKnown (here ++ p ∷ []) b
  taken_known here p old new buffer c took same h r b e =
      let now : updated buffer (Some c) old r ≡ Some b = sym (ap (λ f. f r) same) ∙ e in
      elim (cases_Bool (r == buffer)) [
        | inl y ↦
            let own : Some c ≡ Some b = sym (ap (λ x. cond x (Some c) (old r)) y) ∙ now in
            inl (takes_more b here p [] (took ∙ own))
        | inr n ↦ known_more here p b (h.owned r b (sym (ap (λ x. cond x (Some c) (old r)) n) ∙ now))
      ]

  same_known : (here : List Placed) (p : Placed) (old new : BlockMap) → new ≡ old → Known here old → (r b : ℕ)
      → new r ≡ Some b
      → IsKnown (here ++ p ∷ []) b
  same_known here p old new same h r b e = known_more here p b (h.owned r b (sym (ap (λ f. f r) same) ∙ e))

  owned_more : (here : List Placed) (p : Placed) (play : Play) (old new : BlockMap)
      → PlacesPlay script play p old new → Known here old
      → (r b : ℕ) → new r ≡ Some b → IsKnown (here ++ p ∷ []) b
  owned_more here p (Create buffer bytes) old new k h = taken_known here p old new buffer k.0 k.1 k.5 h
  owned_more here p (Discard buffer from bytes) old new k h = taken_known here p old new buffer k.0 k.1 k.5 h
  owned_more here p (No_overwrite buffer from bytes) old new k h = same_known here p old new k.1 h
  owned_more here p (Stage bytes target skip) old new k h = same_known here p old new k.3 h
  owned_more here p (Command w skip) old new k h = same_known here p old new k.1 h
  owned_more here p (Destroy buffer) old new k h =
      λ r b e. known_more here p b (h.owned r b (found buffer old r b (sym (ap (λ f. f r) k.3) ∙ e)).0)
  owned_more here p Create_shader old new k h = same_known here p old new k.1 h
  owned_more here p (Mark_query query begins) old new k h = same_known here p old new k.1 h
  owned_more here p Set_state old new k h = same_known here p old new k.1 h

  -- what the first items of the message gave up is known
  first_gave : (ts : List Turn) (ps : List Placed) (old new : BlockMap) → GivesTo script ts ps old new
      → (here a rest : List Placed)
      → ps ≡ a ++ rest → Known here old → (b : ℕ) → gives_up b (here ++ a) ≡ true → IsKnown (here ++ a) b
  first_gave ts ps old new g here [] rest e h b k =
      subst (λ l. IsKnown l b) (sym (append-nil here)) (h.gave b (sym (ap (gives_up b) (append-nil here)) ∙ k))
  first_gave [] ps old new g here (x ∷ a) rest e h b k = absurd (let z : [] ≡ x ∷ (a ++ rest) = sym g.0 ∙ e in cc z)
  first_gave (Refused call ∷ ts) ps old new g here (x ∷ a) rest e h b k =
      first_gave ts ps old new g here (x ∷ a) rest e h b k
  first_gave (Passed call ∷ ts) ps old new g here (x ∷ a) rest e h b k =
      first_gave ts ps old new g here (x ∷ a) rest e h b k
  first_gave (Flushed call ∷ ts) ps old new g here (x ∷ a) rest e h b k =
      first_gave ts ps old new g here (x ∷ a) rest e h b k
  first_gave (Asked call ask used may_pend ∷ ts) ps old new g here (x ∷ a) rest e h b k =
      first_gave ts ps old new g here (x ∷ a) rest e h b k
  first_gave (Item call item ends play bound ∷ ts) ps old new g here (x ∷ a) rest e h b k =
      let both : g.0 ∷ g.1 ≡ x ∷ (a ++ rest) = sym g.2 ∙ e in
      let first : g.0 ≡ x = cc both in
      let others : g.1 ≡ a ++ rest = cc both in
      let at : PlacesPlay script play x old g.3 = subst (λ p. PlacesPlay script play p old g.3) first g.4 in
      let next : Known (here ++ x ∷ []) g.3 = record {
        owned = owned_more here x play old g.3 at h;
        gave = gave_more here x play old g.3 at h;
      } in
      subst (λ l. IsKnown l b) (append_assoc here (x ∷ []) a)
      (first_gave ts g.1 g.3 new g.7 (here ++ x ∷ []) a rest others next b
      (ap (gives_up b) (append_assoc here (x ∷ []) a) ∙ k))

-- what the first items of a message gave up, one of them took, or a buffer had it before the message
pub gave_known : (log : Log) (front : List Head) (h : Head) → Succeeds log (front ++ h ∷ [])
    → (a rest : List Placed) → h.placed ≡ a ++ rest → (b : ℕ) → gives_up b a ≡ true
    → (takes b a ≡ true) ⊎ ((r : ℕ) × ((made_of log front).blocks r ≡ Some b))
gave_known log front h s a rest e b g =
    let l = last_of log front h s in
    elim (first_gave log.script l.before (chunk_turns log.script (suc (length front))) h.placed l.before l.after l.gives
    [] a rest e (record { owned = λ r b x. inr (r, x); gave = λ b x. absurd (cc x) }) b g) [
      | inl t ↦ inl t
      | inr x ↦ inr (x.0, ap (λ f. f x.0) l.made_before ∙ x.1)
    ]

-- no item of a message gave up, before it was taken, a block that an item of the message takes
pub not_before : (log : Log) (front : List Head) (h : Head) → Succeeds log (front ++ h ∷ [])
    → (a : List Placed) (p : Placed) (rest : List Placed) (b : ℕ)
    → h.placed ≡ a ++ p ∷ rest → p.block ≡ Some b → gives_up b a ≡ false
not_before log front h s a p rest b e took =
    elim (cases_Bool (gives_up b a)) [
      | inl t ↦ elim (gave_known log front h s a (p ∷ rest) e b t) [
        | inl again ↦ absurd (both_ways (takes b a) (taken_anew log front h s a p rest b e took) again)
        | inr x ↦ absurd (taken_strange log front h s a p rest b e took x.0 x.1)
      ]
      | inr f ↦ f
    ]

-- as an item gives a block up, it is held by the items before it
module _ (log : Log) (lawful : IsLawful log.meaning log.script) (front : List Head) (h : Head)
    (s : Succeeds log (front ++ h ∷ [])) where
  abbrev GivesHeld : List Turn → List Placed → Made → Type 0
  GivesHeld done here m =
      (before : List Placed) (p : Placed) (after : List Placed) (b : ℕ) → here ≡ before ++ p ∷ after
      → p.mark ≡ Some b → IsHeldBy (all_places (places_in front) ++ before) b

  pub given_held : (before : List Placed) (p : Placed) (after : List Placed) (b : ℕ)
      → h.placed ≡ before ++ p ∷ after → p.mark ≡ Some b → IsHeldBy (all_places (places_in front) ++ before) b
  given_held =
      behind_all log lawful front h s GivesHeld (λ done here m t n q. q)
      (λ x q before p after b e g. elim (ends_in x.here x.place before p after e) [
        | inl w ↦
            let was = mark_live log.script x.play x.place x.made.blocks x.after x.places b (ap (λ p. p.mark) (sym w.1)
            ∙ g) in
            subst (λ l. IsHeldBy (all_places (places_in front) ++ l) b) (sym w.0) (x.holds.held was.0 b was.1)
        | inr w ↦ q before p w.0 b w.1 g
      ])
      (λ before p after b e g. absurd (none before p after e))
    where
      none : (before : List Placed) (p : Placed) (after : List Placed) → [] ≡ before ++ p ∷ after → ⊥
      none [] p after e = cc e
      none (x ∷ before) p after e = cc e
