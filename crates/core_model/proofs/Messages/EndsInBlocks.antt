-- Where no message took what a device held, what its commands touch and what the host writes for it ends inside blocks
-- as they are behind all messages.
use Rattle.std.proofs.Common.{◌≡◌, ℕ, ◌≤◌, true, false, ◌||◌, List, [], ◌∷◌, ◌++◌, length, refl, sym, ap, ◌∙◌, subst}
use Rattle.std.proofs.Common.{inl, inr, arith, append_assoc}
use Rattle.std.specs.List.{AllByRecursion}
use Rattle.std.proofs.lemmas.Bool.{cases_Bool, both_ways, or_cases}
use Rattle.std.proofs.lemmas.List.Folds.{list_any-append}
use Rattle.dx_types.specs.declared.range.Range.{Range}
use Rattle.vk_types.specs.Hazards.{touches}
use Rattle.base_lemmas.proofs.Lists.{all_both, all_map}
use Rattle.core_model.specs.Owners.{is_block}
use Rattle.core_model.specs.Adding.{length_of}
use Rattle.core_model.specs.Lawful.{IsLawful}
use Rattle.core_model.specs.Succession.{Head, Log, takes, stages_in, all_places, places_in}
use Rattle.core_model.specs.Spine.{Succeeds, made_of, MayUse, IsInside, holds_block, TakesUnheld}
use Rattle.core_model.specs.Spine.{EndsInBlock}
use Rattle.core_model.proofs.Steps.Binding.{or_left}
use Rattle.core_model.proofs.Steps.Creating.{size_fits}
use Rattle.core_model.proofs.Steps.Uses.{map_append}
use Rattle.core_model.proofs.Messages.Placements.{all_places_append}
use Rattle.core_model.proofs.Messages.UsedBlocks.{message_uses}
use Rattle.core_model.proofs.Messages.DeviceHolds.{fewer_heads, used_held}
use Rattle.core_model.proofs.Messages.InsideBlocks.{message_inside}
use Rattle.core_model.proofs.Messages.HeldLengths.{untaken, lengths_known}

-- the message of these that took the block
taker : (b : ℕ) (hs : List Head) → takes b (all_places (places_in hs)) ≡ true
    → (before : List Head) × (at : Head) × (behind : List Head) × (hs ≡ before ++ at ∷ behind)
    × (takes b at.placed ≡ true)
taker b [] t = absurd (cc t)
taker b (x ∷ hs) t =
    elim (or_cases (takes b x.placed) (takes b (all_places (places_in hs)))
    (sym (list_any-append (λ p. is_block p.block b) x.placed (all_places (places_in hs))) ∙ t)) [
      | inl here ↦ ([], x, hs, refl, here)
      | inr later ↦ let y = taker b hs later in (x ∷ y.0, y.1, y.2, ap (λ l. x ∷ l) y.3, y.4)
    ]

module _ (log : Log) (lawful : IsLawful log.meaning log.script) (front : List Head) (h : Head) (back : List Head)
    (s : Succeeds log (front ++ h ∷ back)) (n : ℕ) (few : n ≤ length front)
    (unheld : TakesUnheld n (places_in (front ++ h ∷ back))) where
  here : Succeeds log (front ++ h ∷ [])
  here = fewer_heads log (front ++ h ∷ []) back (subst (Succeeds log) (sym (append_assoc front (h ∷ []) back)) s)

  -- no later message took what this one may use
  not_later : (b : ℕ) → MayUse log front h b → takes b (all_places (places_in back)) ≡ false
  not_later b may =
      elim (cases_Bool (takes b (all_places (places_in back)))) [
        | inl t ↦
            let x = taker b back t in
            let split : front ++ h ∷ back ≡ (front ++ h ∷ x.0) ++ x.1 ∷ x.2 =
            ap (λ l. front ++ h ∷ l) x.3 ∙ sym (append_assoc front (h ∷ x.0) (x.1 ∷ x.2)) in
            let earlier = fewer_heads log (front ++ h ∷ x.0) (x.1 ∷ x.2) (subst (Succeeds log) split s) in
            absurd (both_ways (holds_block n (places_in (front ++ h ∷ x.0)) b)
            (unheld (places_in (front ++ h ∷ x.0)) x.1.placed (places_in x.2)
            (ap places_in split ∙ map_append (λ h. h.placed) (front ++ h ∷ x.0) (x.1 ∷ x.2)) b
            (or_left (takes b x.1.placed) (stages_in b x.1.placed) x.4))
            (used_held log front h x.0 earlier n few b may))
        | inr f ↦ f
      ]

  ends : (r : Range) → MayUse log front h r.block → IsInside log front h r
      → EndsInBlock log (front ++ h ∷ back) h.placed r
  ends r may (inl page) = inl page
  ends r may (inr (inl x)) =
      inr (
        x.0,
        record {
          before = front;
          at = h;
          behind = back;
          split = refl;
          taken = x.1;
          once = not_later r.block may;
        },
        x.2,
      )
  ends r may (inr (inr x)) =
      let k = lengths_known log lawful front (fewer_heads log front (h ∷ back) s) x.0 r.block x.1 in
      let fits = size_fits log.script x.0 (lawful.classes x.0) in
      let long = x.2 in
      inr (
        length_of log.script x.0,
        record {
          before = k.before;
          at = k.at;
          behind = k.behind ++ h ∷ back;
          split = ap (λ l. l ++ h ∷ back) k.split ∙ append_assoc k.before (k.at ∷ k.behind) (h ∷ back);
          taken = k.taken;
          once = ap (takes r.block) (ap all_places (map_append (λ h. h.placed) k.behind (h ∷ back))
              ∙ all_places_append (places_in k.behind) (places_in (h ∷ back)))
              ∙ list_any-append (λ p. is_block p.block r.block) (all_places (places_in k.behind))
              (h.placed ++ all_places (places_in back))
              ∙ ap (λ c. c || takes r.block (h.placed ++ all_places (places_in back))) k.once
              ∙ list_any-append (λ p. is_block p.block r.block) h.placed (all_places (places_in back))
              ∙ ap (λ c. c || takes r.block (all_places (places_in back)))
              (untaken log lawful front h here x.0 r.block x.1) ∙ not_later r.block may;
        },
        omega (arith, long, fits),
      )

  pub commands_end : AllByRecursion (λ d. AllByRecursion (λ t. EndsInBlock log (front ++ h ∷ back) h.placed t.range)
      (touches d))
      (made_of log (front ++ h ∷ [])).listed
  commands_end =
      all_map (λ d. AllByRecursion (λ t. MayUse log front h t.range.block) (touches d)
      × AllByRecursion (λ t. IsInside log front h t.range) (touches d))
      (λ d. AllByRecursion (λ t. EndsInBlock log (front ++ h ∷ back) h.placed t.range) (touches d))
      (λ d k. all_map (λ t. MayUse log front h t.range.block × IsInside log front h t.range)
      (λ t. EndsInBlock log (front ++ h ∷ back) h.placed t.range) (λ t e. ends t.range e.0 e.1) (touches d)
      (all_both (λ t. MayUse log front h t.range.block) (λ t. IsInside log front h t.range) (touches d) k.0 k.1))
      (made_of log (front ++ h ∷ [])).listed
      (all_both (λ d. AllByRecursion (λ t. MayUse log front h t.range.block) (touches d))
      (λ d. AllByRecursion (λ t. IsInside log front h t.range) (touches d)) (made_of log (front ++ h ∷ [])).listed
      (message_uses log lawful front h here).listed (message_inside log lawful front h here).listed)

  pub writes_end : AllByRecursion (λ w. EndsInBlock log (front ++ h ∷ back) h.placed w.range)
      (made_of log (front ++ h ∷ [])).writes
  writes_end =
      all_map (λ w. MayUse log front h w.range.block × IsInside log front h w.range)
      (λ w. EndsInBlock log (front ++ h ∷ back) h.placed w.range) (λ w e. ends w.range e.0 e.1)
      (made_of log (front ++ h ∷ [])).writes
      (all_both (λ w. MayUse log front h w.range.block) (λ w. IsInside log front h w.range)
      (made_of log (front ++ h ∷ [])).writes (message_uses log lawful front h here).writes
      (message_inside log lawful front h here).writes)
