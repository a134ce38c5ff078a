-- Of messages that a device did not complete no two give up one block, where it held nothing that it took.
use Rattle.std.proofs.Common.{◌≡◌, ℕ, ◌≤◌, true, false, List, [], ◌∷◌, ◌++◌, length, sym, ap, ◌∙◌, subst, inl, inr}
use Rattle.std.proofs.Common.{◌⊎◌, append_assoc, append-nil}
use Rattle.std.proofs.lemmas.Bool.{cases_Bool, both_ways}
use Rattle.std.proofs.lemmas.List.Folds.{list_any-append}
use Rattle.core_model.specs.Owners.{is_block}
use Rattle.core_model.specs.Succession.{Head, Log, takes, stages_in, all_places, places_in}
use Rattle.core_model.specs.Spine.{Succeeds, gives_up, holds_block, TakesUnheld}
use Rattle.core_model.proofs.Steps.Binding.{or_left, or_right}
use Rattle.core_model.proofs.Steps.Uses.{map_append}
use Rattle.core_model.proofs.Messages.GivenUp.{gave_known}
use Rattle.core_model.proofs.Messages.HeldBlocks.{holds_before}
use Rattle.core_model.proofs.Messages.DeviceHolds.{fewer_heads, HeldMessage, held_message, marks_held}

-- where one message of a list stands beside another
abbrev Beside : (front : List Head) (here : Head) (mid before : List Head) (at : Head) (behind : List Head) → Type 0
Beside front here mid before at behind =
    ((more : List Head) × (behind ≡ more ++ here ∷ mid))
    ⊎ ((here ≡ at) ⊎ ((more back : List Head) × (mid ≡ more ++ at ∷ back)))

beside : (front : List Head) (here : Head) (mid before : List Head) (at : Head) (behind : List Head)
    → front ++ here ∷ mid ≡ before ++ at ∷ behind → Beside front here mid before at behind
beside [] here mid [] at behind e = inr (inl (cc e))
beside [] here mid (x ∷ before) at behind e =
    let z : mid ≡ before ++ at ∷ behind = cc e in inr (inr (before, behind, z))
beside (y ∷ front) here mid [] at behind e = let z : front ++ here ∷ mid ≡ behind = cc e in inl (front, sym z)
beside (y ∷ front) here mid (x ∷ before) at behind e =
    let z : front ++ here ∷ mid ≡ before ++ at ∷ behind = cc e in beside front here mid before at behind z

given_in : (b : ℕ) (more : List Head) (here : Head) (mid : List Head) → gives_up b here.placed ≡ true
    → gives_up b (all_places (places_in (more ++ here ∷ mid))) ≡ true
given_in b [] here mid g =
    list_any-append (λ p. is_block p.mark b) here.placed (all_places (places_in mid))
    ∙ or_left (gives_up b here.placed) (gives_up b (all_places (places_in mid))) g
given_in b (x ∷ more) here mid g =
    list_any-append (λ p. is_block p.mark b) x.placed (all_places (places_in (more ++ here ∷ mid)))
    ∙ or_right (gives_up b x.placed) (gives_up b (all_places (places_in (more ++ here ∷ mid))))
    (given_in b more here mid g)

module _ (log : Log) (front : List Head) (here : Head) (mid : List Head) (later : Head) (back : List Head)
    (s : Succeeds log ((front ++ here ∷ mid) ++ later ∷ back)) (completed : ℕ) (few : completed ≤ length front)
    (u : TakesUnheld completed (places_in ((front ++ here ∷ mid) ++ later ∷ back))) (b : ℕ)
    (g : gives_up b here.placed ≡ true) where
  -- no message behind it took the block
  none_takes : (more : List Head) (at : Head) (others : List Head) → mid ++ later ∷ back ≡ more ++ at ∷ others
      → takes b at.placed ≡ true → ⊥
  none_takes more at others e t =
      let all : (front ++ here ∷ mid) ++ later ∷ back ≡ (front ++ here ∷ more) ++ at ∷ others =
      append_assoc front (here ∷ mid) (later ∷ back) ∙ ap (λ l. front ++ here ∷ l) e
      ∙ sym (append_assoc front (here ∷ more) (at ∷ others)) in
      let before : Succeeds log (front ++ here ∷ more) =
      fewer_heads log (front ++ here ∷ more) (at ∷ others) (subst (Succeeds log) all s) in
      both_ways (holds_block completed (places_in (front ++ here ∷ more)) b)
      (u (places_in (front ++ here ∷ more)) at.placed (places_in others)
      (ap places_in all ∙ map_append (λ h. h.placed) (front ++ here ∷ more) (at ∷ others)) b
      (or_left (takes b at.placed) (stages_in b at.placed) t))
      (marks_held log front here more before completed few b g)

  not_held : HeldMessage (front ++ here ∷ mid) b → ⊥
  not_held m =
      elim (beside front here mid m.before m.at m.behind m.split) [
        | inl x ↦ both_ways (gives_up b (all_places (places_in m.behind))) m.later
            (ap (λ l. gives_up b (all_places (places_in l))) x.1 ∙ given_in b x.0 here mid g)
        | inr rest ↦ elim rest [
          | inl same ↦ both_ways (gives_up b m.at.placed) m.kept (ap (λ h. gives_up b h.placed) (sym same) ∙ g)
          | inr x ↦
              none_takes x.0 m.at (x.1 ++ later ∷ back) (ap (λ l. l ++ later ∷ back) x.2
              ∙ append_assoc x.0 (m.at ∷ x.1) (later ∷ back)) m.took
        ]
      ]

  pub given_once : gives_up b later.placed ≡ false
  given_once =
      let before = front ++ here ∷ mid in
      let own : Succeeds log (before ++ later ∷ []) =
      fewer_heads log (before ++ later ∷ []) back (subst (Succeeds log)
      (sym (append_assoc before (later ∷ []) back)) s) in
      elim (cases_Bool (gives_up b later.placed)) [
        | inl t ↦ elim (gave_known log before later own later.placed [] (sym (append-nil later.placed)) b t) [
          | inl took ↦ absurd (none_takes mid later back (λ i. mid ++ later ∷ back) took)
          | inr x ↦
              let holds = holds_before log before later own in
              absurd (not_held (held_message log before (fewer_heads log before (later ∷ back) s) b holds.apart
              (holds.held x.0 b x.1)))
        ]
        | inr f ↦ f
      ]
