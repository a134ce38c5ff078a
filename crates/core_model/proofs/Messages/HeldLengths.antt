-- The length of a live buffer's block: what the message took it with that took it last.
use Rattle.std.proofs.Common.{◌≡◌, ℕ, true, false, ◌||◌, List, [], ◌∷◌, ◌++◌, refl, sym, ap, ◌∙◌}
use Rattle.std.proofs.Common.{subst, inl, inr, Option, Some, None, append_assoc, append-nil}
use Rattle.std.proofs.lemmas.Bool.{cases_Bool, or_cases, eqb-true}
use Rattle.std.proofs.lemmas.List.Folds.{list_any-append}
use Rattle.vk_types.specs.declared.message.Placed.{Placed}
use Rattle.core_model.specs.Owners.{is_block}
use Rattle.core_model.specs.Adding.{length_of}
use Rattle.core_model.specs.Lawful.{IsLawful}
use Rattle.core_model.specs.Succession.{Head, Log, takes, all_places, places_in}
use Rattle.core_model.specs.Spine.{Succeeds, made_of, IsLong}
use Rattle.core_model.proofs.Messages.HeadLines.{places_of_last}
use Rattle.core_model.proofs.Messages.HeldBlocks.{taken_strange}
use Rattle.core_model.proofs.Messages.DeviceHolds.{fewer_heads}
use Rattle.core_model.proofs.Messages.InsideBlocks.{message_inside}

-- where an item of these took the block
taking : (b : ℕ) (ps : List Placed) → takes b ps ≡ true
    → (before : List Placed) × (p : Placed) × (after : List Placed) × (ps ≡ before ++ p ∷ after) × (p.block ≡ Some b)
taking b [] t = absurd (cc t)
taking b (q ∷ ps) t =
    elim (or_cases (is_block q.block b) (takes b ps) t) [
      | inl here ↦ ([], q, ps, refl, is_some q.block here)
      | inr later ↦ let x = taking b ps later in (q ∷ x.0, x.1, x.2, ap (λ l. q ∷ l) x.3, x.4)
    ]
  where
    is_some : (o : Option ℕ) → is_block o b ≡ true → o ≡ Some b
    is_some None h = absurd (cc h)
    is_some (Some c) h = ap Some (sym (eqb-true b c h))

module _ (log : Log) (lawful : IsLawful log.meaning log.script) where
  -- each live buffer's block has its length
  abbrev Known : List Head → Type 0
  Known hs = (r b : ℕ) → (made_of log hs).blocks r ≡ Some b → IsLong log hs b (length_of log.script r)

  pub untaken : (pre : List Head) (x : Head) → Succeeds log (pre ++ x ∷ []) → (r b : ℕ)
      → (made_of log pre).blocks r ≡ Some b → takes b x.placed ≡ false
  untaken pre x s r b e =
      elim (cases_Bool (takes b x.placed)) [
        | inl t ↦
            let y = taking b x.placed t in
            absurd (taken_strange log pre x s y.0 y.1 y.2 b y.3 y.4 r e)
        | inr n ↦ n
      ]

  one_on : (pre : List Head) (x : Head) → Succeeds log (pre ++ x ∷ []) → Known pre → Known (pre ++ x ∷ [])
  one_on pre x s known r b e =
      elim ((message_inside log lawful pre x s).owned r b e) [
        | inl old ↦
            let k = known r b old in
            record {
              before = k.before;
              at = k.at;
              behind = k.behind ++ x ∷ [];
              split = ap (λ l. l ++ x ∷ []) k.split ∙ append_assoc k.before (k.at ∷ k.behind) (x ∷ []);
              taken = k.taken;
              once = ap (takes b) (places_of_last k.behind x)
                  ∙ list_any-append (λ p. is_block p.block b) (all_places (places_in k.behind)) x.placed
                  ∙ ap (λ c. c || takes b x.placed) k.once ∙ untaken pre x s r b old;
            }
        | inr took ↦ record { before = pre; at = x; behind = []; split = refl; taken = took; once = refl }
      ]

  all_on : (pre hs : List Head) → Succeeds log (pre ++ hs) → Known pre → Known (pre ++ hs)
  all_on pre [] s known = subst Known (sym (append-nil pre)) known
  all_on pre (x ∷ hs) s known =
      let line : pre ++ x ∷ hs ≡ (pre ++ x ∷ []) ++ hs = sym (append_assoc pre (x ∷ []) hs) in
      let more : Succeeds log ((pre ++ x ∷ []) ++ hs) = subst (Succeeds log) line s in
      subst Known (sym line)
      (all_on (pre ++ x ∷ []) hs more (one_on pre x (fewer_heads log (pre ++ x ∷ []) hs more) known))

  pub lengths_known : (hs : List Head) → Succeeds log hs → Known hs
  lengths_known hs s = all_on [] hs s (λ r b e. absurd (cc e))
