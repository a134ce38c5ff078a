-- A copy of a staging block is there where no later chunk that the device has needs the block, and so where none
-- binds it.
use Rattle.std.proofs.Common.{◌≡◌, ℕ, true, false, List, ◌∷◌, ◌++◌, sym, ap, ◌∙◌, subst, Some, append_assoc}
use Rattle.std.specs.List.{AllByRecursion}
use Rattle.base_lemmas.specs.Lists.{Pairwise}
use Rattle.vk_types.specs.Effects.{Meaning}
use Rattle.base_lemmas.proofs.Lists.{all_front, all_back, all_map, all_both, pairs_back}
use Rattle.core_model.specs.Script.{Script}
use Rattle.core_model.specs.CoreState.{Segment, Message, flat, Core, of_messages, of_running, waiting, segments}
use Rattle.core_model.specs.Readings.{Reading}
use Rattle.core_model.specs.Adding.{has_block}
use Rattle.core_model.specs.OtherParts.{used_in, needed_in}
use Rattle.core_model.specs.Invariant.{SnapsRight, IsShaped, BindsUses, IsFilled}
use Rattle.core_model.specs.Kept.{Kept}
use Rattle.core_model.proofs.Listing.Worlds.{of_messages-append}
use Rattle.core_model.proofs.Steps.Handing.{Elsewhere}
use Rattle.core_model.proofs.Steps.Completing.{Unused, none_needed, filled_commands}
use Rattle.core_model.proofs.Messages.Messaging.{snaps_there}

module _ (meaning : Meaning) (reading : Reading) (script : Script) (core : Core)
    (k : Kept meaning reading script core) (earlier : List Message) (m : Message) (others : List Message)
    (e : core.posts ++ core.completions ≡ earlier ++ m ∷ others) where
  abbrev behind : List Segment
  behind = of_messages others ++ of_running core.accepted

  pub copy_there : (b : ℕ) → has_block b m.segment.staging ≡ true → needed_in behind b ≡ false → (bytes : ℕ → ℕ)
      × (m.snaps b ≡ Some bytes)
  copy_there b st unused =
      (snaps_there meaning (flat core.taken) earlier m others (of_running core.accepted)
      (subst (λ l. SnapsRight meaning (flat core.taken) l (of_running core.accepted)) e k.good.sound.snaps)).there b
      st unused

  abbrev front : List Segment
  front = core.taken ++ of_messages earlier

  -- the chunks, with the message's in their middle
  line : segments core ≡ front ++ m.segment ∷ (behind ++ waiting core)
  line =
      let r = of_running core.accepted ++ waiting core in
      ap (λ l. core.taken ++ l)
      (sym (append_assoc (of_messages core.posts) (of_messages core.completions) r)
      ∙ ap (λ l. l ++ r) (sym (of_messages-append core.posts core.completions) ∙ ap of_messages e
      ∙ of_messages-append earlier (m ∷ others))
      ∙ append_assoc (of_messages earlier) (m.segment ∷ of_messages others) r
      ∙ ap (λ l. of_messages earlier ++ m.segment ∷ l)
      (sym (append_assoc (of_messages others) (of_running core.accepted) (waiting core))))
      ∙ sym (append_assoc core.taken (of_messages earlier) (m.segment ∷ (behind ++ waiting core)))

  have : (P : Segment → Type 0) → AllByRecursion P (segments core) → AllByRecursion P behind
  have P h = let z : AllByRecursion P (m.segment ∷ (behind ++ waiting core)) =
      all_back P front (m.segment ∷ (behind ++ waiting core)) (subst (AllByRecursion P) line h) in
      all_front P behind (waiting core) z.1

  elsewhere : AllByRecursion (Elsewhere m.segment) behind
  elsewhere =
      let z : Pairwise Elsewhere (m.segment ∷ (behind ++ waiting core)) =
      pairs_back Elsewhere front (m.segment ∷ (behind ++ waiting core))
      (subst (Pairwise Elsewhere) line k.good.sound.elsewhere) in
      all_front (Elsewhere m.segment) behind (waiting core) z.0

  pub copy_unbound : (b : ℕ) → has_block b m.segment.staging ≡ true → used_in behind b ≡ false → (bytes : ℕ → ℕ)
      × (m.snaps b ≡ Some bytes)
  copy_unbound b st unused =
      let so = k.good.sound in
      copy_there b st (none_needed b behind
      (all_map (λ s. (IsShaped s × BindsUses s) × (AllByRecursion IsFilled s.commands × Elsewhere m.segment s))
      (Unused b) (λ s k. (k.0.0, k.0.1, k.1.0, k.1.1 b st)) behind
      (all_both (λ s. IsShaped s × BindsUses s) (λ s. AllByRecursion IsFilled s.commands × Elsewhere m.segment s) behind
      (all_both IsShaped BindsUses behind (have IsShaped so.shaped) (have BindsUses so.binds))
      (all_both (λ s. AllByRecursion IsFilled s.commands) (Elsewhere m.segment) behind
      (have (λ s. AllByRecursion IsFilled s.commands) (filled_commands (segments core) so.filled)) elsewhere)))
      unused)
