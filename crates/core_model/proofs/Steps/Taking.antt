-- A turn with an item is taken: what its additions to the open chunk owe, and what they leave.
use Rattle.std.proofs.Common.{◌≡◌, ℕ, false, List, [], ◌∷◌, ◌++◌, sym, ap, ◌∙◌, subst, Some}
use Rattle.std.specs.List.{AllByRecursion}
use Rattle.vk_types.specs.Effects.{Meaning}
use Rattle.core_model.specs.Script.{Turn, Script, InOrder, at_start, turn_in_order, in_order}
use Rattle.core_model.specs.Chunking.{is_due, cut}
use Rattle.core_model.specs.CoreState.{Core, listed}
use Rattle.core_model.specs.Readings.{Reading}
use Rattle.core_model.specs.Stands.{Stands}
use Rattle.core_model.specs.Worlds.{World, empty, run_world}
use Rattle.core_model.specs.Invariant.{IsLive, turns_of, handed, Totals, IsRight, Good}
use Rattle.core_model.proofs.Listing.Worlds.{world_memory}
use Rattle.core_model.proofs.Steps.Turning.{in_order-append, behind_turn, cut_on}
use Rattle.core_model.proofs.Steps.Opened.{opened_entries, listed_open, Opened, with_parts, closed}

-- what all entries leave, in the listing's order
abbrev pub left_by : Meaning → Core → World
left_by meaning core = run_world meaning (opened_entries core) empty

-- what is left stands for the in-order state
pub record Meets (meaning : Meaning) (script : Script) (core : Core) (state : InOrder) : Type 0 where
  pub stands : Stands script (left_by meaning core).memory core.blocks state
  pub live : (r b : ℕ) → core.blocks r ≡ Some b → IsLive r (core.owner b)
  pub totals : Totals (left_by meaning core).counts core.commands state

module _ (meaning : Meaning) (reading : Reading) (script : Script) where
  pub met : (core : Core) → Good meaning reading script core
      → Meets meaning script core (in_order meaning script core.past at_start)
  met core g = record {
    stands = subst (λ m. Stands script m core.blocks (in_order meaning script core.past at_start))
        (sym (world_memory meaning (listed core) empty) ∙ ap (λ l. (run_world meaning l empty).memory)
        (listed_open core)) g.stands;
    live = g.live;
    totals = subst (λ l. Totals (run_world meaning l empty).counts core.commands
        (in_order meaning script core.past at_start)) (listed_open core) g.totals;
  }

  module _ (old new : Core) (t : Turn) (turns : List Turn) (e : old.future ≡ t ∷ turns)
      (due : is_due script old.open_chunk.turns old.future ≡ false)
      (past : new.past ≡ old.past ++ t ∷ []) (future : new.future ≡ turns)
      (taken : new.open_chunk.turns ≡ old.open_chunk.turns ++ t ∷ []) (said : new.replies ≡ old.replies) where
    abbrev now : Core
    now = with_parts old new

    pub taken_good : Good meaning reading script old → Opened meaning script now
        → Meets meaning script now (turn_in_order meaning script t (in_order meaning script old.past at_start))
        → Good meaning reading script now
    taken_good g o m =
        let before = in_order meaning script old.past at_start in
        let after : in_order meaning script new.past at_start ≡ turn_in_order meaning script t before =
        ap (λ l. in_order meaning script l at_start) past
        ∙ in_order-append meaning script old.past (t ∷ []) at_start in
        record {
          sound = closed meaning reading script old new
              (ap (λ l. l ++ new.future) past ∙ ap (λ l. (old.past ++ t ∷ []) ++ l) future
              ∙ behind_turn meaning reading script old t turns e g)
              (cut_on meaning reading script old t turns e g due
              ∙ ap (λ l. turns_of (handed old) ++ l)
              (ap (cut script (old.open_chunk.turns ++ t ∷ [])) (sym future)
              ∙ ap (λ l. cut script l new.future) (sym taken)))
              g.sound o;
          stands =
              subst (λ m. Stands script m now.blocks (in_order meaning script new.past at_start))
              (ap (λ l. (run_world meaning l empty).memory) (sym (listed_open now))
              ∙ world_memory meaning (listed now) empty)
              (subst (Stands script (left_by meaning now).memory now.blocks) (sym after) m.stands);
          live = m.live;
          totals =
              subst (λ l. Totals (run_world meaning l empty).counts now.commands
              (in_order meaning script new.past at_start)) (sym (listed_open now))
              (subst (Totals (left_by meaning now).counts now.commands) (sym after) m.totals);
          replies = subst (AllByRecursion (IsRight meaning script)) (sym said) g.replies;
        }
