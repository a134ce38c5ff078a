-- Turns without an item, and the end, keep the invariant and what holds beside it.
use Rattle.std.proofs.Common.{◌≡◌, ℕ, ◌≤◌, Bool, true, false, List, [], ◌∷◌, ◌++◌, refl, sym, subst, inl, inr, Option}
use Rattle.vk_types.specs.Effects.{Meaning}
use Rattle.core_model.specs.Script.{Ask, Constant, Turn, Refused, Passed, Flushed, Asked, Item, is_plain, Script}
use Rattle.core_model.specs.Chunking.{is_due}
use Rattle.core_model.specs.CoreState.{Core, later, taken_count, done, Value_said, Still_said, Refused_said, End_said}
use Rattle.core_model.specs.Readings.{Reading}
use Rattle.core_model.specs.Adding.{with_turn, with_reply}
use Rattle.core_model.specs.AppActs.{TakesTurn, is_finished, used_or_zero}
use Rattle.core_model.specs.Kept.{Beside, IsTraced, Traced, Kept}
use Rattle.core_model.proofs.Steps.Turning.{plain_good, pending_good, constant_good, end_good}
use Rattle.core_model.proofs.Runs.Tracing.{traced_turn}
use Rattle.core_model.proofs.Blocks.BoundRanges.{unconcerned, quiet_beside}

abbrev pub BesideAnd : Script → Core → Type 0
BesideAnd script c = Beside script c × (taken_count c ≤ c.fence) × IsTraced script c

-- the open chunk has the turn
pub turn_traced : (meaning : Meaning) (reading : Reading) (script : Script) (old : Core) (t : Turn)
    → Kept meaning reading script old
    → Traced script old.blocks (old.past ++ t ∷ []) (old.taken ++ later old) (old.open_chunk.turns ++ t ∷ [])
    old.open_chunk.bound old.open_chunk.writes old.open_chunk.commands
turn_traced meaning reading script old t k =
    traced_turn script old.blocks old.past (old.taken ++ later old) old.open_chunk.turns old.open_chunk.bound
    old.open_chunk.writes old.open_chunk.commands k.traced t

plain_beside : (meaning : Meaning) (reading : Reading) (script : Script) (old : Core) (t : Turn) (turns : List Turn)
    (new : Core) → is_plain t ≡ true → TakesTurn reading script t turns old new
    → Kept meaning reading script old → BesideAnd script new
plain_beside meaning reading script old (Refused call) turns new h n k =
    let t = Refused call in subst (BesideAnd script) (sym n) (
      unconcerned script _ (with_reply (Refused_said call) (with_turn t turns old))
          (quiet_beside script old t (λ r. refl) k.beside),
      k.fenced,
      turn_traced meaning reading script old t k,
    )
plain_beside meaning reading script old (Passed call) turns new h n k =
    let t = Passed call in
    subst (BesideAnd script) (sym n) (
      unconcerned script _ (with_turn t turns old)
          (quiet_beside script old t (λ r. refl) k.beside),
      k.fenced,
      turn_traced meaning reading script old t k,
    )
plain_beside meaning reading script old (Flushed call) turns new h n k =
    let t = Flushed call in subst (BesideAnd script) (sym n) (
      unconcerned script _ (with_turn t turns old) (quiet_beside script old t (λ r. refl) k.beside),
      k.fenced,
      turn_traced meaning reading script old t k,
    )
plain_beside meaning reading script old (Asked call ask used may_pend) turns new h n k = absurd (cc h)
plain_beside meaning reading script old (Item call item ends play bound) turns new h n k = absurd (cc h)

pub plain_kept : (meaning : Meaning) (reading : Reading) (script : Script) (old : Core) (t : Turn)
    (turns : List Turn) (new : Core) → is_plain t ≡ true
    → old.future ≡ t ∷ turns → is_due script old.open_chunk.turns old.future ≡ false
    → TakesTurn reading script t turns old new
    → Kept meaning reading script old → Kept meaning reading script new
plain_kept meaning reading script old t turns new h e due n k =
    let b = plain_beside meaning reading script old t turns new h n k in
    record {
      good = plain_good meaning reading script old t turns new h e due n k.good;
      beside = b.0;
      fenced =
          b.1;
      traced = b.2;
    }

pub pending_kept : (meaning : Meaning) (reading : Reading) (script : Script) (old : Core) (call : ℕ) (ask : Ask)
    (used : Option ℕ) (may_pend : Bool) (turns : List Turn)
    → old.future ≡ Asked call ask used may_pend ∷ turns → is_due script old.open_chunk.turns old.future ≡ false
    → is_finished used (done old) ≡ false
    → Kept meaning reading script old → Kept meaning reading script
    (with_reply (Still_said call (used_or_zero used) (done old))
    (with_turn (Asked call ask used may_pend) turns old))
pending_kept meaning reading script old call ask used may_pend turns e due f k = record {
  good = pending_good meaning reading script old call ask used may_pend turns e due f k.good;
  beside = unconcerned script _ (with_reply (Still_said call (used_or_zero used) (done old))
      (with_turn (Asked call ask used may_pend) turns old)) (quiet_beside script old (Asked call ask used may_pend)
      (λ r. refl) k.beside);
  fenced = k.fenced;
  traced = turn_traced meaning reading script old (Asked call ask used may_pend) k;
}

pub constant_kept : (meaning : Meaning) (reading : Reading) (script : Script) (old : Core) (call value : ℕ)
    (used : Option ℕ) (may_pend : Bool) (turns : List Turn) (new : Core)
    → old.future ≡ Asked call (Constant value) used may_pend ∷ turns
    → is_due script old.open_chunk.turns old.future ≡ false
    → TakesTurn reading script (Asked call (Constant value) used may_pend) turns old new
    → Kept meaning reading script old → Kept meaning reading script new
constant_kept meaning reading script old call value used may_pend turns new e due n k =
    let b = by n in
    record {
      good = constant_good meaning reading script old call value used may_pend turns new e due n k.good;
      beside = b.0;
      fenced = b.1;
      traced = b.2;
    }
  where
    by : TakesTurn reading script (Asked call (Constant value) used may_pend) turns old new → BesideAnd script new
    by (inl h) =
        subst (BesideAnd script) (sym h.1) (
          unconcerned script _ (with_reply (Value_said call value)
              (with_turn (Asked call (Constant value) used may_pend) turns old))
              (quiet_beside script old (Asked call (Constant value) used may_pend) (λ r. refl) k.beside),
          k.fenced,
          turn_traced meaning reading script old (Asked call (Constant value) used may_pend) k,
        )
    by (inr h) =
        subst (BesideAnd script) (sym h.2) (
          unconcerned script _ (with_reply (Still_said call (used_or_zero used) (done old))
              (with_turn (Asked call (Constant value) used may_pend) turns old))
              (quiet_beside script old (Asked call (Constant value) used may_pend) (λ r. refl) k.beside),
          k.fenced,
          turn_traced meaning reading script old (Asked call (Constant value) used may_pend) k,
        )

pub end_kept : (meaning : Meaning) (reading : Reading) (script : Script) (old : Core)
    → Kept meaning reading script old → Kept meaning reading script
    (with_reply End_said (record old { ended = true }))
end_kept meaning reading script old k = record {
  good = end_good meaning reading script old k.good;
  beside = unconcerned script old (with_reply End_said (record old { ended = true })) k.beside;
  fenced = k.fenced;
  traced = k.traced;
}
