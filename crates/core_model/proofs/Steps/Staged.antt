-- An item that stages bytes keeps the invariant.
use Rattle.std.proofs.Common.{◌≡◌, ℕ, ◌+◌, Bool, true, false, cond, List, []}
use Rattle.std.proofs.Common.{◌∷◌, ◌++◌, length, refl, sym, ap, ◌∙◌, subst, Option, Some, None, arith}
use Rattle.dx_types.specs.declared.range.Range.{Range}
use Rattle.vk_types.specs.declared.command.Cond.{Cond}
use Rattle.vk_types.specs.Memory.{Memory, put, number_at}
use Rattle.vk_types.specs.Effects.{Meaning, is_skipped}
use Rattle.core_model.specs.Script.{Stage, Turn, Item, Script, staged_in_order}
use Rattle.core_model.specs.Chunking.{is_due}
use Rattle.core_model.specs.CoreState.{Core, taken_count, finished_count, open_number}
use Rattle.core_model.specs.Readings.{Reading}
use Rattle.core_model.specs.Adding.{placed_at}
use Rattle.core_model.specs.AppActs.{TakesTurn}
use Rattle.core_model.specs.Lawful.{PlaysRightly, IsLawful}
use Rattle.core_model.specs.Invariant.{Good}
use Rattle.core_model.specs.Kept.{Kept}
use Rattle.core_model.proofs.Steps.Turning.{turned_good}
use Rattle.core_model.proofs.Steps.Overwriting.{empty_put}
use Rattle.core_model.proofs.Steps.StagedPages.{page_ready}
use Rattle.core_model.proofs.Steps.Staging.{memory, untargeted_good, targeted_good}

-- bytes are staged, or none are
pub stage_good : (meaning : Meaning) (reading : Reading) (script : Script) → IsLawful meaning script
    → (old : Core) (call item : ℕ) (ends : Bool) (bytes : List ℕ) (target : Option Range) (skip : Option Cond)
    (bound : List Range) (turns : List Turn) (new : Core) → old.future
    ≡ Item call item ends (Stage bytes target skip) bound ∷ turns
    → is_due script old.open_chunk.turns old.future ≡ false
    → TakesTurn reading script (Item call item ends (Stage bytes target skip) bound) turns old new
    → Kept meaning reading script old → Good meaning reading script new
stage_good meaning reading script lawful old call item ends [] target skip bound turns new e due n k =
    subst (Good meaning reading script) (sym n)
    (turned_good meaning reading script old (Item call item ends (Stage [] target skip) bound) turns
    (old.open_chunk.placed ++ placed_at call item None None None ∷ []) old.open_chunk.queries e due
    (λ s. record { live = refl; bytes = none target s.bytes rightly.1; total = refl }) k.good)
  where
    rightly : PlaysRightly meaning script old.past call (Stage [] target skip)
    rightly = lawful.plays old.past call item ends (Stage [] target skip) bound turns
        (sym (ap (λ l. old.past ++ l) (sym e) ∙ k.good.sound.position))

    none : (t : Option Range) (memory : Memory) → ((r : Range) → t ≡ Some r → r.to ≡ r.from + 0)
        → staged_in_order [] t skip memory ≡ memory
    none None memory h = refl
    none (Some r) memory h = by (is_skipped skip memory)
      where
        by : (c : Bool) → cond c memory (put r (number_at []) memory) ≡ memory
        by true = refl
        by false = empty_put r (number_at []) memory (let z = h r refl in omega (arith, z))
stage_good meaning reading script lawful old call item ends (byte ∷ others) None skip bound turns new e due n k =
    subst (Good meaning reading script) (sym n.3)
    (untargeted_good meaning reading script lawful old call item ends byte others None skip bound turns e due k n.0
    n.1 (page_ready n.2.0 (length (byte ∷ others)) n.0 old.pool n.1 n.2.1 (taken_count old) (finished_count old)
    (open_number old) old.fence old.owner k.good.sound.fence k.fenced k.beside.pages.newest k.beside.places.spare
    (k.beside.places.fresh old.pool.next (omega arith)) (k.good.sound.since n.0.block)
    (k.beside.places.taken n.0.block)) refl)
stage_good meaning reading script lawful old call item ends (byte ∷ others) (Some target) skip bound turns new e due
    n k =
    subst (Good meaning reading script) (sym n.3)
    (targeted_good meaning reading script lawful old call item ends byte others (Some target) skip bound turns e due
    k n.0 n.1 (page_ready n.2.0 (length (byte ∷ others)) n.0 old.pool n.1 n.2.1 (taken_count old)
    (finished_count old) (open_number old) old.fence old.owner k.good.sound.fence k.fenced k.beside.pages.newest
    k.beside.places.spare (k.beside.places.fresh old.pool.next (omega arith))
    (k.good.sound.since n.0.block) (k.beside.places.taken n.0.block)) target refl)
