-- Work that is formed on live buffers is formed on their blocks.
use Rattle.std.proofs.Common.{◌≡◌, ℕ, suc, Bool, true, List, [], ◌∷◌, map}
use Rattle.std.proofs.Common.{sym, ap, ◌∙◌, Option, Some, None}
use Rattle.std.specs.List.{AllByRecursion}
use Rattle.vk_types.specs.declared.command.Groups.{Groups}
use Rattle.vk_types.specs.declared.command.Groups.TheVariants as groups
use Rattle.vk_types.specs.declared.command.SlotRange.{SlotRange}
use Rattle.vk_types.specs.declared.command.Work.{Work}
use Rattle.vk_types.specs.declared.command.Work.TheVariants as work
use Rattle.vk_types.specs.declared.command.Cond.{Cond}
use Rattle.vk_types.specs.Memory.{or_zero}
use Rattle.vk_types.specs.Hazards.{groups_touches, slot_touch, work_touches}
use Rattle.base_lemmas.specs.Lists.{Pairwise}
use Rattle.base_lemmas.proofs.Lists.{all_back}
use Rattle.core_model.specs.Renaming.{BlockMap, slot_on, groups_on, work_on, cond_on}
use Rattle.core_model.specs.Formed.{slot_rank, SlotsRise, SlotIsFormed, SlotsApart, GroupsAreFormed, WorkIsFormed}
use Rattle.core_model.specs.Formed.{CondIsFormed}
use Rattle.core_model.proofs.Messages.UsedBlocks.{Lives}

counts_formed : (blocks : BlockMap) (g : Groups) → GroupsAreFormed g → GroupsAreFormed (groups_on blocks g)
counts_formed blocks (groups.Direct x y z) h = tt
counts_formed blocks (groups.Indirect at) h = h

pub cond_formed : (blocks : BlockMap) (skip : Option Cond) → CondIsFormed skip → CondIsFormed (cond_on blocks skip)
cond_formed blocks None h = tt
cond_formed blocks (Some c) h = h

slots_rise : (blocks : BlockMap) (least : ℕ) (ss : List SlotRange) → SlotsRise least ss
    → SlotsRise least (map (slot_on blocks) ss)
slots_rise blocks least [] h = tt
slots_rise blocks least (s ∷ ss) h = (h.0, slots_rise blocks (suc (slot_rank s.slot)) ss h.1)

slots_formed : (blocks : BlockMap) (ss : List SlotRange) → AllByRecursion SlotIsFormed ss
    → AllByRecursion SlotIsFormed (map (slot_on blocks) ss)
slots_formed blocks [] h = tt
slots_formed blocks (s ∷ ss) h = (
  record { exists = h.0.exists; words = h.0.words; limit = h.0.limit },
  slots_formed blocks ss h.1,
)

module _ (live : ℕ → Bool) (blocks : BlockMap) (lives : Lives live blocks)
    (own : (r q b : ℕ) → blocks r ≡ Some b → blocks q ≡ Some b → r ≡ q) where
  abbrev IsOfLive : SlotRange → Type 0
  IsOfLive s = live s.range.block ≡ true

  two_apart : (s t : SlotRange) → IsOfLive s → IsOfLive t → SlotsApart s t
      → SlotsApart (slot_on blocks s) (slot_on blocks t)
  two_apart s t l m h w same =
      let x = lives.has_block s.range.block l in
      let y = lives.has_block t.range.block m in
      let one : x.0 ≡ y.0 = sym (ap or_zero x.1) ∙ same ∙ ap or_zero y.1 in
      h w (own s.range.block t.range.block x.0 x.1 (y.1 ∙ ap Some (sym one)))

  row_apart : (s : SlotRange) (ts : List SlotRange) → IsOfLive s → AllByRecursion IsOfLive ts
      → AllByRecursion (SlotsApart s) ts → AllByRecursion (SlotsApart (slot_on blocks s)) (map (slot_on blocks) ts)
  row_apart s [] l m h = tt
  row_apart s (t ∷ ts) l m h = (two_apart s t l m.0 h.0, row_apart s ts l m.1 h.1)

  slots_apart : (ss : List SlotRange) → AllByRecursion IsOfLive ss → Pairwise SlotsApart ss
      → Pairwise SlotsApart (map (slot_on blocks) ss)
  slots_apart [] l h = tt
  slots_apart (s ∷ ss) l h = (row_apart s ss l.0 l.1 h.0, slots_apart ss l.1 h.1)

  pub work_formed : (w : Work) → AllByRecursion (λ t. live t.range.block ≡ true) (work_touches w) → WorkIsFormed w
      → WorkIsFormed (work_on blocks w)
  work_formed (work.Copy source target) l h = h
  work_formed (work.Fill target word) l h = h
  work_formed (work.Clear target words unit) l h = h
  work_formed (work.Dispatch shader counts slots) l h = record {
    groups = counts_formed blocks counts h.groups;
    rise = slots_rise blocks 0 slots h.rise;
    each = slots_formed blocks slots h.each;
    apart = slots_apart slots
        (of_slots slots (all_back (λ t. live t.range.block ≡ true) (groups_touches counts) (map slot_touch slots) l))
        h.apart;
  }
    where
      of_slots : (ss : List SlotRange) → AllByRecursion (λ t. live t.range.block ≡ true) (map slot_touch ss)
          → AllByRecursion IsOfLive ss
      of_slots [] l = tt
      of_slots (s ∷ ss) l = (l.0, of_slots ss l.1)
