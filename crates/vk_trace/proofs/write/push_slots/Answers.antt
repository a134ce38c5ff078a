use Rattle.std.proofs.Common.{ℕ, List, [], ◌∷◌, get_or, refl, arith}
use Rattle.vk_types.specs.declared.command.SlotName.TheVariants as slot
use Rattle.vk_types.specs.declared.command.SlotRange.{SlotRange}
use Rattle.vk_trace.specs.ListText.{range_word, rest_of, slot_word, slot_words}
use Rattle.vk_trace.proofs.Written.{written_more, written_all, rest_append}
use Rattle.vk_trace.proofs.write.push_slots.Goals as goal

one : SlotRange → List ℕ
one s = rest_of 32 (slot_word s.slot ∷ range_word s.range ∷ [])

first : SlotRange
first = record { slot = slot.Constant 0; range = record { block = 0; from = 0; to = 0 } }

pub slots-preserved : goal.slots-preserved
unfolding one first
slots-preserved c =
    written_more one (λ ss. rest_of 32 (slot_words ss)) refl (λ s ss. rest_append 32 (slot_word s.slot ∷ range_word s.range ∷ []) (slot_words ss)) c.args.slots.now c.slots.slot-index first
    (get_or c.args.slots.now c.slots.slot-index first) _ _ _ c.slots-test.true refl c.slots.invariant c.in_ok-push_slot.ensures

pub returns : goal.returns
unfolding one
returns c =
    written_all one (λ ss. rest_of 32 (slot_words ss)) refl (λ s ss. rest_append 32 (slot_word s.slot ∷ range_word s.range ∷ []) (slot_words ss)) c.args.slots.now c.slots.slot-index _ _ (omega arith) c.slots.invariant
