use Rattle.std.proofs.Common.{◌≡◌, ◌++◌, drop}
use Rattle.std.specs.String.{string_bytes}
use Rattle.vk_trace.specs.ListText.{rest_of, slot_words}
use Rattle.vk_trace.proofs.write.push_slots.Given as goal

abbrev pub invariant-slots : goal.invariant-slots
invariant-slots l = string_bytes l.text ++ rest_of 32 (slot_words (drop l.slot-index l.slots)) ≡ string_bytes l.fn.text ++ rest_of 32 (slot_words l.slots)
