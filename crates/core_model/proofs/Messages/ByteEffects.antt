-- Each act leaves bytes, where there were bytes.
use Rattle.std.proofs.Common.{ℕ, zero, suc, ◌+◌, ◌-◌, ◌/◌, ◌^◌, ◌<◌, Bool, true, false, cond, nat_lt, List, [], ◌∷◌}
use Rattle.std.proofs.Common.{arith}
use Rattle.std.specs.Prelude.{◌%◌}
use Rattle.std.proofs.Math.Nat.{mod-lt}
use Rattle.dx_types.specs.declared.range.Range.{Range}
use Rattle.vk_types.specs.declared.command.SlotName.{SlotName}
use Rattle.vk_types.specs.declared.command.SlotName.TheVariants as slot
use Rattle.vk_types.specs.declared.command.SlotRange.{SlotRange}
use Rattle.vk_types.specs.declared.command.Work.{Work}
use Rattle.vk_types.specs.declared.command.Work.TheVariants as work
use Rattle.vk_types.specs.declared.command.Command.{Command}
use Rattle.vk_types.specs.Memory.{Memory, covers, put, byte_of, byte_in, byte_in_words, number_at}
use Rattle.vk_types.specs.Effects.{Meaning, slots_words, group_counts, put_slot, put_slots, work_effect, is_skipped}
use Rattle.vk_types.specs.Effects.{effect}
use Rattle.core_model.specs.HostBytes.{IsOfBytes, AreBytes}

pub byte_small : (memory : Memory) → IsOfBytes memory → (r : Range) (k : ℕ) → byte_of memory r k < 256
byte_small memory h r k = by (nat_lt (r.from + k) r.to)
  where
    by : (c : Bool) → cond c (memory r.block (r.from + k)) 0 < 256
    by true = h r.block (r.from + k)
    by false = omega arith

put_small : (r : Range) (piece : ℕ → ℕ) (memory : Memory) → ((k : ℕ) → piece k < 256) → IsOfBytes memory
    → IsOfBytes (put r piece memory)
put_small r piece memory small h block at = by (covers r block at)
  where
    by : (c : Bool) → cond c (piece (at - r.from)) (memory block at) < 256
    by true = small (at - r.from)
    by false = h block at

byte_in_small : (word k : ℕ) → byte_in word k < 256
byte_in_small word k = mod-lt (word / 256 ^ k) (omega arith)

number_small : (bytes : List ℕ) → AreBytes bytes → (k : ℕ) → number_at bytes k < 256
number_small [] h k = omega arith
number_small (b ∷ bs) h zero = h.0
number_small (b ∷ bs) h (suc k) = number_small bs h.1 k

pub written_small : (target : Range) (bytes : List ℕ) (memory : Memory) → AreBytes bytes
    → IsOfBytes memory → IsOfBytes (put target (number_at bytes) memory)
written_small target bytes memory small h = put_small target (number_at bytes) memory (number_small bytes small) h

slots_small : (words : ℕ → List ℕ) (ss : List SlotRange) (memory : Memory) → IsOfBytes memory
    → IsOfBytes (put_slots words ss memory)
slots_small words [] memory h = h
slots_small words (s ∷ ss) memory h = slots_small words ss (put_slot words s.slot s.range memory) (one s.slot)
  where
    one : (name : SlotName) → IsOfBytes (put_slot words name s.range memory)
    one (slot.Constant i) = h
    one (slot.Srv i) = h
    one (slot.Uav i) = put_small s.range (byte_in_words (words i)) memory
        (λ k. byte_in_small (number_at (words i) (k / 4)) (k % 4)) h

work_small : (meaning : Meaning) (w : Work) (memory : Memory) → IsOfBytes memory
    → IsOfBytes (work_effect meaning w memory)
work_small meaning (work.Copy source target) memory h = put_small target (byte_of memory source) memory
    (byte_small memory h source) h
work_small meaning (work.Fill target word) memory h = put_small target (λ k. byte_in word (k % 4)) memory
    (λ k. byte_in_small word (k % 4)) h
work_small meaning (work.Clear target words unit) memory h =
    put_small target (λ k. byte_in (number_at words (k / 4 % unit)) (k % 4)) memory
    (λ k. byte_in_small (number_at words (k / 4 % unit)) (k % 4)) h
work_small meaning (work.Dispatch shader counts slots) memory h =
    slots_small (meaning.words shader (group_counts memory counts) (slots_words memory slots)) slots memory h

pub effect_small : (meaning : Meaning) (d : Command) (memory : Memory) → IsOfBytes memory
    → IsOfBytes (effect meaning d memory)
effect_small meaning d memory h = by (is_skipped d.cond memory)
  where
    by : (c : Bool) → IsOfBytes (cond c memory (work_effect meaning d.work memory))
    by true = h
    by false = work_small meaning d.work memory h
