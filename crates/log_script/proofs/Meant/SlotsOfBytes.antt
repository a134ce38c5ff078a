-- Where memory's bytes are bytes, the slots of a formed dispatch fit a module.
use Rattle.std.proofs.Common.{◌≡◌, ℕ, zero, suc, ◌+◌, ◌-◌, ◌*◌, ◌/◌, ◌<◌, ◌≤◌, Bool, true, false, cond}
use Rattle.std.proofs.Common.{nat_lt, List, []}
use Rattle.std.proofs.Common.{◌∷◌, length, map, refl, ap, arith, slice_index_or}
use Rattle.std.specs.Prelude.{if◌then◌else◌}
use Rattle.std.specs.List.{All, AllByRecursion}
use Rattle.std.proofs.Math.Nat.{div-le_of_le-mul}
use Rattle.std.proofs.lemmas.List.Elements.{All-cons, All-from_get_or}
use Rattle.dx_types.specs.declared.range.Range.{Range}
use Rattle.vk_types.specs.declared.command.SlotName.{SlotName}
use Rattle.vk_types.specs.declared.command.SlotRange.{SlotRange}
use Rattle.vk_types.specs.Memory.{Memory, word_of}
use Rattle.vk_types.specs.Effects.{SlotWords, words_in, slot_words, slots_words, is_constant, is_srv, is_uav}
use Rattle.base_lemmas.specs.Lists.{numbers_from}
use Rattle.core_model.specs.Formed.{range_size, SlotIsFormed}
use Rattle.spirv_model.specs.Meaning.Bindings.{SlotsFit, first_read, first_write, end_of_bindings}
use Rattle.log_script.specs.LogScript.{all_slots}
use Rattle.core_model.specs.HostBytes.{IsOfBytes}
use Rattle.core_model.proofs.Messages.ByteEffects.{byte_small}

-- words that fit a slot of a module
abbrev AreFew : List ℕ → Type 0
AreFew ws = (length ws ≤ 4194304) × All (λ w. w < 4294967296) ws

none_few : AreFew []
none_few = (omega arith, All-from_get_or (λ w. w < 4294967296) [] 0 (λ i l. absurd (let z : ⊥ = omega (arith, l) in z)))

module _ (memory : Memory) (bytes : IsOfBytes memory) where
  pub word_small : (r : Range) (k : ℕ) → word_of memory r k < 4294967296
  word_small r k =
      let a = byte_small memory bytes r (4 * k) in
      let b = byte_small memory bytes r (4 * k + 1) in
      let c = byte_small memory bytes r (4 * k + 2) in
      let d = byte_small memory bytes r (4 * k + 3) in
      omega (arith, a, b, c, d)

  words_small : (r : Range) (from n : ℕ) → All (λ w. w < 4294967296) (map (word_of memory r) (numbers_from from n))
  words_small r from zero = none_few.1
  words_small r from (suc n) = All-cons (λ w. w < 4294967296) (word_of memory r from)
      (map (word_of memory r) (numbers_from (suc from) n)) (word_small r from) (words_small r (suc from) n)

  words_long : (r : Range) (from n : ℕ) → length (map (word_of memory r) (numbers_from from n)) ≡ n
  words_long r from zero = refl
  words_long r from (suc n) = ap suc (words_long r (suc from) n)

  range_few : (r : Range) → range_size r ≤ 16777216 → AreFew (words_in memory r)
  range_few r l =
      let long = words_long r 0 ((r.to - r.from) / 4) in
      let few : (r.to - r.from) / 4 ≤ 4194304 = div-le_of_le-mul 4 (omega (arith, l)) in
      (omega (arith, long, few), words_small r 0 ((r.to - r.from) / 4))

  slot_few : (test : SlotName → Bool) (ss : List SlotRange) → AllByRecursion SlotIsFormed ss
      → AreFew (slot_words memory test ss)
  slot_few test [] h = none_few
  slot_few test (s ∷ ss) h = by (test s.slot) (slot_few test ss h.1)
    where
      by : (c : Bool) → AreFew (slot_words memory test ss)
          → AreFew (cond c (words_in memory s.range) (slot_words memory test ss))
      by true rest = range_few s.range h.0.limit
      by false rest = rest

-- a list of slots, each of few words
listed_few : (f : ℕ → List ℕ) → ((i : ℕ) → AreFew (f i)) → (from n i : ℕ)
    → AreFew (slice_index_or (map f (numbers_from from n)) i [])
listed_few f h from zero i = none_few
listed_few f h from (suc n) zero = h from
listed_few f h from (suc n) (suc i) = listed_few f h (suc from) n i

chosen : (a b c : Bool) (x y z : List ℕ) → AreFew x → AreFew y → AreFew z
    → AreFew (if a then x else if b then y else if c then z else [])
chosen true b c x y z f g h = f
chosen false true c x y z f g h = g
chosen false false true x y z f g h = h
chosen false false false x y z f g h = none_few

-- slots of few words each fit
few_fit : (slots : SlotWords) → ((i : ℕ) → AreFew (slots.constant i)) → ((i : ℕ) → AreFew (slots.srv i))
    → ((i : ℕ) → AreFew (slots.uav i)) → SlotsFit (all_slots slots)
few_fit slots c r u =
    let at : (b : ℕ) → AreFew (if nat_lt b first_read then slice_index_or (all_slots slots).constants b []
    else if nat_lt b first_write then slice_index_or (all_slots slots).reads (b - first_read) []
    else if nat_lt b end_of_bindings then slice_index_or (all_slots slots).writes (b - first_write) [] else []) =
    λ b. chosen (nat_lt b first_read) (nat_lt b first_write) (nat_lt b end_of_bindings)
    (slice_index_or (all_slots slots).constants b []) (slice_index_or (all_slots slots).reads (b - first_read) [])
    (slice_index_or (all_slots slots).writes (b - first_write) []) (listed_few slots.constant c 0 14 b)
    (listed_few slots.srv r 0 16 (b - first_read)) (listed_few slots.uav u 0 8 (b - first_write)) in
    record { lengths = λ b. (at b).0; words = λ b. (at b).1 }

pub slots_fit : (memory : Memory) → IsOfBytes memory → (ss : List SlotRange) → AllByRecursion SlotIsFormed ss
    → SlotsFit (all_slots (slots_words memory ss))
slots_fit memory bytes ss h = few_fit (slots_words memory ss)
    (λ i. slot_few memory bytes (is_constant i) ss h) (λ i. slot_few memory bytes (is_srv i) ss h)
    (λ i. slot_few memory bytes (is_uav i) ss h)
