-- What is bound for a dispatch are the words that its effect speaks of.
use Rattle.std.proofs.Common.{◌≡◌, ℕ, ◌+◌, ◌<◌, Bool, true, false, List, [], ◌∷◌, length, map, replicate, Option, Some, None, refl, sym, ap, subst, ◌∙◌, arith}
use Rattle.std.specs.Prelude.{slice_index_or, slice_range}
use Rattle.std.specs.List.{AllByRecursion}
use Rattle.std.proofs.lemmas.List.{get_or-replicate, length-replicate}
use Rattle.buffer_blocks.specs.declared.block.Block.{Block}
use Rattle.base_lemmas.specs.ByteWords.{words_of}
use Rattle.shader_slots.specs.Part.{part_of}
use Rattle.shader_slots.specs.Bound.{Around, Bound, around_bound, unbound}
use Rattle.vk_types.specs.declared.command.SlotName.{SlotName}
use Rattle.vk_types.specs.declared.command.SlotName.TheVariants as slot
use Rattle.vk_types.specs.declared.command.SlotRange.{SlotRange}
use Rattle.base_lemmas.specs.Lists.{Pairwise, numbers_from}
use Rattle.vk_types.specs.Memory.{Memory}
use Rattle.vk_types.specs.Effects.{is_constant, is_srv, is_uav, slot_words, words_in}
use Rattle.device_memory.specs.Held.{Held, HasPart, block_of, memory_of}
use Rattle.device_memory.specs.Writes.{bytes_if}
use Rattle.device_memory.specs.Ranges.{AreApart, CanBind, is_writable}
use Rattle.device_memory.specs.Binding.{CanLend, CanRead, bytes_in, given_one, given, lent_one, lent, taken}
use Rattle.device_memory.proofs.Placed.{Kind, Tells, all_of, all_of_both, at_alike, at_number, by_numbers, constant_of, constant_test, constants_tell, has_number, length_placed, place, placed, placed_at, slot_words_at, srv_of, srv_test, srvs_tell, uav_of, uav_test, uavs_tell}
use Rattle.device_memory.proofs.RangeBytes.{range_words}
use Rattle.device_memory.proofs.Stored.{StaysRead, no_bytes, reads_stay, stored, taken_is}

-- the words of a slot's range
abbrev pub own_words : Held → SlotRange → List ℕ
own_words es s = words_of (bytes_in es s.range)

-- what stands around the part that a slot may write
abbrev pub own_around : Held → SlotRange → Option Around
own_around es s = around_bound (Some (part_of (bytes_if (block_of es s.range.block)) s.range.from s.range.to))

-- ---- each kind of slots

pub lent_constants : (es : Held) (ss : List SlotRange) (b : Bound) → (lent es ss b).words.constants ≡ placed constant_of (own_words es) ss b.words.constants
lent_constants es [] b = refl
lent_constants es (s ∷ ss) b = lent_constants es ss (lent_one es s.slot s.range b) ∙ ap (placed constant_of (own_words es) ss) (one s.slot)
  where
    one : (n : SlotName) → (lent_one es n s.range b).words.constants ≡ place constant_of (own_words es) (constant_of n) (own_words es s) b.words.constants
    one (slot.Constant i) = refl
    one (slot.Srv i) = refl
    one (slot.Uav i) = refl

pub lent_reads : (es : Held) (ss : List SlotRange) (b : Bound) → (lent es ss b).words.reads ≡ placed srv_of (own_words es) ss b.words.reads
lent_reads es [] b = refl
lent_reads es (s ∷ ss) b = lent_reads es ss (lent_one es s.slot s.range b) ∙ ap (placed srv_of (own_words es) ss) (one s.slot)
  where
    one : (n : SlotName) → (lent_one es n s.range b).words.reads ≡ place srv_of (own_words es) (srv_of n) (own_words es s) b.words.reads
    one (slot.Constant i) = refl
    one (slot.Srv i) = refl
    one (slot.Uav i) = refl

pub given_writes : (es : Held) (ss : List SlotRange) (b : Bound) → (given es ss b).words.writes ≡ placed uav_of (own_words es) ss b.words.writes
given_writes es [] b = refl
given_writes es (s ∷ ss) b = given_writes es ss (given_one es s.slot s.range b) ∙ ap (placed uav_of (own_words es) ss) (one s.slot)
  where
    one : (n : SlotName) → (given_one es n s.range b).words.writes ≡ place uav_of (own_words es) (uav_of n) (own_words es s) b.words.writes
    one (slot.Constant i) = refl
    one (slot.Srv i) = refl
    one (slot.Uav i) = refl

pub given_around : (es : Held) (ss : List SlotRange) (b : Bound) → (given es ss b).around ≡ placed uav_of (own_around es) ss b.around
given_around es [] b = refl
given_around es (s ∷ ss) b = given_around es ss (given_one es s.slot s.range b) ∙ ap (placed uav_of (own_around es) ss) (one s.slot)
  where
    one : (n : SlotName) → (given_one es n s.range b).around ≡ place uav_of (own_around es) (uav_of n) (own_around es s) b.around
    one (slot.Constant i) = refl
    one (slot.Srv i) = refl
    one (slot.Uav i) = refl

-- ---- what the others leave

pub lent_writes : (es : Held) (ss : List SlotRange) (b : Bound) → (lent es ss b).words.writes ≡ b.words.writes
lent_writes es [] b = refl
lent_writes es (s ∷ ss) b = lent_writes es ss (lent_one es s.slot s.range b) ∙ one s.slot
  where
    one : (n : SlotName) → (lent_one es n s.range b).words.writes ≡ b.words.writes
    one (slot.Constant i) = refl
    one (slot.Srv i) = refl
    one (slot.Uav i) = refl

pub lent_around : (es : Held) (ss : List SlotRange) (b : Bound) → (lent es ss b).around ≡ b.around
lent_around es [] b = refl
lent_around es (s ∷ ss) b = lent_around es ss (lent_one es s.slot s.range b) ∙ one s.slot
  where
    one : (n : SlotName) → (lent_one es n s.range b).around ≡ b.around
    one (slot.Constant i) = refl
    one (slot.Srv i) = refl
    one (slot.Uav i) = refl

pub given_constants : (es : Held) (ss : List SlotRange) (b : Bound) → (given es ss b).words.constants ≡ b.words.constants
given_constants es [] b = refl
given_constants es (s ∷ ss) b = given_constants es ss (given_one es s.slot s.range b) ∙ one s.slot
  where
    one : (n : SlotName) → (given_one es n s.range b).words.constants ≡ b.words.constants
    one (slot.Constant i) = refl
    one (slot.Srv i) = refl
    one (slot.Uav i) = refl

pub given_reads : (es : Held) (ss : List SlotRange) (b : Bound) → (given es ss b).words.reads ≡ b.words.reads
given_reads es [] b = refl
given_reads es (s ∷ ss) b = given_reads es ss (given_one es s.slot s.range b) ∙ one s.slot
  where
    one : (n : SlotName) → (given_one es n s.range b).words.reads ≡ b.words.reads
    one (slot.Constant i) = refl
    one (slot.Srv i) = refl
    one (slot.Uav i) = refl

-- ---- as an effect reads them

module _ (kind : Kind) (test : ℕ → SlotName → Bool) (f : SlotRange → List ℕ) (m : Memory) (k : ℕ) (tells : Tells kind) (same : (n : ℕ) (s : SlotName) → test n s ≡ has_number n (kind s))
    (ss : List SlotRange) (apart : Pairwise AreApart ss) (reads : (n : ℕ) → AllByRecursion (λ s. has_number n (kind s.slot) ≡ true → f s ≡ words_in m s.range) ss) where
  abbrev start : List (List ℕ)
  start = replicate k []

  abbrev all_words : List (List ℕ)
  all_words = placed kind f ss start

  abbrev own : ℕ → List ℕ
  own n = slot_words m (test n) ss

  all_long : length all_words ≡ k
  all_long = length_placed kind f ss start ∙ length-replicate k []

  own_at : (n : ℕ) → n < length all_words → slice_index_or all_words n [] ≡ own (0 + n)
  own_at n lt =
      let few : n < k = omega (arith, lt, all_long) in
      placed_at kind f tells n [] ss apart start (omega (arith, lt, length_placed kind f ss start))
      ∙ ap (at_number kind f n ss) (get_or-replicate k n [] [] few)
      ∙ at_alike kind f (λ s. words_in m s.range) n [] ss (reads n)
      ∙ slot_words_at kind (test n) n (same n) m ss
      ∙ ap own (omega arith)

  kind_words : placed kind f ss (replicate k []) ≡ map (λ n. slot_words m (test n) ss) (numbers_from 0 k)
  kind_words = by_numbers [] own 0 all_words own_at ∙ ap (λ (n : ℕ). map own (numbers_from 0 n)) all_long

module _ (es : Held) (ss : List SlotRange) (bound : AllByRecursion (CanBind es) ss) (apart : Pairwise AreApart ss) where
  stays : AllByRecursion (StaysRead (taken ss) es) ss
  stays =
      let at : AllByRecursion (StaysRead (stored no_bytes ss) es) ss = reads_stay no_bytes ss apart es in
      all_of (StaysRead (stored no_bytes ss) es) (StaysRead (taken ss) es) (λ s h e. ap (λ (l : Held). block_of l s.range.block) (taken_is ss es) ∙ h e) ss at

  same_words : (s : SlotRange) → block_of (taken ss es) s.range.block ≡ block_of es s.range.block → own_words (taken ss es) s ≡ own_words es s
  same_words s e = ap (λ (o : Option Block). words_of (slice_range (bytes_if o) s.range.from s.range.to)) e

  -- slots that are read can be bound once the others' bytes have left
  pub can_lend : AllByRecursion (CanLend (taken ss es)) ss
  can_lend = all_of_both (CanBind es) (StaysRead (taken ss) es) (CanLend (taken ss es)) (λ s can h. by s s.slot can h) ss bound stays
    where
      moved : (s : SlotRange) → CanBind es s → block_of (taken ss es) s.range.block ≡ block_of es s.range.block → CanBind (taken ss es) s
      moved s can e = record {
        slot = can.slot;
        range = subst (λ (o : Option Block). HasPart o s.range.from s.range.to) (sym e) can.range;
        whole = can.whole;
        limit = can.limit;
      }

      by : (s : SlotRange) (n : SlotName) → CanBind es s → (is_writable n ≡ false → block_of (taken ss es) s.range.block ≡ block_of es s.range.block) → CanRead (taken ss es) n s
      by s (slot.Constant i) can h = moved s can (h refl)
      by s (slot.Srv i) can h = moved s can (h refl)
      by s (slot.Uav i) can h = tt

  constant_reads : (n : ℕ) (k : SlotName) → has_number n (constant_of k) ≡ true → is_writable k ≡ false
  constant_reads n (slot.Constant i) e = refl
  constant_reads n (slot.Srv i) e = refl
  constant_reads n (slot.Uav i) e = sym e

  srv_reads : (n : ℕ) (k : SlotName) → has_number n (srv_of k) ≡ true → is_writable k ≡ false
  srv_reads n (slot.Constant i) e = refl
  srv_reads n (slot.Srv i) e = refl
  srv_reads n (slot.Uav i) e = sym e

  reads_of : (kind : Kind) → ((n : ℕ) (k : SlotName) → has_number n (kind k) ≡ true → is_writable k ≡ false) → (n : ℕ)
      → AllByRecursion (λ s. has_number n (kind s.slot) ≡ true → own_words (taken ss es) s ≡ words_in (memory_of es) s.range) ss
  reads_of kind only n = all_of_both (CanBind es) (StaysRead (taken ss) es) (λ s. has_number n (kind s.slot) ≡ true → own_words (taken ss es) s ≡ words_in (memory_of es) s.range)
      (λ s can h e. same_words s (h (only n s.slot e)) ∙ range_words es s.range can.range) ss bound stays

  pub uav_words : (n : ℕ) → AllByRecursion (λ s. has_number n (uav_of s.slot) ≡ true → own_words es s ≡ words_in (memory_of es) s.range) ss
  uav_words n = all_of (CanBind es) (λ s. has_number n (uav_of s.slot) ≡ true → own_words es s ≡ words_in (memory_of es) s.range) (λ s can e. range_words es s.range can.range) ss bound

  -- all that is bound
  abbrev pub all_bound : Bound
  all_bound = lent (taken ss es) ss (given es ss unbound)

  pub bound_constants : all_bound.words.constants ≡ map (λ n. slot_words (memory_of es) (is_constant n) ss) (numbers_from 0 14)
  bound_constants =
      lent_constants (taken ss es) ss (given es ss unbound)
      ∙ ap (placed constant_of (own_words (taken ss es)) ss) (given_constants es ss unbound)
      ∙ kind_words constant_of is_constant (own_words (taken ss es)) (memory_of es) 14 constants_tell constant_test ss apart (reads_of constant_of constant_reads)

  pub bound_reads : all_bound.words.reads ≡ map (λ n. slot_words (memory_of es) (is_srv n) ss) (numbers_from 0 16)
  bound_reads =
      lent_reads (taken ss es) ss (given es ss unbound)
      ∙ ap (placed srv_of (own_words (taken ss es)) ss) (given_reads es ss unbound)
      ∙ kind_words srv_of is_srv (own_words (taken ss es)) (memory_of es) 16 srvs_tell srv_test ss apart (reads_of srv_of srv_reads)

  pub bound_writes : all_bound.words.writes ≡ map (λ n. slot_words (memory_of es) (is_uav n) ss) (numbers_from 0 8)
  bound_writes =
      lent_writes (taken ss es) ss (given es ss unbound)
      ∙ given_writes es ss unbound
      ∙ kind_words uav_of is_uav (own_words es) (memory_of es) 8 uavs_tell uav_test ss apart uav_words

  pub bound_around : all_bound.around ≡ placed uav_of (own_around es) ss (replicate 8 None)
  bound_around = lent_around (taken ss es) ss (given es ss unbound) ∙ given_around es ss unbound
