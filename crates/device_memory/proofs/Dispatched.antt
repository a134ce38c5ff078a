-- A dispatch of a module, from the blocks that it binds to those that it leaves.
use Rattle.std.proofs.Common.{◌≡◌, ℕ, zero, suc, ◌+◌, ◌-◌, ◌*◌, ◌/◌, ◌%◌, ◌<◌, ◌≤◌, ◌^◌, Bool, true, false, cond, List, [], ◌∷◌, ◌++◌, length, take, drop, map, replicate, Option, Some, None, refl, sym, ap, subst, ◌∙◌, arith}
use mathlib.Core.Path.{fun_ext}
use Rattle.std.specs.Prelude.{slice_index_or}
use Rattle.std.specs.List.{AllByRecursion}
use Rattle.std.specs.Option.{option_map}
use Rattle.std.proofs.lemmas.Nat.{mul-lt}
use Rattle.std.proofs.lemmas.List.{drop-drop, length-map}
use Rattle.buffer_blocks.specs.declared.block.Block.{Block}
use Rattle.buffer_blocks.specs.Block.{bytes_of}
use Rattle.shader_model.specs.Invocation as model
use Rattle.shader_model.specs.Invocation.{Slots}
use Rattle.shader_model.specs.Dispatch.{is_allowed}
use Rattle.shader_slots.specs.Part.{Part, spelled}
use Rattle.shader_slots.specs.Part as part
use Rattle.shader_slots.specs.Bound.{Around, Bound, unbound, words_bound, around_bound}
use Rattle.spirv_model.specs.Meaning.ModuleDispatch.{group_of, module_dispatched}
use Rattle.vk_types.specs.declared.command.SlotName.{SlotName}
use Rattle.vk_types.specs.declared.command.SlotName.TheVariants as slot
use Rattle.vk_types.specs.declared.command.SlotRange.{SlotRange}
use Rattle.base_lemmas.specs.Lists.{Pairwise, numbers_from}
use Rattle.vk_types.specs.Memory.{Memory, byte_in_words, number_at, or_zero, put, word_of}
use Rattle.vk_types.specs.Effects.{is_uav, put_slot, put_slots, slot_words, slots_words, words_in}
use Rattle.device_memory.specs.Held.{Held, HasPart, block_of, memory_of, AreAlike}
use Rattle.device_memory.specs.Meant.{slots_of, left_in, module_meaning_of}
use Rattle.device_memory.specs.Writes.{IsPut, bytes_if}
use Rattle.device_memory.specs.Ranges.{AreApart, CanBind, HasSlot, IsSlot}
use Rattle.device_memory.specs.Binding.{given, lent, returned, taken}
use Rattle.device_memory.proofs.Puts.{put_over}
use Rattle.device_memory.proofs.RangeBytes.{spelled_long, spelled_byte}
use Rattle.device_memory.proofs.Moves.{some_block}
use Rattle.device_memory.proofs.Placed.{Shows, all_of, all_of_both, at_number, listed_shows, placed, placed_at, slot_words_at, uav_of, uav_test, uavs_tell}
use Rattle.device_memory.proofs.Stored.{Fits, Gives, back_again, no_bytes, returned_is, stored, stored_alike, stored_memory, taken_is}
use Rattle.device_memory.proofs.Bindings.{all_bound, bound_around, bound_constants, bound_reads, bound_writes, own_around}
use Rattle.device_memory.proofs.Sizes.{KeepsSizes, dispatched_keeps}

-- ---- lists

map_at : {A B : Type 0} (f : A → B) (xs : List A) (n : ℕ) (d : A) → slice_index_or (map f xs) n (f d) ≡ f (slice_index_or xs n d)
map_at f [] n d = refl
map_at f (x ∷ xs) zero d = refl
map_at f (x ∷ xs) (suc n) d = map_at f xs n d

numbers_at : {A : Type 0} (g : ℕ → A) (d : A) (first k n : ℕ) → n < k → slice_index_or (map g (numbers_from first k)) n d ≡ g (first + n)
numbers_at g d first zero n lt = absurd (omega (arith, lt))
numbers_at g d first (suc k) zero lt = ap g (omega arith)
numbers_at g d first (suc k) (suc n) lt = numbers_at g d (suc first) k n (omega (arith, lt)) ∙ ap g (omega arith)

numbers_long : (first k : ℕ) → length (numbers_from first k) ≡ k
numbers_long first zero = refl
numbers_long first (suc k) = ap suc (numbers_long (suc first) k)

zero_more : (n : ℕ) → 0 + n ≡ n
zero_more n = omega arith

back_to : (from to : ℕ) → from ≤ to → from + (to - from) ≡ to
back_to from to le = omega (arith, le)

whole_words : (size : ℕ) → size % 4 ≡ 0 → (ws : List ℕ) → length ws ≡ size / 4 → length (spelled ws) ≡ size
whole_words size whole ws long = let all = spelled_long ws in omega (arith, all, long, whole)

-- ---- bytes of a part

module _ (words : List ℕ) (a : Around) where
  part_is : (o : Option Part) → words_bound o ≡ words → around_bound o ≡ Some a → option_map part.bytes_of o ≡ Some (a.before ++ (spelled words ++ a.after))
  part_is None w e = absurd (cc e)
  part_is (Some p) w e =
      let same : record { before = p.before; after = p.after } ≡ a = cc e in
      ap (λ (x : Around). Some (x.before ++ (spelled p.words ++ x.after))) same
      ∙ ap (λ (ws : List ℕ). Some (a.before ++ (spelled ws ++ a.after))) w

-- ---- words that agree

-- the two have the same words for the slot, if it may be written
abbrev Agree : (ℕ → List ℕ) → (ℕ → List ℕ) → SlotName → Type 0
Agree w v (slot.Constant i) = Unit {0}
Agree w v (slot.Srv i) = Unit {0}
Agree w v (slot.Uav i) = w i ≡ v i

put_same : (w v : ℕ → List ℕ) (ss : List SlotRange) → AllByRecursion (λ s. Agree w v s.slot) ss → (m : Memory) → put_slots w ss m ≡ put_slots v ss m
put_same w v [] same m = refl
put_same w v (s ∷ ss) same m = put_same w v ss same.1 (put_slot w s.slot s.range m) ∙ ap (put_slots v ss) (one s.slot same.0)
  where
    one : (n : SlotName) → Agree w v n → put_slot w n s.range m ≡ put_slot v n s.range m
    one (slot.Constant i) e = refl
    one (slot.Srv i) e = refl
    one (slot.Uav i) e = ap (λ (ws : List ℕ). put s.range (byte_in_words ws) m) e

-- ---- what is bound

module _ (es : Held) (ss : List SlotRange) (bound : AllByRecursion (CanBind es) ss) (apart : Pairwise AreApart ss) where
  pub bound_words : (all_bound es ss bound apart).words ≡ slots_of (slots_words (memory_of es) ss)
  bound_words =
      let b = (all_bound es ss bound apart).words in
      let s = slots_of (slots_words (memory_of es) ss) in
      ap (λ (l : List (List ℕ)). record { constants = l; reads = b.reads; writes = b.writes }) (bound_constants es ss bound apart)
      ∙ ap (λ (l : List (List ℕ)). record { constants = s.constants; reads = l; writes = b.writes }) (bound_reads es ss bound apart)
      ∙ ap (λ (l : List (List ℕ)). record { constants = s.constants; reads = s.reads; writes = l }) (bound_writes es ss bound apart)

  pub have_slots : AllByRecursion HasSlot ss
  have_slots = all_of (CanBind es) HasSlot (λ s can. can.slot) ss bound

-- ---- what it leaves

module _ (es : Held) (ss : List SlotRange) (bound : AllByRecursion (CanBind es) ss) (apart : Pairwise AreApart ss) (code counts : List ℕ) (parts : List (Option Part)) (after : Slots)
    (ran : Some after ≡ cond (is_allowed counts (group_of code)) (module_dispatched code counts (slots_of (slots_words (memory_of es) ss))) (Some (slots_of (slots_words (memory_of es) ss))))
    (words_are : map words_bound parts ≡ after.writes) (around_are : map around_bound parts ≡ placed uav_of (own_around es) ss (replicate 8 None)) where
  abbrev memory : Memory
  memory = memory_of es

  abbrev left : ℕ → List ℕ
  left = λ i. model.words_in after.writes i

  abbrev old_bytes : SlotRange → List ℕ
  old_bytes s = bytes_if (block_of es s.range.block)

  abbrev joined : SlotRange → ℕ → List ℕ
  joined s i = take s.range.from (old_bytes s) ++ (spelled (left i) ++ drop s.range.to (old_bytes s))

  abbrev number : SlotName → ℕ
  number n = or_zero (uav_of n)

  abbrev new_bytes : SlotRange → List ℕ
  new_bytes s = joined s (number s.slot)

  abbrev begun : Slots
  begun = slots_of (slots_words memory ss)

  sizes : (n : ℕ) → length (left n) ≡ length (model.words_in begun.writes n)
  sizes = subst (KeepsSizes begun) (sym ran) (by (is_allowed counts (group_of code)))
    where
      by : (t : Bool) → KeepsSizes begun (cond t (module_dispatched code counts begun) (Some begun))
      by true = dispatched_keeps code counts begun
      by false = λ n. refl

  abbrev read_words : SlotRange → List ℕ
  read_words s = words_in memory s.range

  words_show : AllByRecursion (Shows uav_of read_words (λ i. at_number uav_of read_words i ss [])) ss
  words_show = listed_shows uav_of read_words (λ i. []) uavs_tell ss apart

  around_show : AllByRecursion (Shows uav_of (own_around es) (λ i. at_number uav_of (own_around es) i ss (slice_index_or (replicate 8 None) i None))) ss
  around_show = listed_shows uav_of (own_around es) (λ i. slice_index_or (replicate 8 None) i None) uavs_tell ss apart

  part_around : (i : ℕ) → i < 8 → around_bound (slice_index_or parts i None) ≡ at_number uav_of (own_around es) i ss (slice_index_or (replicate 8 None) i None)
  part_around i lt =
      sym (map_at around_bound parts i None)
      ∙ ap (λ (l : List (Option Around)). slice_index_or l i None) around_are
      ∙ placed_at uav_of (own_around es) uavs_tell i None ss apart (replicate 8 None) lt

  part_words : (i : ℕ) → words_bound (slice_index_or parts i None) ≡ left i
  part_words i = sym (map_at words_bound parts i None) ∙ ap (λ (l : List (List ℕ)). slice_index_or l i []) words_are

  give_one : (s : SlotRange) → CanBind es s → Shows uav_of (own_around es) (λ i. at_number uav_of (own_around es) i ss (slice_index_or (replicate 8 None) i None)) s
      → (n : SlotName) → s.slot ≡ n → Gives new_bytes parts n s
  give_one s can shows (slot.Constant i) e = tt
  give_one s can shows (slot.Srv i) e = tt
  give_one s can shows (slot.Uav i) e =
      let few : i < 8 = subst IsSlot e can.slot in
      part_is (left i) (record { before = take s.range.from (old_bytes s); after = drop s.range.to (old_bytes s) }) (slice_index_or parts i None) (part_words i) (part_around i few ∙ shows i (ap uav_of e))
      ∙ ap (λ (k : ℕ). Some (joined s k)) (sym (ap number e))

  gives : AllByRecursion (λ s. Gives new_bytes parts s.slot s) ss
  gives = all_of_both _ _ (λ s. Gives new_bytes parts s.slot s) (λ s can shows. give_one s can shows s.slot refl) ss bound around_show

  left_long : (s : SlotRange) → Shows uav_of read_words (λ i. at_number uav_of read_words i ss []) s → (i : ℕ) → i < 8 → uav_of s.slot ≡ Some i → length (left i) ≡ (s.range.to - s.range.from) / 4
  left_long s shows i lt e =
      sizes i
      ∙ ap length
      (numbers_at (λ n. slot_words memory (is_uav n) ss) [] 0 8 i lt
      ∙ ap (λ (n : ℕ). slot_words memory (is_uav n) ss) (zero_more i)
      ∙ sym (slot_words_at uav_of (is_uav i) i (uav_test i) memory ss)
      ∙ shows i e)
      ∙ length-map (numbers_from 0 ((s.range.to - s.range.from) / 4)) (word_of memory s.range)
      ∙ numbers_long 0 ((s.range.to - s.range.from) / 4)

  put_joined : (s : SlotRange) (i : ℕ) (b : Block) → Some b ≡ block_of es s.range.block → HasPart (Some b) s.range.from s.range.to → length (spelled (left i)) ≡ s.range.to - s.range.from
      → IsPut s.range.from s.range.to (byte_in_words (left i)) (bytes_of b) (joined s i)
  put_joined s i b some part long =
      let from = s.range.from in
      let to = s.range.to in
      let own : old_bytes s ≡ bytes_of b = ap bytes_if (sym some) in
      let end : drop (to - from) (drop from (bytes_of b)) ≡ drop to (bytes_of b) = drop-drop (to - from) from (bytes_of b) ∙ ap (λ (k : ℕ). drop k (bytes_of b)) (back_to from to part.0) in
      let is : IsPut from to (number_at (spelled (left i))) (bytes_of b) (take from (bytes_of b) ++ (spelled (left i) ++ drop (to - from) (drop from (bytes_of b)))) =
      put_over (bytes_of b) (spelled (left i)) from to part.0 part.1 long in
      let at_end : IsPut from to (number_at (spelled (left i))) (bytes_of b) (take from (bytes_of b) ++ (spelled (left i) ++ drop to (bytes_of b))) =
      subst (λ (rest : List ℕ). IsPut from to (number_at (spelled (left i))) (bytes_of b) (take from (bytes_of b) ++ (spelled (left i) ++ rest))) end is in
      let by_words : IsPut from to (byte_in_words (left i)) (bytes_of b) (take from (bytes_of b) ++ (spelled (left i) ++ drop to (bytes_of b))) =
      subst (λ (p : ℕ → ℕ). IsPut from to p (bytes_of b) (take from (bytes_of b) ++ (spelled (left i) ++ drop to (bytes_of b)))) (fun_ext (λ k. spelled_byte (left i) k)) at_end in
      subst (λ (bs : List ℕ). IsPut from to (byte_in_words (left i)) (bytes_of b) (take from bs ++ (spelled (left i) ++ drop to bs))) (sym own) by_words

  fit_one : (s : SlotRange) → CanBind es s → Shows uav_of read_words (λ i. at_number uav_of read_words i ss []) s → (n : SlotName) → s.slot ≡ n → Fits new_bytes left es n s
  fit_one s can shows (slot.Constant i) e = tt
  fit_one s can shows (slot.Srv i) e = tt
  fit_one s can shows (slot.Uav i) e =
      let few : i < 8 = subst IsSlot e can.slot in
      let found : (b : Block) × (Some b ≡ block_of es s.range.block) = some_block (block_of es s.range.block) s.range.from s.range.to can.range in
      let part : HasPart (Some found.0) s.range.from s.range.to = subst (λ (o : Option Block). HasPart o s.range.from s.range.to) (sym found.1) can.range in
      let long : length (spelled (left i)) ≡ s.range.to - s.range.from = whole_words (s.range.to - s.range.from) can.whole (left i) (left_long s shows i few (ap uav_of e)) in
      let is : IsPut s.range.from s.range.to (byte_in_words (left i)) (bytes_of found.0) (joined s i) = put_joined s i found.0 found.1 part long in
      (found.0, found.1, subst (λ (k : ℕ). IsPut s.range.from s.range.to (byte_in_words (left i)) (bytes_of found.0) (joined s k)) (sym (ap number e)) is)

  fits : AllByRecursion (λ s. Fits new_bytes left es s.slot s) ss
  fits = all_of_both _ _ (λ s. Fits new_bytes left es s.slot s) (λ s can shows. fit_one s can shows s.slot refl) ss bound words_show

  returned_all : returned ss parts (taken ss es) ≡ stored new_bytes ss es
  returned_all =
      returned_is new_bytes ss apart parts gives (taken ss es)
      ∙ ap (stored new_bytes ss) (taken_is ss es)
      ∙ back_again new_bytes no_bytes ss apart es

  -- what a slot had, where no invocation runs
  same_one : after ≡ begun → (n : SlotName) → IsSlot n → Agree left (slots_words memory ss).uav n
  same_one e (slot.Constant i) lt = tt
  same_one e (slot.Srv i) lt = tt
  same_one e (slot.Uav i) lt =
      ap (λ (z : Slots). model.words_in z.writes i) e
      ∙ numbers_at (λ n. slot_words memory (is_uav n) ss) [] 0 8 i lt
      ∙ ap (λ (n : ℕ). slot_words memory (is_uav n) ss) (zero_more i)

  left_is : (t : Bool) → Some after ≡ cond t (module_dispatched code counts begun) (Some begun)
      → put_slots left ss memory ≡ put_slots (left_in (slots_words memory ss) (cond t (module_dispatched code counts begun) None)) ss memory
  left_is true e = ap (λ (o : Option Slots). put_slots (left_in (slots_words memory ss) o) ss memory) e
  left_is false e =
      let same : after ≡ begun = cc e in
      put_same left (slots_words memory ss).uav ss (all_of HasSlot (λ s. Agree left (slots_words memory ss).uav s.slot) (λ s has. same_one same s.slot has) ss (have_slots es ss bound apart)) memory

  pub left_memory : memory_of (returned ss parts (taken ss es)) ≡ put_slots ((module_meaning_of code).words 0 counts (slots_words memory ss)) ss memory
  left_memory = ap memory_of returned_all ∙ stored_memory new_bytes left ss apart es fits ∙ left_is (is_allowed counts (group_of code)) ran

  pub left_alike : AreAlike es (returned ss parts (taken ss es))
  left_alike = subst (AreAlike es) (sym returned_all) (stored_alike new_bytes left ss apart es fits)

-- the same, step by step: the bytes leave, all is bound, the module runs, and the bytes come back
pub dispatch_leaves : (es mid last : Held) (ss : List SlotRange) → AllByRecursion (CanBind es) ss → Pairwise AreApart ss → (code counts : List ℕ) (b1 b2 after : Bound) (parts : List (Option Part))
    → mid ≡ taken ss es → b1 ≡ given es ss unbound → b2 ≡ lent mid ss b1
    → Some after.words ≡ cond (is_allowed counts (group_of code)) (module_dispatched code counts b2.words) (Some b2.words) → after.around ≡ b2.around
    → map words_bound parts ≡ after.words.writes → map around_bound parts ≡ after.around → last ≡ returned ss parts mid
    → (memory_of last ≡ put_slots ((module_meaning_of code).words 0 counts (slots_words (memory_of es) ss)) ss (memory_of es)) × AreAlike es last
dispatch_leaves es mid last ss bound apart code counts b1 b2 after parts left gave lends ran around words_are around_are back =
    let bound_is : b2 ≡ all_bound es ss bound apart =
    lends ∙ ap (λ (l : Held). lent l ss b1) left ∙ ap (lent (taken ss es) ss) gave in
    let words : b2.words ≡ slots_of (slots_words (memory_of es) ss) = ap (λ (b : Bound). b.words) bound_is ∙ bound_words es ss bound apart in
    let ran_is : Some after.words ≡ cond (is_allowed counts (group_of code)) (module_dispatched code counts (slots_of (slots_words (memory_of es) ss))) (Some (slots_of (slots_words (memory_of es) ss))) =
    ran ∙ ap (λ (z : Slots). cond (is_allowed counts (group_of code)) (module_dispatched code counts z) (Some z)) words in
    let around_is : map around_bound parts ≡ placed uav_of (own_around es) ss (replicate 8 None) =
    around_are ∙ around ∙ ap (λ (b : Bound). b.around) bound_is ∙ bound_around es ss bound apart in
    let last_is : last ≡ returned ss parts (taken ss es) = back ∙ ap (returned ss parts) left in (
      ap memory_of last_is ∙ left_memory es ss bound apart code counts parts after.words ran_is words_are around_is,
      subst (AreAlike es) (sym last_is) (left_alike es ss bound apart code counts parts after.words ran_is words_are around_is),
    )

-- ---- how many invocations there are

pub three_below : (a b c : ℕ) → a < 2 ^ 32 → b < 2 ^ 32 → c < 2 ^ 32 → a * b * c < 2 ^ 96
three_below a b c p q r = mul-lt (a * b) c (2 ^ 64) (2 ^ 32) (mul-lt a b (2 ^ 32) (2 ^ 32) p q) r
