-- Work on blocks does to the bytes of buffers what the same work on buffers does in order.
use Rattle.std.proofs.Common.{◌≡◌, ℕ, ◌+◌, ◌-◌, ◌*◌, ◌/◌, ◌%◌, ◌<◌, Bool, true, false, cond, ◌&&◌, ◌||◌, ◌==◌, nat_lt}
use Rattle.std.proofs.Common.{nat_le, List, [], ◌∷◌, map, refl, sym, ap, ◌∙◌, inl, inr, Option, Some, None, arith}
use mathlib.Core.Path.{fun_ext}
use Rattle.std.proofs.lemmas.Bool.{both_ways, cases_Bool, ltb-true, eqb-true, eq-eqb}
use Rattle.dx_types.specs.declared.range.Range.{Range}
use Rattle.vk_types.specs.declared.command.SlotName.{SlotName}
use Rattle.vk_types.specs.declared.command.SlotName.TheVariants as slot
use Rattle.vk_types.specs.declared.command.SlotRange.{SlotRange}
use Rattle.vk_types.specs.declared.command.Groups.{Groups}
use Rattle.vk_types.specs.declared.command.Groups.TheVariants as groups
use Rattle.vk_types.specs.declared.command.Work.{Work}
use Rattle.vk_types.specs.declared.command.Work.TheVariants as work
use Rattle.vk_types.specs.declared.command.Cond.{Cond}
use Rattle.base_lemmas.specs.Lists.{numbers_from}
use Rattle.vk_types.specs.Memory.{Memory, covers, put, byte_of, word_of, byte_in, byte_in_words, number_at, or_zero}
use Rattle.vk_types.specs.Hazards.{groups_touches, slot_touch, work_touches, cond_touches, is_touched}
use Rattle.vk_types.specs.Effects.{Meaning, words_in, is_constant, is_srv, is_uav, slot_words, slots_words}
use Rattle.vk_types.specs.Effects.{group_counts, put_slot, put_slots, work_effect, work_count, is_skipped}
use Rattle.vk_types.proofs.Local.{covered}
use Rattle.core_model.proofs.Listing.Touched.{touched_front, touched_back}
use Rattle.core_model.specs.Renaming.{BlockMap, block_of, range_on, slot_on, groups_on, work_on, cond_on}
use Rattle.core_model.proofs.Steps.Binding.{or_left, or_right}

module _ (size : ℕ → ℕ) (blocks : BlockMap) (own : (r s b : ℕ) → blocks r ≡ Some b → blocks s ≡ Some b → r ≡ s) where
  -- the blocks' bytes are the buffers'
  abbrev pub Agree : Memory → Memory → Type 0
  Agree m s = (r b i : ℕ) → blocks r ≡ Some b → i < size r → m b i ≡ s r i

  -- the byte is one of a buffer that has a block
  abbrev pub Has : ℕ → ℕ → Type 0
  Has r i = (b : ℕ) × (blocks r ≡ Some b) × (i < size r)

  -- so is each of the range
  abbrev pub HasRange : Range → Type 0
  HasRange q = (r i : ℕ) → covers q r i ≡ true → Has r i

  -- Reads -----------------------------------------------------------------------------------------------------------

  pub byte_alike : (q : Range) → HasRange q → (m s : Memory) → Agree m s → (k : ℕ)
      → byte_of m (range_on blocks q) k ≡ byte_of s q k
  byte_alike q has m s a k =
      elim (cases_Bool (nat_lt (q.from + k) q.to)) [
        | inl t ↦
            let l = ltb-true (q.from + k) q.to t in
            let h = has q.block (q.from + k) (covered q q.block (q.from + k) refl (omega arith) l) in
            ap (λ c. cond c (m (block_of blocks q.block) (q.from + k)) 0) t
            ∙ ap (λ o. m (or_zero o) (q.from + k)) h.1 ∙ a q.block h.0 (q.from + k) h.1 h.2
            ∙ sym (ap (λ c. cond c (s q.block (q.from + k)) 0) t)
        | inr f ↦ ap (λ c. cond c (m (block_of blocks q.block) (q.from + k)) 0) f
            ∙ sym (ap (λ c. cond c (s q.block (q.from + k)) 0) f)
      ]

  pub word_alike : (q : Range) → HasRange q → (m s : Memory) → Agree m s → (k : ℕ)
      → word_of m (range_on blocks q) k ≡ word_of s q k
  word_alike q has m s a k = λ i.
      byte_alike q has m s a (4 * k) i + (256 * byte_alike q has m s a (4 * k + 1) i +
      (65536 * byte_alike q has m s a (4 * k + 2) i + 16777216 * byte_alike q has m s a (4 * k + 3) i))

  words_alike : (q : Range) → HasRange q → (m s : Memory) → Agree m s → words_in m (range_on blocks q) ≡ words_in s q
  words_alike q has m s a = ap (λ f. map f (numbers_from 0 ((q.to - q.from) / 4))) (fun_ext (word_alike q has m s a))

  pub skip_alike : (c : Option Cond) → ((r i : ℕ) → is_touched (cond_touches c) r i ≡ true → Has r i)
      → (m s : Memory) → Agree m s → is_skipped (cond_on blocks c) m ≡ is_skipped c s
  skip_alike None has m s a = refl
  skip_alike (Some c) has m s a = ap (λ w. cond (w == 0) 0 1 == c.value)
      (word_alike c.at (λ r i h. has r i (or_left (covers c.at r i) false h)) m s a 0)

  groups_alike : (g : Groups) → ((r i : ℕ) → is_touched (groups_touches g) r i ≡ true → Has r i) → (m s : Memory)
      → Agree m s → group_counts m (groups_on blocks g) ≡ group_counts s g
  groups_alike (groups.Direct x y z) has m s a = refl
  groups_alike (groups.Indirect at) has m s a =
      let w = word_alike at (λ r i h. has r i (or_left (covers at r i) false h)) m s a in
      λ i. w 0 i ∷ w 1 i ∷ w 2 i ∷ []

  -- each slot's range
  abbrev HasSlots : List SlotRange → Type 0
  HasSlots ss = (r i : ℕ) → is_touched (map slot_touch ss) r i ≡ true → Has r i

  first_slot : (s : SlotRange) (ss : List SlotRange) → HasSlots (s ∷ ss) → HasRange s.range
  first_slot s ss has r i h = has r i (or_left (covers s.range r i) (is_touched (map slot_touch ss) r i) h)

  other_slots : (s : SlotRange) (ss : List SlotRange) → HasSlots (s ∷ ss) → HasSlots ss
  other_slots s ss has r i h = has r i (or_right (covers s.range r i) (is_touched (map slot_touch ss) r i) h)

  slot_alike : (test : SlotName → Bool) (ss : List SlotRange) → HasSlots ss → (m s : Memory) → Agree m s
      → slot_words m test (map (slot_on blocks) ss) ≡ slot_words s test ss
  slot_alike test [] has m s a = refl
  slot_alike test (x ∷ ss) has m s a = λ i. cond (test x.slot) (words_alike x.range (first_slot x ss has) m s a i)
      (slot_alike test ss (other_slots x ss has) m s a i)

  slots_alike : (ss : List SlotRange) → HasSlots ss → (m s : Memory) → Agree m s
      → slots_words m (map (slot_on blocks) ss) ≡ slots_words s ss
  slots_alike ss has m s a = λ i. record {
    constant = fun_ext (λ j. slot_alike (is_constant j) ss has m s a) i;
    srv = fun_ext (λ j. slot_alike (is_srv j) ss has m s a) i;
    uav = fun_ext (λ j. slot_alike (is_uav j) ss has m s a) i;
  }

  -- Writes ----------------------------------------------------------------------------------------------------------

  -- a block's byte is covered where the buffer's is
  covers_alike : (q : Range) → HasRange q → (r b i : ℕ) → blocks r ≡ Some b
      → covers (range_on blocks q) b i ≡ covers q r i
  covers_alike q has r b i e =
      elim (cases_Bool (nat_le q.from i && nat_lt i q.to)) [
        | inr f ↦ ap (λ c. (block_of blocks q.block == b) && c) f ∙ none (block_of blocks q.block == b)
            ∙ sym (ap (λ c. (q.block == r) && c) f ∙ none (q.block == r))
        | inl t ↦
            let h = has q.block i (ap (λ c. c && (nat_le q.from i && nat_lt i q.to)) (eq-eqb q.block q.block refl)
            ∙ t) in
            ap (λ c. c && (nat_le q.from i && nat_lt i q.to)) (ap (λ o. or_zero o == b) h.1 ∙ same h.0 h.1)
      ]
    where
      none : (x : Bool) → (x && false) ≡ false
      none true = refl
      none false = refl

      same : (c : ℕ) → blocks q.block ≡ Some c → (c == b) ≡ (q.block == r)
      same c is =
          elim (cases_Bool (q.block == r)) [
            | inl t ↦
                let buffers : q.block ≡ r = eqb-true q.block r t in
                let there : Some c ≡ Some b = sym is ∙ ap blocks buffers ∙ e in
                eq-eqb c b (cc there) ∙ sym t
            | inr f ↦
                elim (cases_Bool (c == b)) [
                  | inl t ↦ absurd (both_ways (q.block == r) f
                      (eq-eqb q.block r (own q.block r b (is ∙ ap Some (eqb-true c b t)) e)))
                  | inr g ↦ g ∙ sym f
                ]
          ]

  pub put_alike : (q : Range) → HasRange q → (piece piece' : ℕ → ℕ) → ((k : ℕ) → piece k ≡ piece' k)
      → (m s : Memory) → Agree m s → Agree (put (range_on blocks q) piece m) (put q piece' s)
  put_alike q has piece piece' same m s a r b i e l = λ j. cond (covers_alike q has r b i e j) (same (i - q.from) j)
      (a r b i e l j)

  slot_put : (words : ℕ → List ℕ) (n : SlotName) (q : Range) → HasRange q → (m s : Memory) → Agree m s
      → Agree (put_slot words n (range_on blocks q) m) (put_slot words n q s)
  slot_put words (slot.Constant j) q has m s a = a
  slot_put words (slot.Srv j) q has m s a = a
  slot_put words (slot.Uav j) q has m s a = put_alike q has (byte_in_words (words j)) (byte_in_words (words j))
      (λ k. refl) m s a

  slots_put : (words : ℕ → List ℕ) (ss : List SlotRange) → HasSlots ss → (m s : Memory) → Agree m s
      → Agree (put_slots words (map (slot_on blocks) ss) m) (put_slots words ss s)
  slots_put words [] has m s a = a
  slots_put words (x ∷ ss) has m s a =
      slots_put words ss (other_slots x ss has) (put_slot words x.slot (range_on blocks x.range) m)
      (put_slot words x.slot x.range s)
      (slot_put words x.slot x.range (first_slot x ss has) m s a)

  -- Work ------------------------------------------------------------------------------------------------------------

  abbrev pub HasWork : Work → Type 0
  HasWork w = (r i : ℕ) → is_touched (work_touches w) r i ≡ true → Has r i

  pub work_alike : (meaning : Meaning) (w : Work) → HasWork w → (m s : Memory) → Agree m s
      → Agree (work_effect meaning (work_on blocks w) m) (work_effect meaning w s)
  work_alike meaning (work.Copy source target) has m s a =
      put_alike target
      (λ r i h. has r i (or_right (covers source r i) (covers target r i || false)
      (or_left (covers target r i) false h))) (byte_of m (range_on blocks source)) (byte_of s source)
      (byte_alike source (λ r i h. has r i (or_left (covers source r i) (covers target r i || false) h)) m s a) m s a
  work_alike meaning (work.Fill target word) has m s a =
      put_alike target (λ r i h. has r i (or_left (covers target r i) false h)) (λ k. byte_in word (k % 4))
      (λ k. byte_in word (k % 4)) (λ k. refl) m s a
  work_alike meaning (work.Clear target words unit) has m s a =
      put_alike target (λ r i h. has r i (or_left (covers target r i) false h))
      (λ k. byte_in (number_at words (k / 4 % unit)) (k % 4))
      (λ k. byte_in (number_at words (k / 4 % unit)) (k % 4)) (λ k. refl) m s a
  work_alike meaning (work.Dispatch shader counts slots) has m s a =
      let g = groups_alike counts
      (λ r i h. has r i (touched_front (groups_touches counts) (map slot_touch slots) r i h)) m s a in
      let inner : HasSlots slots =
      λ r i h. has r i (touched_back (groups_touches counts) (map slot_touch slots) r i h) in
      let words = meaning.words shader (group_counts s counts) (slots_words s slots) in
      let same : meaning.words shader (group_counts m (groups_on blocks counts))
      (slots_words m (map (slot_on blocks) slots)) ≡ words =
      λ i. meaning.words shader (g i) (slots_alike slots inner m s a i) in
      λ r b i e l. ap (λ w. put_slots w (map (slot_on blocks) slots) m b i) same
      ∙ slots_put words slots inner m s a r b i e l

  pub count_alike : (meaning : Meaning) (w : Work) → HasWork w → (m s : Memory) → Agree m s
      → work_count meaning (work_on blocks w) m ≡ work_count meaning w s
  count_alike meaning (work.Copy source target) has m s a = refl
  count_alike meaning (work.Fill target word) has m s a = refl
  count_alike meaning (work.Clear target words unit) has m s a = refl
  count_alike meaning (work.Dispatch shader counts slots) has m s a =
      ap (meaning.count shader)
      (groups_alike counts
      (λ r i h. has r i (touched_front (groups_touches counts) (map slot_touch slots) r i h)) m s a)
