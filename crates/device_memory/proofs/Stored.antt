-- Blocks whose bytes leave for a dispatch and come back with what it left.
use Rattle.std.proofs.Common.{◌≡◌, ℕ, true, false, List, [], ◌∷◌, Option, Some, None, refl, sym, ap, ◌∙◌}
use Rattle.std.specs.Prelude.{slice_index_or}
use Rattle.std.specs.List.{AllByRecursion}
use Rattle.std.specs.Option.{option_map}
use Rattle.std.proofs.lemmas.List.{get_or-set_other}
use Rattle.std.proofs.lemmas.Bool.{eqb-false, or_left, or_right}
use Rattle.buffer_blocks.specs.declared.block.Block.{Block}
use Rattle.buffer_blocks.specs.Block.{bytes_of}
use Rattle.shader_slots.specs.Part.{Part}
use Rattle.shader_slots.specs.Part as part
use Rattle.vk_types.specs.declared.command.SlotName.{SlotName}
use Rattle.vk_types.specs.declared.command.SlotName.TheVariants as slot
use Rattle.vk_types.specs.declared.command.SlotRange.{SlotRange}
use Rattle.base_lemmas.specs.Lists.{Pairwise}
use Rattle.vk_types.specs.Memory.{byte_in_words}
use Rattle.vk_types.specs.Effects.{put_slot, put_slots}
use Rattle.device_memory.specs.Held.{Held, block_of, memory_of, AreAlike}
use Rattle.device_memory.specs.Writes.{IsPut, exchanged}
use Rattle.device_memory.specs.Ranges.{AreApart, is_same, is_writable}
use Rattle.device_memory.specs.Binding.{taken_one, taken, returned_part, returned_one, left_one, returned}
use Rattle.device_memory.proofs.Exchanges.{block_other, exchanged_twice, exchanged_swap, put_exchanged, alike_exchanged}
use Rattle.device_memory.proofs.Placed.{all_of, all_of_both}

-- the block of a number is not one that a slot may write
abbrev pub Spares : ℕ → SlotRange → Type 0
Spares q s = is_writable s.slot ≡ true → s.range.block ≡ q → ⊥

module _ (g : SlotRange → List ℕ) where
  -- the blocks once those of the slots that may be written have these bytes
  abbrev pub stored_one : SlotRange → SlotName → Held → Held
  stored_one s (slot.Constant i) es = es
  stored_one s (slot.Srv i) es = es
  stored_one s (slot.Uav i) es = exchanged s.range.block (g s) es

  abbrev pub stored : List SlotRange → Held → Held
  stored [] es = es
  stored (s ∷ ss) es = stored ss (stored_one s s.slot es)

  one_spares : (q : ℕ) (s : SlotRange) (n : SlotName) → (is_writable n ≡ true → s.range.block ≡ q → ⊥) → (es : Held) → block_of (stored_one s n es) q ≡ block_of es q
  one_spares q s (slot.Constant i) h es = refl
  one_spares q s (slot.Srv i) h es = refl
  one_spares q s (slot.Uav i) h es = block_other s.range.block (g s) q (λ e. h refl (sym e)) es

  pub stored_spares : (q : ℕ) (ss : List SlotRange) → AllByRecursion (Spares q) ss → (es : Held) → block_of (stored ss es) q ≡ block_of es q
  stored_spares q [] h es = refl
  stored_spares q (s ∷ ss) h es = stored_spares q ss h.1 (stored_one s s.slot es) ∙ one_spares q s s.slot h.0 es

-- ---- which slots spare which blocks

-- a slot and those behind it that may be written
pub spared_behind : (s : SlotRange) (ss : List SlotRange) → AllByRecursion (AreApart s) ss → AllByRecursion (Spares s.range.block) ss
spared_behind s ss = all_of (AreApart s) (Spares s.range.block) (λ t a w e. a.blocks (or_right (is_writable s.slot) (is_writable t.slot) w) (sym e)) ss

-- a slot that may be written, and those behind it
pub spares_behind : (s : SlotRange) (ss : List SlotRange) → AllByRecursion (AreApart s) ss → AllByRecursion (λ t. Spares t.range.block s) ss
spares_behind s ss = all_of (AreApart s) (λ t. Spares t.range.block s) (λ t a w e. a.blocks (or_left (is_writable s.slot) (is_writable t.slot) w) e) ss

-- the slots that are only read keep their blocks
abbrev pub StaysRead : (Held → Held) → Held → SlotRange → Type 0
StaysRead f es s = is_writable s.slot ≡ false → block_of (f es) s.range.block ≡ block_of es s.range.block

pub reads_stay : (g : SlotRange → List ℕ) (ss : List SlotRange) → Pairwise AreApart ss → (es : Held) → AllByRecursion (StaysRead (stored g ss) es) ss
reads_stay g [] apart es = apart
reads_stay g (s ∷ ss) apart es = (first, all_of_both _ _ (StaysRead (stored g (s ∷ ss)) es) (λ t stays spares reads. stays reads ∙ one_spares g t.range.block s s.slot spares es) ss (reads_stay g ss apart.1 (stored_one g s s.slot es)) (spares_behind s ss apart.0))
  where
    read_one : (n : SlotName) → is_writable n ≡ false → stored_one g s n es ≡ es
    read_one (slot.Constant i) e = refl
    read_one (slot.Srv i) e = refl
    read_one (slot.Uav i) e = absurd (cc e)

    first : StaysRead (stored g (s ∷ ss)) es s
    first reads =
        stored_spares g s.range.block ss (spared_behind s ss apart.0) (stored_one g s s.slot es)
        ∙ ap (λ (l : Held). block_of l s.range.block) (read_one s.slot reads)

-- ---- bytes that leave and come back

abbrev pub no_bytes : SlotRange → List ℕ
no_bytes s = []

pub taken_is : (ss : List SlotRange) (es : Held) → taken ss es ≡ stored no_bytes ss es
taken_is [] es = refl
taken_is (s ∷ ss) es = taken_is ss (taken_one s.slot s.range es) ∙ ap (stored no_bytes ss) (one s.slot)
  where
    one : (n : SlotName) → taken_one n s.range es ≡ stored_one no_bytes s n es
    one (slot.Constant i) = refl
    one (slot.Srv i) = refl
    one (slot.Uav i) = refl

-- other bytes for a block that the later slots spare may as well come last
late : (g : SlotRange → List ℕ) (q : ℕ) (bs : List ℕ) (ss : List SlotRange) → AllByRecursion (Spares q) ss → (es : Held) → exchanged q bs (stored g ss es) ≡ stored g ss (exchanged q bs es)
late g q bs [] h es = refl
late g q bs (s ∷ ss) h es = late g q bs ss h.1 (stored_one g s s.slot es) ∙ ap (stored g ss) (one s.slot h.0)
  where
    one : (n : SlotName) → (is_writable n ≡ true → s.range.block ≡ q → ⊥) → exchanged q bs (stored_one g s n es) ≡ stored_one g s n (exchanged q bs es)
    one (slot.Constant i) h = refl
    one (slot.Srv i) h = refl
    one (slot.Uav i) h = exchanged_swap q s.range.block (λ e. h refl (sym e)) bs (g s) es

pub back_again : (g z : SlotRange → List ℕ) (ss : List SlotRange) → Pairwise AreApart ss → (es : Held) → stored g ss (stored z ss es) ≡ stored g ss es
back_again g z [] apart es = refl
back_again g z (s ∷ ss) apart es = ap (stored g ss) (one s.slot (λ h. h)) ∙ back_again g z ss apart.1 (stored_one g s s.slot es)
  where
    one : (n : SlotName) → (is_writable n ≡ true → is_writable n ≡ true) → stored_one g s n (stored z ss (stored_one z s n es)) ≡ stored z ss (stored_one g s n es)
    one (slot.Constant i) h = refl
    one (slot.Srv i) h = refl
    one (slot.Uav i) h =
        late z s.range.block (g s) ss (spared_behind s ss apart.0) (exchanged s.range.block (z s) es)
        ∙ ap (stored z ss) (exchanged_twice s.range.block (g s) (z s) es)

-- ---- parts that are given back

-- the bytes of the part that a slot has, if it may be written
abbrev pub Gives : (SlotRange → List ℕ) → List (Option Part) → SlotName → SlotRange → Type 0
Gives g parts (slot.Constant i) s = Unit {0}
Gives g parts (slot.Srv i) s = Unit {0}
Gives g parts (slot.Uav i) s = option_map part.bytes_of (slice_index_or parts i None) ≡ Some (g s)

pub returned_is : (g : SlotRange → List ℕ) (ss : List SlotRange) → Pairwise AreApart ss → (parts : List (Option Part)) → AllByRecursion (λ s. Gives g parts s.slot s) ss → (es : Held) → returned ss parts es ≡ stored g ss es
returned_is g [] apart parts gives es = refl
returned_is g (s ∷ ss) apart parts gives es =
    ap (returned ss (left_one parts s.slot)) (one s.slot gives.0)
    ∙ returned_is g ss apart.1 (left_one parts s.slot) (all_of_both _ _ _ (λ t a has. still s.slot t t.slot a.names has) ss apart.0 gives.1) (stored_one g s s.slot es)
  where
    part_one : (o : Option Part) → option_map part.bytes_of o ≡ Some (g s) → returned_part o s.range es ≡ exchanged s.range.block (g s) es
    part_one None e = absurd (cc e)
    part_one (Some p) e = let same : part.bytes_of p ≡ g s = cc e in ap (λ (bs : List ℕ). exchanged s.range.block bs es) same

    one : (n : SlotName) → Gives g parts n s → returned_one parts n s.range es ≡ stored_one g s n es
    one (slot.Constant i) h = refl
    one (slot.Srv i) h = refl
    one (slot.Uav i) h = part_one (slice_index_or parts i None) h

    still : (n : SlotName) (t : SlotRange) (k : SlotName) → is_same n k ≡ false → Gives g parts k t → Gives g (left_one parts n) k t
    still n t (slot.Constant i) d h = tt
    still n t (slot.Srv i) d h = tt
    still (slot.Constant j) t (slot.Uav i) d h = h
    still (slot.Srv j) t (slot.Uav i) d h = h
    still (slot.Uav j) t (slot.Uav i) d h = ap (option_map part.bytes_of) (get_or-set_other parts j i None None (λ e. eqb-false j i d (sym e))) ∙ h

-- ---- memory

-- bytes that a slot's block may have after a dispatch: the words in the range, and all others as they were
abbrev pub Fits : (SlotRange → List ℕ) → (ℕ → List ℕ) → Held → SlotName → SlotRange → Type 0
Fits g words es (slot.Constant i) s = Unit {0}
Fits g words es (slot.Srv i) s = Unit {0}
Fits g words es (slot.Uav i) s = (b : Block) × (Some b ≡ block_of es s.range.block) × IsPut s.range.from s.range.to (byte_in_words (words i)) (bytes_of b) (g s)

module _ (g : SlotRange → List ℕ) (words : ℕ → List ℕ) where
  fits_from : (es fs : Held) (n : SlotName) (s : SlotRange) → block_of fs s.range.block ≡ block_of es s.range.block → Fits g words es n s → Fits g words fs n s
  fits_from es fs (slot.Constant i) s e h = h
  fits_from es fs (slot.Srv i) s e h = h
  fits_from es fs (slot.Uav i) s e h = (h.0, h.1 ∙ sym e, h.2)

  fit_still : (s : SlotRange) (ss : List SlotRange) → AllByRecursion (AreApart s) ss → (es : Held) → AllByRecursion (λ t. Fits g words es t.slot t) ss
      → AllByRecursion (λ t. Fits g words (stored_one g s s.slot es) t.slot t) ss
  fit_still s ss apart es = all_of_both _ _ _ (λ t spares fits. fits_from es (stored_one g s s.slot es) t.slot t (one_spares g t.range.block s s.slot spares es) fits) ss (spares_behind s ss apart)

  pub stored_memory : (ss : List SlotRange) → Pairwise AreApart ss → (es : Held) → AllByRecursion (λ s. Fits g words es s.slot s) ss
      → memory_of (stored g ss es) ≡ put_slots words ss (memory_of es)
  stored_memory [] apart es fits = refl
  stored_memory (s ∷ ss) apart es fits =
      stored_memory ss apart.1 (stored_one g s s.slot es) (fit_still s ss apart.0 es fits.1)
      ∙ ap (put_slots words ss) (one s.slot fits.0)
    where
      one : (n : SlotName) → Fits g words es n s → memory_of (stored_one g s n es) ≡ put_slot words n s.range (memory_of es)
      one (slot.Constant i) h = refl
      one (slot.Srv i) h = refl
      one (slot.Uav i) h = put_exchanged es s.range (byte_in_words (words i)) h.0 (g s) h.1 h.2

  pub stored_alike : (ss : List SlotRange) → Pairwise AreApart ss → (es : Held) → AllByRecursion (λ s. Fits g words es s.slot s) ss → AreAlike es (stored g ss es)
  stored_alike [] apart es fits = refl
  stored_alike (s ∷ ss) apart es fits = one s.slot fits.0 ∙ stored_alike ss apart.1 (stored_one g s s.slot es) (fit_still s ss apart.0 es fits.1)
    where
      one : (n : SlotName) → Fits g words es n s → AreAlike es (stored_one g s n es)
      one (slot.Constant i) h = refl
      one (slot.Srv i) h = refl
      one (slot.Uav i) h = alike_exchanged s.range.block (g s) h.0 es h.1 h.2.size
