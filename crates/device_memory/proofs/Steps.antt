-- One slot more of those that a dispatch lists.
use Rattle.std.proofs.Common.{◌≡◌, ℕ, zero, suc, ◌+◌, ◌<◌, false, List, [], ◌∷◌, length, drop, get_or, Option, Some, refl, sym, ap, subst, ◌∙◌, arith}
use Rattle.std.specs.List.{AllByRecursion}
use Rattle.std.proofs.lemmas.List.{drop_more}
use Rattle.buffer_blocks.specs.declared.block.Block.{Block}
use Rattle.shader_slots.specs.Part.{part_of}
use Rattle.shader_slots.specs.Bound.{Bound, with_write}
use Rattle.vk_types.specs.declared.command.SlotName.{SlotName}
use Rattle.vk_types.specs.declared.command.SlotName.TheVariants as slot
use Rattle.vk_types.specs.declared.command.SlotRange.{SlotRange}
use Rattle.base_lemmas.specs.Lists.{Pairwise}
use Rattle.device_memory.specs.Held.{Held, block_of}
use Rattle.device_memory.specs.Writes.{bytes_if, exchanged}
use Rattle.device_memory.specs.Ranges.{AreApart, CanBind, is_writable}
use Rattle.device_memory.specs.Binding.{CanRead, given_one, given, taken_one, taken}
use Rattle.device_memory.proofs.Exchanges.{block_other}
use Rattle.device_memory.proofs.Placed.{all_of_both}
use Rattle.device_memory.proofs.Stored.{spares_behind}

pub all_at : {A : Type 0} (P : A → Type 0) (xs : List A) → AllByRecursion P xs → (i : ℕ) (d : A) → i < length xs → P (get_or xs i d)
all_at P [] all i d lt = absurd (omega (arith, lt))
all_at P (x ∷ xs) all zero d lt = all.0
all_at P (x ∷ xs) all (suc i) d lt = all_at P xs all.1 i d (omega (arith, lt))

pairwise_drop : {A : Type 0} (R : A → A → Type 0) (xs : List A) → Pairwise R xs → (i : ℕ) → Pairwise R (drop i xs)
pairwise_drop R xs all zero = all
pairwise_drop R [] all (suc i) = all
pairwise_drop R (x ∷ xs) all (suc i) = pairwise_drop R xs all.1 i

-- ---- parts that are read

pub reads_constant : (es : Held) (s : SlotRange) (n : SlotName) (i : ℕ) → CanRead es n s → n ≡ slot.Constant i → CanBind es s
reads_constant es s (slot.Constant j) i h e = h
reads_constant es s (slot.Srv j) i h e = h
reads_constant es s (slot.Uav j) i h e = absurd (cc e)

pub reads_srv : (es : Held) (s : SlotRange) (n : SlotName) (i : ℕ) → CanRead es n s → n ≡ slot.Srv i → CanBind es s
reads_srv es s (slot.Constant j) i h e = h
reads_srv es s (slot.Srv j) i h e = h
reads_srv es s (slot.Uav j) i h e = absurd (cc e)

-- ---- parts that are written

-- what the slots that are left make of what there is
pub record TakesOn (first : Held) (start : Bound) (ss left : List SlotRange) (cur : Held) (b : Bound) : Type 0 where
  pub blocks : taken left cur ≡ taken ss first
  pub bound : given first left b ≡ given first ss start
  pub kept : AllByRecursion (λ s. block_of cur s.range.block ≡ block_of first s.range.block) left

module _ (first : Held) (start : Bound) (ss : List SlotRange) (i : ℕ) (d : SlotRange) (cur : Held) (b : Bound) (lt : i < length ss) (apart : Pairwise AreApart ss) where
  abbrev here : SlotRange
  here = get_or ss i d

  abbrev behind : List SlotRange
  behind = drop (i + 1) ss

  cut : drop i ss ≡ here ∷ behind
  cut = drop_more ss i d lt

  on_here : TakesOn first start ss (drop i ss) cur b → TakesOn first start ss (here ∷ behind) cur b
  on_here on = subst (λ (l : List SlotRange). TakesOn first start ss l cur b) cut on

  apart_here : Pairwise AreApart (here ∷ behind)
  apart_here = subst (Pairwise AreApart) cut (pairwise_drop AreApart ss apart i)

  -- the block of the slot is as it was
  pub block_kept : TakesOn first start ss (drop i ss) cur b → block_of cur here.range.block ≡ block_of first here.range.block
  block_kept on = (on_here on).kept.0

  -- a slot that may be written: its block's bytes leave
  pub take_more : (j : ℕ) → here.slot ≡ slot.Uav j → TakesOn first start ss (drop i ss) cur b → (next : Held) (more : Bound) → next ≡ exchanged here.range.block [] cur
      → more ≡ with_write j (Some (part_of (bytes_if (block_of cur here.range.block)) here.range.from here.range.to)) b → TakesOn first start ss behind next more
  take_more j is on next more left bound = record {
    blocks = ap (taken behind) (left ∙ ap (λ (n : SlotName). taken_one n here.range cur) (sym is)) ∙ (on_here on).blocks;
    bound =
        ap (given first behind)
        (bound
        ∙ ap (λ (o : Option Block). with_write j (Some (part_of (bytes_if o) here.range.from here.range.to)) b) (block_kept on)
        ∙ ap (λ (n : SlotName). given_one first n here.range b) (sym is))
        ∙ (on_here on).bound;
    kept = all_of_both _ _ (λ s. block_of next s.range.block ≡ block_of first s.range.block)
        (λ t spares same. ap (λ (l : Held). block_of l t.range.block) left ∙ block_other here.range.block [] t.range.block (λ e. spares (ap is_writable is) (sym e)) cur ∙ same)
        behind (spares_behind here behind apart_here.0) (on_here on).kept.1;
  }

  -- a slot that is only read
  pub pass_more : is_writable here.slot ≡ false → TakesOn first start ss (drop i ss) cur b → TakesOn first start ss behind cur b
  pass_more reads on = record {
    blocks = ap (taken behind) (sym (one here.slot reads)) ∙ (on_here on).blocks;
    bound = ap (given first behind) (sym (two here.slot reads)) ∙ (on_here on).bound;
    kept = (on_here on).kept.1;
  }
    where
      one : (n : SlotName) → is_writable n ≡ false → taken_one n here.range cur ≡ cur
      one (slot.Constant k) e = refl
      one (slot.Srv k) e = refl
      one (slot.Uav k) e = absurd (cc e)

      two : (n : SlotName) → is_writable n ≡ false → given_one first n here.range b ≡ b
      two (slot.Constant k) e = refl
      two (slot.Srv k) e = refl
      two (slot.Uav k) e = absurd (cc e)
