-- Copies, by the blocks that they read and write.
use Rattle.std.proofs.Common.{◌≡◌, ℕ, ◌+◌, ◌-◌, ◌<◌, ◌≤◌, Bool, true, false, cond, nat_lt, List, [], ◌∷◌, Option, Some, None, refl, sym, ap, subst, ◌∙◌, arith, Bor, Ordering, Less, Equal, Greater}
use mathlib.Core.Path.{fun_ext}
use Rattle.std.specs.Prelude.{IfSome, slice_range}
use Rattle.std.specs.List.{AllByRecursion}
use Rattle.std.specs.Option.{option_copied}
use Rattle.std.specs.Ordering.{nat_cmp, match_ordering}
use Rattle.std.specs.Map.{remove_entry}
use Rattle.std.specs.BTreeMap.{insert_entry}
use Rattle.std.proofs.lemmas.Map.Lookups.{exact_unsigned}
use Rattle.std.proofs.lemmas.Bool.{cond-true, lt-ltb, ltb-true, leb-true, and_parts}
use Rattle.dx_types.specs.declared.range.Range.{Range}
use Rattle.buffer_blocks.specs.declared.block.Block.{Block}
use Rattle.buffer_blocks.specs.Block.{bytes_of}
use Rattle.vk_types.specs.Memory.{byte_of, number_at, put}
use Rattle.device_memory.specs.Held.{Held, HasPart, IsHeld, AreAlike, IsNumbered, block_of, byte_at, memory_of}
use Rattle.device_memory.specs.Writes.{IsPut, IsPutIn, is_within, bytes_if, exchanged}
use Rattle.device_memory.specs.Binding.{bytes_in}
use Rattle.device_memory.proofs.Exchanges.{alike_exchanged, block_other, exchanged_twice, numbered_block, put_exchanged}
use Rattle.device_memory.proofs.RangeBytes.{range_byte}

-- ---- blocks that are there

pub some_block : (o : Option Block) (from to : ℕ) → HasPart o from to → (b : Block) × (Some b ≡ o)
some_block None from to h = absurd h
some_block (Some b) from to h = (b, refl)

pub numbered_ref : (es : Held) (n : ℕ) (o : Option (Bor Block)) → option_copied o ≡ block_of es n → AllByRecursion IsNumbered es → IfSome o (λ b. b.now.number ≡ n)
numbered_ref es n None e all = tt
numbered_ref es n (Some b) e all = numbered_block n b.now es all e

pub numbered_removed : (test : ℕ → Bool) (es : Held) → AllByRecursion IsNumbered es → AllByRecursion IsNumbered (remove_entry test es)
numbered_removed test [] all = all
numbered_removed test (e ∷ es) all = by (numbered_removed test es all.1) (test e.0)
  where
    by : AllByRecursion IsNumbered (remove_entry test es) → (t : Bool) → AllByRecursion IsNumbered (cond t es (e ∷ remove_entry test es))
    by later true = all.1
    by later false = (all.0, later)

pub numbered_inserted : (b : Block) (es : Held) → AllByRecursion IsNumbered es → AllByRecursion IsNumbered (insert_entry nat_cmp es b.number b)
numbered_inserted b [] all = (refl, tt)
numbered_inserted b (e ∷ es) all = by (numbered_inserted b es all.1) (nat_cmp b.number e.0) refl
  where
    by : AllByRecursion IsNumbered (insert_entry nat_cmp es b.number b) → (o : Ordering) → nat_cmp b.number e.0 ≡ o → AllByRecursion IsNumbered (match_ordering o ((b.number, b) ∷ e ∷ es) ((e.0, b) ∷ es) (e ∷ insert_entry nat_cmp es b.number b))
    by later Less is = (refl, all)
    by later Equal is = (sym (exact_unsigned b.number e.0 is), all.1)
    by later Greater is = (all.0, later)

-- ---- pieces

-- only the part of the piece that is written counts
pub as_piece : (from to : ℕ) (p q : ℕ → ℕ) (old new : List ℕ) → ((k : ℕ) → k < to - from → p k ≡ q k) → IsPut from to p old new → IsPut from to q old new
as_piece from to p q old new same is = record { size = is.size; bytes = λ at. is.bytes at ∙ by at (is_within from to at) refl }
  where
    by : (at : ℕ) (t : Bool) → is_within from to at ≡ t → cond t (p (at - from)) (number_at old at) ≡ cond t (q (at - from)) (number_at old at)
    by at true e =
        let parts = and_parts _ _ e in
        let low : from ≤ at = leb-true from at parts.0 in
        let high : at < to = ltb-true at to parts.1 in
        same (at - from) (omega (arith, low, high))
    by at false e = refl

-- the bytes of a range that lies in this block
pub moved_piece : (es : Held) (r : Range) (b : Block) → Some b ≡ block_of es r.block → (k : ℕ) → k < r.to - r.from → number_at (bytes_of b) (r.from + k) ≡ byte_of (memory_of es) r k
moved_piece es r b some k lt =
    ap (λ (o : Option Block). byte_at o (r.from + k)) some
    ∙ sym (cond-true (nat_lt (r.from + k) r.to) (byte_at (block_of es r.block) (r.from + k)) 0 (lt-ltb (r.from + k) r.to (omega (arith, lt))))

pub moved_in : (es : Held) (source target : Range) (old new : Block) → source.block ≡ target.block → source.to - source.from ≡ target.to - target.from → Some old ≡ block_of es target.block
    → IsPutIn target.from target.to (λ k. number_at (bytes_of old) (source.from + k)) old new → IsPutIn target.from target.to (byte_of (memory_of es) source) old new
moved_in es source target old new same size some is = record {
  rest = is.rest;
  bytes = as_piece target.from target.to (λ k. number_at (bytes_of old) (source.from + k)) (byte_of (memory_of es) source) (bytes_of old) (bytes_of new)
      (λ k lt. moved_piece es source old (some ∙ ap (block_of es) (sym same)) k (omega (arith, lt, size))) is.bytes;
}

-- ---- from one block to another

module _ (es mid last : Held) (source target : Range) (bytes piece now : List ℕ) (apart : source.block ≡ target.block → ⊥)
    (reads : IsHeld es source) (writes : IsHeld es target) (left : mid ≡ exchanged target.block [] es) (had : bytes ≡ bytes_if (block_of es target.block)) where
  source_same : block_of mid source.block ≡ block_of es source.block
  source_same = ap (λ (l : Held). block_of l source.block) left ∙ block_other target.block [] source.block apart es

  pub source_held : IsHeld mid source
  source_held = subst (λ (o : Option Block). HasPart o source.from source.to) (sym source_same) reads

  module _ (read : piece ≡ bytes_in mid source) (is : IsPut target.from target.to (number_at piece) bytes now) (back : last ≡ exchanged target.block now mid) where
    found : (b : Block) × (Some b ≡ block_of es target.block)
    found = some_block (block_of es target.block) target.from target.to writes

    last_is : last ≡ exchanged target.block now es
    last_is = back ∙ ap (exchanged target.block now) left ∙ exchanged_twice target.block now [] es

    piece_is : number_at piece ≡ byte_of (memory_of es) source
    piece_is =
        ap number_at read
        ∙ ap (λ (o : Option Block). number_at (slice_range (bytes_if o) source.from source.to)) source_same
        ∙ fun_ext (λ k. range_byte source es reads k)

    put_is : IsPut target.from target.to (byte_of (memory_of es) source) (bytes_of found.0) now
    put_is =
        let old : bytes ≡ bytes_of found.0 = had ∙ ap bytes_if (sym found.1) in
        subst (λ (bs : List ℕ). IsPut target.from target.to (byte_of (memory_of es) source) bs now) old
        (subst (λ (p : ℕ → ℕ). IsPut target.from target.to p bytes now) piece_is is)

    pub across_memory : memory_of last ≡ put target (byte_of (memory_of es) source) (memory_of es)
    across_memory = ap memory_of last_is ∙ put_exchanged es target (byte_of (memory_of es) source) found.0 now found.1 put_is

    pub across_alike : AreAlike es last
    across_alike = subst (AreAlike es) (sym last_is) (alike_exchanged target.block now found.0 es found.1 put_is.size)
