-- A completion's copies have the bytes that all batches make in order.
use Rattle.std.proofs.Common.{◌≡◌, ℕ, ◌+◌, Bool, true, false, cond, ◌&&◌, ◌||◌, nat_le, List, [], ◌∷◌, ◌++◌, length, Option, Some, None, inl, inr, refl, sym, ap, subst, ◌∙◌, append_assoc}
use Rattle.std.specs.Prelude.{◌==◌, nat_lt, slice_range}
use Rattle.std.specs.List.{AllByRecursion, cons_option, filter_map, list_any}
use Rattle.std.proofs.lemmas.Bool.{and_parts, both_ways, cases_Bool, leb-true, or_parts}
use Rattle.dx_types.specs.declared.range.Range.{Range}
use Rattle.buffer_blocks.specs.declared.block.Block.{Block}
use Rattle.buffer_blocks.specs.Block.{bytes_of}
use Rattle.vk_types.specs.declared.command.Command as c
use Rattle.vk_types.specs.declared.message.Completion.{Completion}
use Rattle.vk_types.specs.declared.message.Snap.{Snap}
use Rattle.vk_types.specs.declared.op.VkOp.{VkOp}
use Rattle.vk_types.specs.declared.op.VkOp.TheVariants as op
use Rattle.vk_types.specs.declared.touch.Touch.{Touch}
use Rattle.vk_types.specs.Effects.{Meaning, effect}
use Rattle.vk_types.specs.Hazards.{is_touched, is_written, touches}
use Rattle.vk_types.specs.Listing.{op_touches}
use Rattle.vk_types.specs.Memory.{Memory, byte_of, number_at}
use Rattle.vk_types.proofs.Acts.{effect_local}
use Rattle.vk_types.proofs.Local.{written_touched}
use Rattle.device_memory.specs.Held.{HasPart, IsHeld, block_of, memory_of}
use Rattle.device_memory.specs.Writes.{bytes_if}
use Rattle.device_memory.proofs.RangeBytes.{range_byte}
use Rattle.command_queue.specs.declared.queue.Listed.{Listed}
use Rattle.command_queue.specs.Left.{left, left_op, run_commands}
use Rattle.command_queue.specs.Readiness.{touches_block}
use Rattle.vk_device.specs.Completing.{Completes, copy_of, is_used, names_block, snap_of}
use Rattle.vk_device.specs.State.{State}
use Rattle.device_laws.specs.InOrder.{IsCopyIn, LeadsTo}
use Rattle.device_laws.proofs.InOrder.{left_same}

-- Blocks that no command touches -----------------------------------------------------------------------------------------------

none_covers : (ts : List Touch) (block at : ℕ) → list_any (λ (t : Touch). t.range.block == block) ts ≡ false → is_touched ts block at ≡ false
none_covers [] block at none = refl
none_covers (t ∷ ts) block at none =
    let p = or_parts (t.range.block == block) (list_any (λ (t : Touch). t.range.block == block) ts) none in
    ap (λ v. (v && (nat_le t.range.from at && nat_lt at t.range.to)) || is_touched ts block at) p.0 ∙ none_covers ts block at p.1

abbrev Keeps : ℕ → c.Command → Type 0
Keeps block d = (at : ℕ) → is_touched (touches d) block at ≡ false

keep_op : (o : VkOp) (ran : Bool) (block : ℕ) → list_any (λ (t : Touch). t.range.block == block) (op_touches o) ≡ false → AllByRecursion (Keeps block) (left_op o ran)
keep_op (op.HostWrite r call) ran block none = tt
keep_op (op.Pipeline shader) ran block none = tt
keep_op (op.Barrier barrier) ran block none = tt
keep_op (op.Command d) true block none = tt
keep_op (op.Command d) false block none = ((λ at. none_covers (touches d) block at none), tt)
keep_op (op.Submit k) ran block none = tt
keep_op (op.Fence k) ran block none = tt
keep_op (op.HostRead r call) ran block none = tt

both_all : (P : c.Command → Type 0) (xs ys : List c.Command) → AllByRecursion P xs → AllByRecursion P ys → AllByRecursion P (xs ++ ys)
both_all P [] ys h k = k
both_all P (x ∷ xs) ys h k = (h.0, both_all P xs ys h.1 k)

all_keep : (block : ℕ) (steps : List Listed) → list_any (touches_block block) steps ≡ false → AllByRecursion (Keeps block) (left steps)
all_keep block [] none = tt
all_keep block (s ∷ ss) none =
    let p = or_parts (touches_block block s) (list_any (touches_block block) ss) none in
    both_all (Keeps block) (left_op s.op s.ran) (left ss) (keep_op s.op s.ran block p.0) (all_keep block ss p.1)

kept_by_one : (meaning : Meaning) (d : c.Command) (block at : ℕ) → Keeps block d → (m : Memory) → effect meaning d m block at ≡ m block at
kept_by_one meaning d block at keeps m = (effect_local meaning d).keeps m block at (elim (cases_Bool (is_written (touches d) block at)) [
  | inl wrote ↦ absurd (both_ways (is_touched (touches d) block at) (keeps at) (written_touched (touches d) block at wrote))
  | inr kept ↦ kept
])

kept_by_all : (meaning : Meaning) (ds : List c.Command) (block at : ℕ) → AllByRecursion (Keeps block) ds → (m : Memory) → run_commands meaning ds m block at ≡ m block at
kept_by_all meaning [] block at keep m = refl
kept_by_all meaning (d ∷ ds) block at keep m = kept_by_all meaning ds block at keep.1 (effect meaning d m) ∙ kept_by_one meaning d block at keep.0 m

-- Copies -----------------------------------------------------------------------------------------------------------------------

abbrev IfSnap : (Snap → Type 0) → Option Snap → Type 0
IfSnap P None = Unit {0}
IfSnap P (Some snap) = P snap

all_snaps : (P : Snap → Type 0) (h : Range → Option Snap) (front rs all : List Range) → all ≡ front ++ rs
    → ((front : List Range) (r : Range) (back : List Range) → all ≡ front ++ r ∷ back → IfSnap P (h r)) → AllByRecursion P (filter_map h rs)
all_snaps P h front [] all e f = tt
all_snaps P h front (r ∷ rs) all e f = by (h r) (f front r rs e) (all_snaps P h (front ++ r ∷ []) rs all (e ∙ sym (append_assoc front (r ∷ []) rs)) f)
  where
    by : (o : Option Snap) → IfSnap P o → AllByRecursion P (filter_map h rs) → AllByRecursion P (cons_option o (filter_map h rs))
    by None one others = others
    by (Some snap) one others = (one, others)

module _ (meaning : Meaning) (done : Completion) (old new : State) (m : Memory) (leads : LeadsTo meaning old m) (c : Completes old done new) where
  -- a byte of a block that no later batch uses
  unused : (block at : ℕ) → is_used block new.batches new.steps ≡ false → memory_of old.held block at ≡ m block at
  unused block at free =
      let p = or_parts (list_any (names_block block) new.batches) (list_any (touches_block block) new.steps) free in
      sym (kept_by_all meaning (left new.steps) block at (all_keep block new.steps p.1) (memory_of old.held))
      ∙ ap (λ l. run_commands meaning l (memory_of old.held) block at) (left_same done old new c)
      ∙ ap (λ (x : Memory). x block at) leads.bytes

  same_bytes : (r : Range) → is_used r.block new.batches new.steps ≡ false → (k : ℕ) → byte_of (memory_of old.held) r k ≡ byte_of m r k
  same_bytes r free k = ap (λ x. cond (nat_lt (r.from + k) r.to) x 0) (unused r.block (r.from + k) free)

  module _ (front : List Range) (r : Range) (back : List Range) (listed : c.batch.staging.items ≡ front ++ r ∷ back) where
    abbrev Copied : Option Snap → Type 0
    Copied o = IfSnap (IsCopyIn m c.batch.staging.items) o

    within : (b : Block) (free : is_used r.block new.batches new.steps ≡ false) → block_of old.held r.block ≡ Some b → (t : Bool) → (nat_le r.from r.to && nat_le r.to (length (bytes_of b))) ≡ t
        → Copied (cond t (Some (record { block = r.block; bytes = slice_range (bytes_of b) r.from r.to })) None)
    within b free is false e = tt
    within b free is true e =
        let p = and_parts (nat_le r.from r.to) (nat_le r.to (length (bytes_of b))) e in
        let held : IsHeld old.held r = subst (λ o. HasPart o r.from r.to) (sym is) (leb-true r.from r.to p.0, leb-true r.to (length (bytes_of b)) p.1) in
        record {
          front = front;
          range = r;
          back = back;
          listed = listed;
          block = refl;
          bytes = λ k. ap (λ o. number_at (slice_range (bytes_if o) r.from r.to) k) (sym is) ∙ range_byte r old.held held k ∙ same_bytes r free k;
        }

    free_copy : (free : is_used r.block new.batches new.steps ≡ false) (o : Option Block) → block_of old.held r.block ≡ o → Copied (copy_of r o)
    free_copy free None is = tt
    free_copy free (Some b) is = within b free is (nat_le r.from r.to && nat_le r.to (length (bytes_of b))) refl

    one_copy : (used : Bool) → is_used r.block new.batches new.steps ≡ used → Copied (cond used None (copy_of r (block_of old.held r.block)))
    one_copy true e = tt
    one_copy false e = free_copy e (block_of old.held r.block) refl

  pub copies_in_order : AllByRecursion (IsCopyIn m c.batch.staging.items) done.snaps.items
  copies_in_order =
      subst (AllByRecursion (IsCopyIn m c.batch.staging.items)) (sym c.snaps)
      (all_snaps (IsCopyIn m c.batch.staging.items) (snap_of (block_of old.held) new.batches new.steps) [] c.batch.staging.items c.batch.staging.items refl
      (λ front r back listed. one_copy front r back listed (is_used r.block new.batches new.steps) refl))
