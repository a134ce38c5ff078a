-- What is left of a device's commands, run in order, completes what it holds.
use Rattle.std.proofs.Common.{◌≡◌, ℕ, ◌-◌, Bool, true, false, cond, ◌&&◌, ◌||◌, nat_le, List, [], ◌∷◌, ◌++◌, length, map, take, drop, Option, Some, None, inl, inr, refl, sym, ap, subst, ◌∙◌, arith}
use Rattle.std.specs.Prelude.{◌==◌, nat_lt, zero, suc}
use mathlib.Core.Path.{fun_ext}
use Rattle.std.specs.List.{list_any}
use Rattle.std.proofs.lemmas.Bool.{both_ways, cases_Bool, cases_eq, cases_lt, cond-true, cond-false, eq-eqb, ne_eqb}
use Rattle.std.proofs.lemmas.List.{take-append-drop}
use Rattle.std.proofs.lemmas.List.Folds.{list_any-append}
use Rattle.buffer_blocks.specs.declared.block.Block.{Block}
use Rattle.buffer_blocks.specs.Block.{bytes_of}
use Rattle.dx_types.specs.declared.range.Range.{Range}
use Rattle.vk_types.specs.declared.command.Command as c
use Rattle.vk_types.specs.declared.message.Batch.{Batch}
use Rattle.vk_types.specs.declared.message.Completion.{Completion}
use Rattle.vk_types.specs.declared.message.HostPart.{HostPart}
use Rattle.vk_types.specs.Before.{op_orders}
use Rattle.vk_types.specs.Effects.{Meaning, effect}
use Rattle.vk_types.specs.Hazards.{is_touched, is_written, touches}
use Rattle.vk_types.specs.Locality.{EndsAlike, is_read}
use Rattle.vk_types.specs.Memory.{Memory, number_at, put, zeros}
use Rattle.vk_types.proofs.Acts.{effect_local}
use Rattle.vk_types.proofs.Local.{covered, read_touched, written_touched}
use Rattle.core_model.proofs.Steps.Padding.{past_end}
use Rattle.device_memory.specs.Held.{block_of, byte_at, memory_of}
use Rattle.command_queue.specs.declared.queue.Listed.{Listed}
use Rattle.command_queue.specs.Left.{GuardsFrom, HazardsHold, LeftApart, left, marked, put_all, run_commands}
use Rattle.command_queue.specs.Readiness.{fresh, ops_of}
use Rattle.command_queue.proofs.Laws.{come_behind, hazards_marked, left-append, run_first}
use Rattle.command_queue.proofs.Ready.{ready_at}
use Rattle.vk_device.specs.Accepting.{Accepts, Blocks, IsNext, NoneHeld, can_accept, with_block, with_blocks, written, zeroed}
use Rattle.vk_device.specs.Completing.{Completes, released, without, without_all}
use Rattle.vk_device.specs.Running.{Runs}
use Rattle.vk_device.specs.State.{State, no_state}
use Rattle.vk_device.proofs.Taking.{blocks_free, others_free}
use Rattle.device_laws.specs.Holding.{is_among}
use Rattle.device_laws.specs.InOrder.{AreOrdered, DoesAsMeant, LeadsTo, Spare, after_batch, gone_with, host_bytes, part_in, whole, without_blocks}
use Rattle.device_laws.specs.Standing.{Stands, commands_in, ops_in}
use Rattle.device_laws.proofs.Lists.{fresh-append, left_none, ops-append}
use Rattle.device_laws.proofs.Standing.{stands_accepted}

-- Bytes of blocks --------------------------------------------------------------------------------------------------------------

abbrev memory_in : Blocks → Memory
memory_in blocks = λ block at. byte_at (blocks block) at

zero_either : (t : Bool) (x y : ℕ) → x ≡ 0 → y ≡ 0 → cond t x y ≡ 0
zero_either true x y e f = e
zero_either false x y e f = f

module _ (b : Block) (blocks : Blocks) (none : blocks b.number ≡ None) where
  here : (block at : ℕ) → block ≡ b.number → number_at (bytes_of b) at ≡ put (whole b).0 (number_at (bytes_of b)) (memory_in blocks) block at
  here block at same = elim (cases_lt at (length (bytes_of b))) [
    | inl lt ↦
        ap (number_at (bytes_of b)) (let e : at ≡ at - 0 = omega arith in e)
        ∙ sym (ap (λ v. cond v (number_at (bytes_of b) (at - 0)) (byte_at (blocks block) at)) (covered (whole b).0 block at (sym same) (omega arith) lt))
    | inr ge ↦
        past_end (bytes_of b) at ge
        ∙ sym (zero_either _ (number_at (bytes_of b) (at - 0)) (byte_at (blocks block) at) (past_end (bytes_of b) (at - 0) (omega (arith, ge)))
        (ap (λ o. byte_at o at) (ap blocks same ∙ none)))
  ]

  at_one : (block at : ℕ) → memory_in (with_block b blocks) block at ≡ put (whole b).0 (number_at (bytes_of b)) (memory_in blocks) block at
  at_one block at = elim (cases_eq block b.number) [
    | inl same ↦ ap (λ v. byte_at (cond v (Some b) (blocks block)) at) (eq-eqb block b.number same) ∙ here block at same
    | inr apart ↦
        ap (λ v. byte_at (cond v (Some b) (blocks block)) at) (ne_eqb block b.number apart)
        ∙ sym (ap (λ v. cond (v && (nat_le 0 at && nat_lt at (length (bytes_of b)))) (number_at (bytes_of b) (at - 0)) (byte_at (blocks block) at)) (ne_eqb b.number block (λ e. apart (sym e))))
  ]

  one_brought : memory_in (with_block b blocks) ≡ put (whole b).0 (number_at (bytes_of b)) (memory_in blocks)
  one_brought = fun_ext (λ block. fun_ext (λ at. at_one block at))

all_brought : (bs : List Block) (blocks : Blocks) → NoneHeld bs blocks → memory_in (with_blocks bs blocks) ≡ put_all (map whole bs) (memory_in blocks)
all_brought [] blocks none = refl
all_brought (b ∷ bs) blocks none = all_brought bs (with_block b blocks) none.1 ∙ ap (put_all (map whole bs)) (one_brought b blocks none.0)

put-append : (xs ys : List (Range × List ℕ)) (m : Memory) → put_all (xs ++ ys) m ≡ put_all ys (put_all xs m)
put-append [] ys m = refl
put-append (x ∷ xs) ys m = put-append xs ys (put x.0 (number_at x.1) m)

parts_put : (log : List ℕ) (hs : List HostPart) (m : Memory) → written log hs m ≡ put_all (map (part_in log) hs) m
parts_put log [] m = refl
parts_put log (h ∷ hs) m = parts_put log hs (put h.range (number_at (part_in log h).1) m)

-- Hazards ----------------------------------------------------------------------------------------------------------------------

any_fresh : (d e : c.Command) (xs : List Listed) → list_any (λ (b : Listed). op_orders d e b.op) xs ≡ list_any (λ (b : Listed). op_orders d e b.op) (map fresh (ops_of xs))
any_fresh d e [] = refl
any_fresh d e (x ∷ xs) = ap (λ v. op_orders d e x.op || v) (any_fresh d e xs)

fresh_push : (xs : List Listed) (t : Listed) → map fresh (ops_of (xs ++ t ∷ [])) ≡ map fresh (ops_of xs) ++ fresh t.op ∷ []
fresh_push xs t = ap (map fresh) (ops-append xs (t ∷ [])) ∙ fresh-append (ops_of xs) (t.op ∷ [])

guards_hold : (s : Listed) (between ts : List Listed) → GuardsFrom (fresh s.op) (map fresh (ops_of between)) (map fresh (ops_of ts)) → GuardsFrom s between ts
guards_hold s between [] h = tt
guards_hold s between (t ∷ ts) h = (
  (λ d e is was t_is t_left k. any_fresh d e between ∙ h.0 d e is refl t_is refl k),
  guards_hold s (between ++ t ∷ []) ts (subst (λ l. GuardsFrom (fresh s.op) l (map fresh (ops_of ts))) (sym (fresh_push between t)) h.1),
)

-- what holds of commands before any was run holds later
hazards_hold : (steps : List Listed) → AreOrdered (ops_of steps) → HazardsHold steps
hazards_hold [] h = tt
hazards_hold (s ∷ ss) h = (guards_hold s [] ss h.0, hazards_hold ss h.1)

hazards_dropped : (n : ℕ) (steps : List Listed) → HazardsHold steps → HazardsHold (drop n steps)
hazards_dropped zero steps h = h
hazards_dropped (suc n) [] h = tt
hazards_dropped (suc n) (s ∷ ss) h = hazards_dropped n ss h.1

-- Blocks that go ---------------------------------------------------------------------------------------------------------------

gone_one : (block at : ℕ) (blocks : Blocks) (t : Bool) → byte_at (cond t None (blocks block)) at ≡ cond (t || false) 0 (byte_at (blocks block) at)
gone_one block at blocks true = refl
gone_one block at blocks false = refl

gone_either : (t u : Bool) (x : ℕ) → cond u 0 (cond (t || false) 0 x) ≡ cond (t || u) 0 x
gone_either true true x = refl
gone_either true false x = refl
gone_either false true x = refl
gone_either false false x = refl

all_gone : (ns : List ℕ) (blocks : Blocks) → memory_in (without_all ns blocks) ≡ without_blocks ns (memory_in blocks)
all_gone [] blocks = refl
all_gone (n ∷ ns) blocks =
    all_gone ns (without n blocks)
    ∙ fun_ext (λ block. fun_ext (λ at. ap (cond (is_among block ns) 0) (gone_one block at blocks (block == n)) ∙ gone_either (block == n) (is_among block ns) (byte_at (blocks block) at)))

both_gone : (t u : Bool) (x : ℕ) → cond u 0 (cond t 0 x) ≡ cond (t || u) 0 x
both_gone true true x = refl
both_gone true false x = refl
both_gone false true x = refl
both_gone false false x = refl

without-append : (xs ys : List ℕ) (m : Memory) → without_blocks ys (without_blocks xs m) ≡ without_blocks (xs ++ ys) m
without-append xs ys m =
    fun_ext (λ block. fun_ext (λ at. both_gone (is_among block xs) (is_among block ys) (m block at)
    ∙ ap (λ v. cond v 0 (m block at)) (sym (list_any-append (λ (n : ℕ). block == n) xs ys))))

module _ (meaning : Meaning) (d : c.Command) (ns : List ℕ) (spares : (block at : ℕ) → is_among block ns ≡ true → is_touched (touches d) block at ≡ false) (m : Memory) where
  not_read : (block at : ℕ) → is_read (touches d) block at ≡ true → is_among block ns ≡ false
  not_read block at read = elim (cases_Bool (is_among block ns)) [
    | inl among ↦ absurd (both_ways (is_touched (touches d) block at) (spares block at among) (read_touched (touches d) block at read))
    | inr apart ↦ apart
  ]

  not_changed : (block at : ℕ) → is_among block ns ≡ true → is_written (touches d) block at ≡ false
  not_changed block at among = elim (cases_Bool (is_written (touches d) block at)) [
    | inl wrote ↦ absurd (both_ways (is_touched (touches d) block at) (spares block at among) (written_touched (touches d) block at wrote))
    | inr kept ↦ kept
  ]

  stays : (block at : ℕ) → is_among block ns ≡ false → without_blocks ns m block at ≡ m block at
  stays block at apart = cond-false (is_among block ns) 0 (m block at) apart

  alike : (block at : ℕ) → is_among block ns ≡ false → EndsAlike (effect meaning d) m (without_blocks ns m) block at
      → effect meaning d (without_blocks ns m) block at ≡ effect meaning d m block at
  alike block at apart (inl same) = sym same
  alike block at apart (inr kept) = kept.1 ∙ stays block at apart ∙ sym kept.0

  at_spared : (block at : ℕ) → effect meaning d (without_blocks ns m) block at ≡ without_blocks ns (effect meaning d m) block at
  at_spared block at = elim (cases_Bool (is_among block ns)) [
    | inl among ↦
        (effect_local meaning d).keeps (without_blocks ns m) block at (not_changed block at among)
        ∙ cond-true (is_among block ns) 0 (m block at) among ∙ sym (cond-true (is_among block ns) 0 (effect meaning d m block at) among)
    | inr apart ↦
        alike block at apart ((effect_local meaning d).reads m (without_blocks ns m) (λ b i read. sym (stays b i (not_read b i read))) block at)
        ∙ sym (cond-false (is_among block ns) 0 (effect meaning d m block at) apart)
  ]

  one_spared : effect meaning d (without_blocks ns m) ≡ without_blocks ns (effect meaning d m)
  one_spared = fun_ext (λ block. fun_ext (λ at. at_spared block at))

all_spared : (meaning : Meaning) (ds : List c.Command) (ns : List ℕ) → Spare ds ns → (m : Memory) → run_commands meaning ds (without_blocks ns m) ≡ without_blocks ns (run_commands meaning ds m)
all_spared meaning [] ns spare m = refl
all_spared meaning (d ∷ ds) ns spare m = ap (run_commands meaning ds) (one_spared meaning d ns spare.0 m) ∙ all_spared meaning ds ns spare.1 (effect meaning d m)

-- What is left -----------------------------------------------------------------------------------------------------------------

pub leads_first : (meaning : Meaning) → LeadsTo meaning no_state zeros
leads_first meaning = record { hazards = tt; bytes = refl }

module _ (meaning : Meaning) (log : List ℕ) (batches : List Batch) (completed : ℕ) (b : Batch) (old new : State) (m : Memory) (s : Stands batches completed old) (leads : LeadsTo meaning old m)
    (room : can_accept old b.blocks.items b.pages.items ≡ true) (is : IsNext log b old) (a : Accepts log b old new) where
  before : memory_of a.before ≡ put_all (map whole b.pages.items) (put_all (map whole (map zeroed b.blocks.items)) (memory_of old.held))
  before =
      ap memory_in a.blocks
      ∙ all_brought b.pages.items (with_blocks (map zeroed b.blocks.items) (block_of old.held)) (others_free old b.blocks.items b.pages.items room is.apart)
      ∙ ap (put_all (map whole b.pages.items)) (all_brought (map zeroed b.blocks.items) (block_of old.held) (blocks_free old b.blocks.items b.pages.items room is.apart))

  memory : memory_of new.held ≡ put_all (host_bytes log b) (memory_of old.held)
  memory =
      a.memory ∙ ap (written log b.writes.items) before
      ∙ parts_put log b.writes.items (put_all (map whole b.pages.items) (put_all (map whole (map zeroed b.blocks.items)) (memory_of old.held)))
      ∙ ap (put_all (map (part_in log) b.writes.items)) (sym (put-append (map whole (map zeroed b.blocks.items)) (map whole b.pages.items) (memory_of old.held)))
      ∙ sym (put-append (map whole (map zeroed b.blocks.items) ++ map whole b.pages.items) (map (part_in log) b.writes.items) (memory_of old.held))

  pub leads_accepted : AreOrdered (ops_in (drop completed (batches ++ b ∷ []))) → LeftApart (left old.steps) (host_bytes log b) → LeadsTo meaning new (after_batch meaning log b m)
  leads_accepted ordered apart = record {
    hazards = hazards_hold new.steps (subst AreOrdered (sym (stands_accepted log batches completed b old new s is a).steps) ordered);
    bytes =
        ap (λ l. run_commands meaning (left l) (memory_of new.held)) a.steps
        ∙ ap (run_commands meaning (left (old.steps ++ map fresh b.ops.items))) memory
        ∙ come_behind meaning old.steps (map fresh b.ops.items) (host_bytes log b) apart (memory_of old.held)
        ∙ ap (λ x. run_commands meaning (commands_in b.ops.items) (put_all (host_bytes log b) x)) leads.bytes;
  }

pub leads_run : (meaning : Meaning) (j : ℕ) (words : Option (List ℕ)) (old new : State) (m : Memory) → LeadsTo meaning old m → (r : Runs j words old new)
    → DoesAsMeant meaning words r.is.command → LeadsTo meaning new m
leads_run meaning j words old new m leads r does = record {
  hazards = subst HazardsHold (sym r.steps) (hazards_marked old.steps r.is.place leads.hazards);
  bytes =
      ap (λ l. run_commands meaning (left l) (memory_of new.held)) r.steps
      ∙ ap (run_commands meaning (left (marked r.is.place old.steps))) (r.memory ∙ does (memory_of old.held))
      ∙ run_first meaning old.steps leads.hazards r.is.place (ready_at old.steps j r.is.place r.is.is_place) r.is.command r.is.is_command (memory_of old.held)
      ∙ leads.bytes;
}

pub left_same : (done : Completion) (old new : State) (c : Completes old done new) → left new.steps ≡ left old.steps
left_same done old new c =
    ap left c.steps ∙ sym (ap (λ l. l ++ left (drop c.batch.count old.steps)) (left_none (take c.batch.count old.steps) c.all_ran))
    ∙ sym (left-append (take c.batch.count old.steps) (drop c.batch.count old.steps)) ∙ ap left (take-append-drop c.batch.count old.steps)

module _ (meaning : Meaning) (done : Completion) (old new : State) (m : Memory) (leads : LeadsTo meaning old m) (c : Completes old done new) where
  kept : memory_of new.held ≡ without_blocks (gone_with old c.batch) (memory_of old.held)
  kept =
      ap memory_in c.held ∙ all_gone (released c.batch.number old.marks) (without_all c.batch.pages.items (block_of old.held))
      ∙ ap (without_blocks (released c.batch.number old.marks)) (all_gone c.batch.pages.items (block_of old.held))
      ∙ without-append c.batch.pages.items (released c.batch.number old.marks) (memory_of old.held)

  pub leads_completed : Spare (left old.steps) (gone_with old c.batch) → LeadsTo meaning new (without_blocks (gone_with old c.batch) m)
  leads_completed spare = record {
    hazards = subst HazardsHold (sym c.steps) (hazards_dropped c.batch.count old.steps leads.hazards);
    bytes =
        ap (λ l. run_commands meaning l (memory_of new.held)) (left_same done old new c) ∙ ap (run_commands meaning (left old.steps)) kept
        ∙ all_spared meaning (left old.steps) (gone_with old c.batch) spare (memory_of old.held) ∙ ap (without_blocks (gone_with old c.batch)) leads.bytes;
  }
