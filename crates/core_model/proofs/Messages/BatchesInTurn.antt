-- What is made of messages, batch behind batch, is a listing of batches: each has the barriers that its hazards cause.
use Rattle.std.proofs.Common.{◌≡◌, ℕ, suc, ◌+◌, Bool, true, false, List, [], ◌∷◌, ◌++◌, length, take, refl, sym, ap}
use Rattle.std.proofs.Common.{◌∙◌, subst, Option, Some, None, arith, append_assoc, append-nil, length-append}
use mathlib.Core.Path.{fun_ext}
use Rattle.std.specs.List.{AllByRecursion}
use Rattle.dx_types.specs.declared.range.Range.{Range}
use Rattle.vk_types.specs.declared.command.Command.{Command}
use Rattle.vk_types.specs.declared.command.Cond.{Cond}
use Rattle.vk_types.specs.declared.message.Placed.{Placed}
use Rattle.vk_types.specs.declared.op.Barrier.{Barrier}
use Rattle.vk_types.specs.declared.op.VkOp.{VkOp}
use Rattle.vk_types.specs.declared.op.VkOp.TheVariants as op
use Rattle.vk_types.specs.BarrierCauses.{barrier_before, least_writer, host_barrier, maybe_barrier}
use Rattle.vk_types.specs.RunListing.{IsNumbered, IsWhole, IsRunListing}
use Rattle.base_lemmas.proofs.Lists.{all_append}
use Rattle.core_model.specs.Script.{Play, Create, Discard, No_overwrite, Stage, Command as Command_play, Destroy}
use Rattle.core_model.specs.Script.{Create_shader, Mark_query, Set_state, Turn, Refused, Passed, Flushed, Asked, Item}
use Rattle.core_model.specs.Script.{Script}
use Rattle.core_model.specs.Chunking.{chunk_turns}
use Rattle.core_model.specs.Batching.{Made, nothing_made, next_chunk, make_write, add_command, give_block, make_copy}
use Rattle.core_model.specs.Batching.{make_staged, make_play, first_place, other_places, make_turns, make_chunks}
use Rattle.core_model.specs.Batching.{made, batch_ops}
use Rattle.core_model.specs.BatchOrder.{barriers_by, IsBatchListing, ops_from, ops_of, staging_at}
use Rattle.core_model.specs.Listed.{ListState, after_op, after_ops, is_of_device}
use Rattle.core_model.proofs.Listing.Growing.{after_append, numbers_append, whole_append}
use Rattle.core_model.proofs.Listing.CoreListing.{batch_end, end_numbers, end_whole}
use Rattle.core_model.proofs.Listing.RunOrder.{steady_barriers}

-- One list behind another ---------------------------------------------------------------------------------------------

by_append : (staging : ℕ → ℕ → Bool) (s : ListState) (xs ys : List VkOp)
    → barriers_by staging s.recent s.batch (xs ++ ys)
    ≡ barriers_by staging s.recent s.batch xs ++ barriers_by staging (after_ops s xs).recent (after_ops s xs).batch ys
by_append staging s [] ys = refl
by_append staging s (op.HostWrite r call ∷ xs) ys = ap (λ l. op.HostWrite r call ∷ l) (by_append staging s xs ys)
by_append staging s (op.Pipeline shader ∷ xs) ys = ap (λ l. op.Pipeline shader ∷ l) (by_append staging s xs ys)
by_append staging s (op.Barrier barrier ∷ xs) ys = by_append staging s xs ys
by_append staging s (op.Command d ∷ xs) ys =
    let t = after_op s (op.Command d) in
    let l = barriers_by staging t.recent t.batch xs in
    let m = barriers_by staging (after_ops t xs).recent (after_ops t xs).batch ys in
    ap (λ l. maybe_barrier (barrier_before s.recent d) ++ op.Command d ∷ l) (by_append staging t xs ys)
    ∙ sym (append_assoc (maybe_barrier (barrier_before s.recent d)) (op.Command d ∷ l) m)
by_append staging s (op.Submit k ∷ xs) ys =
    let t = after_op s (op.Submit k) in
    let l = barriers_by staging t.recent t.batch xs in
    let m = barriers_by staging (after_ops t xs).recent (after_ops t xs).batch ys in
    ap (λ l. host_barrier (least_writer (staging k) s.batch) ++ op.Submit k ∷ l) (by_append staging t xs ys)
    ∙ sym (append_assoc (host_barrier (least_writer (staging k) s.batch)) (op.Submit k ∷ l) m)
by_append staging s (op.Fence k ∷ xs) ys = ap (λ l. op.Fence k ∷ l) (by_append staging s xs ys)
by_append staging s (op.HostRead r call ∷ xs) ys = ap (λ l. op.HostRead r call ∷ l) (by_append staging s xs ys)

device_numbers : (ops : List VkOp) → AllByRecursion (λ o. is_of_device o ≡ true) ops → (n : ℕ) → IsNumbered n ops
device_numbers [] h n = tt
device_numbers (op.HostWrite r call ∷ ops) h n = let z = h.0 in absurd (cc z)
device_numbers (op.Pipeline shader ∷ ops) h n = device_numbers ops h.1 n
device_numbers (op.Barrier barrier ∷ ops) h n = device_numbers ops h.1 n
device_numbers (op.Command d ∷ ops) h n = device_numbers ops h.1 n
device_numbers (op.Submit k ∷ ops) h n = let z = h.0 in absurd (cc z)
device_numbers (op.Fence k ∷ ops) h n = let z = h.0 in absurd (cc z)
device_numbers (op.HostRead r call ∷ ops) h n = device_numbers ops h.1 n

device_whole : (ops : List VkOp) → AllByRecursion (λ o. is_of_device o ≡ true) ops → (inside : Bool)
    → IsWhole inside ops
device_whole [] h inside = tt
device_whole (op.HostWrite r call ∷ ops) h inside = let z = h.0 in absurd (cc z)
device_whole (op.Pipeline shader ∷ ops) h inside = device_whole ops h.1 inside
device_whole (op.Barrier barrier ∷ ops) h inside = device_whole ops h.1 inside
device_whole (op.Command d ∷ ops) h inside = device_whole ops h.1 true
device_whole (op.Submit k ∷ ops) h inside = let z = h.0 in absurd (cc z)
device_whole (op.Fence k ∷ ops) h inside = let z = h.0 in absurd (cc z)
device_whole (op.HostRead r call ∷ ops) h inside = let z = h.0 in absurd (cc z)

-- A chunk's operations as its items make them -----------------------------------------------------------------------

-- a chunk begins behind these commands since the last barrier
abbrev begun : List Command → ℕ → ListState
begun recent k = record { recent = recent; batch = []; chunk = k; inside = false }

module _ (staging : ℕ → ℕ → Bool) (recent : List Command) (k : ℕ) where
  -- the operations so far, the commands since the last barrier and those of the chunk
  record Grown (m : Made) : Type 0 where
    barriers : m.ops ≡ barriers_by staging recent [] m.ops
    now : (after_ops (begun recent k) m.ops).recent ≡ m.recent
    lists : (after_ops (begun recent k) m.ops).batch ≡ m.listed
    next : (after_ops (begun recent k) m.ops).chunk ≡ k
    device : AllByRecursion (λ o. is_of_device o ≡ true) m.ops

  write_grown : (r : Range) (bytes : List ℕ) (m : Made) → Grown m → Grown (make_write r bytes m)
  write_grown r [] m h = h
  write_grown r (b ∷ bs) m h = record {
    barriers = h.barriers;
    now = h.now;
    lists = h.lists;
    next = h.next;
    device =
        h.device;
  }

  give_grown : (script : Script) (buffer : ℕ) (o : Option ℕ) (m : Made) → Grown m → Grown (give_block script buffer o m)
  give_grown script buffer None m h = h
  give_grown script buffer (Some b) m h =
      record { barriers = h.barriers; now = h.now; lists = h.lists; next = h.next; device = h.device }

  tail_barriers : (now batch : List Command) (d : Command) (o : Option Barrier)
      → barriers_by staging now batch (maybe_barrier o ++ op.Command d ∷ [])
      ≡ maybe_barrier (barrier_before now d) ++ op.Command d ∷ []
  tail_barriers now batch d None = refl
  tail_barriers now batch d (Some b) = refl

  tail_after : (s : ListState) (d : Command) (o : Option Barrier)
      → after_ops s (maybe_barrier o ++ op.Command d ∷ []) ≡ after_op s (op.Command d)
  tail_after s d None = refl
  tail_after s d (Some b) = refl

  tail_device : (d : Command) (o : Option Barrier)
      → AllByRecursion (λ o. is_of_device o ≡ true) (maybe_barrier o ++ op.Command d ∷ [])
  tail_device d None = (refl, tt)
  tail_device d (Some b) = (refl, (refl, tt))

  command_grown : (d : Command) (m : Made) → Grown m → Grown (add_command d (barrier_before m.recent d) m)
  command_grown d m h =
      let s = after_ops (begun recent k) m.ops in
      let o = barrier_before m.recent d in
      let more = maybe_barrier o ++ op.Command d ∷ [] in
      let after : after_ops (begun recent k) (m.ops ++ more) ≡ after_op s (op.Command d) =
      after_append (begun recent k) m.ops more ∙ tail_after s d o in
      record {
        barriers =
            ap (λ l. l ++ more) h.barriers
            ∙ ap (λ l. barriers_by staging recent [] m.ops ++ l)
            (ap (λ r. maybe_barrier (barrier_before r d) ++ op.Command d ∷ []) (sym h.now)
            ∙ sym (tail_barriers s.recent s.batch d o))
            ∙ sym (by_append staging (begun recent k) m.ops more);
        now = ap (λ t. t.recent) after ∙ ap (λ r. (after_op (record s { recent = r }) (op.Command d)).recent) h.now;
        lists = ap (λ t. t.batch) after ∙ ap (λ l. l ++ d ∷ []) h.lists;
        next = ap (λ t. t.chunk) after ∙ h.next;
        device = all_append (λ o. is_of_device o ≡ true) m.ops more h.device (tail_device d o);
      }

  -- what else of a chunk is made leaves its operations
  with_staging : (m : Made) (rs : List Range) → Grown m → Grown (record m { staging = rs })
  with_staging m rs h = record { barriers = h.barriers; now = h.now; lists = h.lists; next = h.next; device = h.device }

  copy_grown : (call : ℕ) (source : Range) (target : Option Range) (skip : Option Cond) (m : Made) → Grown m
      → Grown (make_copy call source target skip m)
  copy_grown call source None skip m h = h
  copy_grown call source (Some target) skip m h = command_grown _ m h

  staged_grown : (script : Script) (call : ℕ) (bytes : List ℕ) (target : Option Range) (skip : Option Cond)
      (bound : List Range) (staged : Option Range) (m : Made) → Grown m
      → Grown (make_staged script call bytes target skip bound staged m)
  staged_grown script call bytes target skip bound None m h = h
  staged_grown script call bytes target skip bound (Some source) m h =
      with_staging _ _ (copy_grown call source target skip _ (write_grown source bytes m h))

  play_grown : (script : Script) (call : ℕ) (play : Play) (bound : List Range) (p : Placed) (m : Made) → Grown m
      → Grown (make_play script call play bound p m)
  play_grown script call (Create buffer bytes) bound p m h =
      write_grown _ bytes _ (give_grown script buffer p.block m h)
  play_grown script call (Discard buffer from bytes) bound p m h =
      write_grown _ bytes _ (give_grown script buffer p.block m h)
  play_grown script call (No_overwrite buffer from bytes) bound p m h = write_grown _ bytes m h
  play_grown script call (Stage bytes target skip) bound p m h =
      staged_grown script call bytes target skip bound p.staged m h
  play_grown script call (Command_play w skip) bound p m h = with_staging _ _ (command_grown _ m h)
  play_grown script call (Destroy buffer) bound p m h =
      record { barriers = h.barriers; now = h.now; lists = h.lists; next = h.next; device = h.device }
  play_grown script call Create_shader bound p m h = h
  play_grown script call (Mark_query query begins) bound p m h =
      record { barriers = h.barriers; now = h.now; lists = h.lists; next = h.next; device = h.device }
  play_grown script call Set_state bound p m h = with_staging m _ h

  turns_grown : (script : Script) (ts : List Turn) (ps : List Placed) (m : Made) → Grown m
      → Grown (make_turns script ts ps m)
  turns_grown script [] ps m h = h
  turns_grown script (Refused call ∷ ts) ps m h = turns_grown script ts ps m h
  turns_grown script (Passed call ∷ ts) ps m h = turns_grown script ts ps m h
  turns_grown script (Flushed call ∷ ts) ps m h = turns_grown script ts ps m h
  turns_grown script (Asked call ask used may_pend ∷ ts) ps m h = turns_grown script ts ps m h
  turns_grown script (Item call item ends play bound ∷ ts) ps m h =
      turns_grown script ts (other_places ps) (make_play script call play bound (first_place ps) m)
      (play_grown script call play bound (first_place ps) m h)

  -- The batch as a whole --------------------------------------------------------------------------------------------

  end_by : (now batch : List Command) (o : Option ℕ)
      → barriers_by staging now batch (batch_end o k) ≡ batch_end (least_writer (staging k) batch) k
  end_by now batch None = refl
  end_by now batch (Some first) = refl

  end_state : (s : ListState) (o : Option ℕ)
      → after_ops s (batch_end o k) ≡ record { recent = s.recent; batch = []; chunk = suc s.chunk; inside = false }
  end_state s None = refl
  end_state s (Some first) = refl

  record IsBatchOf (m : Made) : Type 0 where
    barriers : batch_ops m k ≡ barriers_by staging recent [] (batch_ops m k)
    after : after_ops (begun recent k) (batch_ops m k) ≡ begun m.recent (suc k)
    numbers : IsNumbered k (batch_ops m k)
    whole : IsWhole false (batch_ops m k)

  batch_of : (m : Made) → staging k ≡ m.is_staging → Grown m → IsBatchOf m
  batch_of m is h =
      let s = after_ops (begun recent k) m.ops in
      let o = least_writer m.is_staging m.listed in
      let e = batch_end o k in
      record {
        barriers =
            ap (λ l. l ++ e) h.barriers
            ∙ ap (λ l. barriers_by staging recent [] m.ops ++ l)
            (ap (λ t. batch_end (least_writer t m.listed) k) (sym is)
            ∙ ap (λ l. batch_end (least_writer (staging k) l) k) (sym h.lists)
            ∙ sym (end_by s.recent s.batch o))
            ∙ sym (by_append staging (begun recent k) m.ops e);
        after =
            after_append (begun recent k) m.ops e ∙ end_state s o
            ∙ ap (λ r. record { recent = r; batch = []; chunk = suc s.chunk; inside = false }) h.now
            ∙ ap (λ n. begun m.recent (suc n)) h.next;
        numbers =
            numbers_append (begun recent k) m.ops e (device_numbers m.ops h.device k)
            (end_numbers o k s.chunk (sym h.next));
        whole =
            whole_append (begun recent k) m.ops e (device_whole m.ops h.device false) (end_whole o k s.inside);
      }

-- Batch behind batch ------------------------------------------------------------------------------------------------

-- what the next chunk makes
abbrev next_made : Script → ℕ → List Placed → Made → Made
next_made script k ps m = make_turns script (chunk_turns script k) ps (next_chunk m)

-- from chunk k on the batches have these staging blocks
abbrev AreStaging : Script → (ℕ → ℕ → Bool) → ℕ → List (List Placed) → Made → Type 0
AreStaging script staging k [] m = Unit {0}
AreStaging script staging k (ps ∷ pss) m =
    (staging k ≡ (next_made script k ps m).is_staging) × AreStaging script staging (suc k) pss (next_made script k ps m)

-- the listing goes on from chunk k
record GoesOnBy (staging : ℕ → ℕ → Bool) (recent : List Command) (k : ℕ) (ops : List VkOp) : Type 0 where
  barriers : ops ≡ barriers_by staging recent [] ops
  numbers : IsNumbered k ops
  whole : IsWhole false ops

go_on : (script : Script) (staging : ℕ → ℕ → Bool) (pss : List (List Placed)) (k : ℕ) (m : Made)
    → AreStaging script staging k pss m → GoesOnBy staging m.recent k (ops_from script k pss m)
go_on script staging [] k m h = record { barriers = refl; numbers = tt; whole = tt }
go_on script staging (ps ∷ pss) k m h =
    let n = next_made script k ps m in
    let grown : Grown staging m.recent k n =
    turns_grown staging m.recent k script (chunk_turns script k) ps (next_chunk m)
    (record { barriers = refl; now = refl; lists = refl; next = refl; device = tt }) in
    let b = batch_of staging m.recent k n h.0 grown in
    let rest = ops_from script (suc k) pss n in
    let r = go_on script staging pss (suc k) n h.1 in
    record {
      barriers =
          ap (λ l. batch_ops n k ++ l) r.barriers
          ∙ ap (λ l. l ++ barriers_by staging n.recent [] rest) b.barriers
          ∙ ap (λ s. barriers_by staging m.recent [] (batch_ops n k) ++ barriers_by staging s.recent s.batch rest)
          (sym b.after)
          ∙ sym (by_append staging (begun m.recent k) (batch_ops n k) rest);
      numbers =
          numbers_append (begun m.recent k) (batch_ops n k) rest b.numbers
          (subst (λ s. IsNumbered s.chunk rest) (sym b.after) r.numbers);
      whole =
          whole_append (begun m.recent k) (batch_ops n k) rest b.whole
          (subst (λ s. IsWhole s.inside rest) (sym b.after) r.whole);
    }

-- the staging blocks are those of what was made up to the chunk -----------------------------------------------------

pub chunks_append : (script : Script) (k : ℕ) (xs ys : List (List Placed)) (m : Made)
    → make_chunks script k (xs ++ ys) m ≡ make_chunks script (k + length xs) ys (make_chunks script k xs m)
chunks_append script k [] ys m =
    ap (λ n. make_chunks script n ys m) (let z : k ≡ k + 0 = omega arith in z)
chunks_append script k (x ∷ xs) ys m =
    chunks_append script (suc k) xs ys (next_made script k x m)
    ∙ ap (λ n. make_chunks script n ys (make_chunks script (suc k) xs (next_made script k x m)))
    (let z : suc k + length xs ≡ k + length (x ∷ xs) = omega arith in z)

take_front : (xs : List (List Placed)) (y : List Placed) (ys : List (List Placed))
    → take (suc (length xs)) (xs ++ y ∷ ys) ≡ xs ++ y ∷ []
take_front [] y ys = refl
take_front (x ∷ xs) y ys = ap (λ l. x ∷ l) (take_front xs y ys)

are_staging : (script : Script) (pss front : List (List Placed))
    → AreStaging script (staging_at script (front ++ pss)) (suc (length front)) pss
    (make_chunks script 1 front nothing_made)
are_staging script [] front = tt
are_staging script (ps ∷ pss) front =
    let n = next_made script (suc (length front)) ps (make_chunks script 1 front nothing_made) in
    let one : make_chunks script 1 (front ++ ps ∷ []) nothing_made ≡ n =
    chunks_append script 1 front (ps ∷ []) nothing_made
    ∙ ap (λ j. next_made script j ps (make_chunks script 1 front nothing_made))
    (let z : 1 + length front ≡ suc (length front) = omega arith in z) in
    let long : length (front ++ ps ∷ []) ≡ suc (length front) = let l = length-append front (ps ∷ []) in
    omega (arith, l) in
    let again = are_staging script pss (front ++ ps ∷ []) in (
      ap (λ l. (made script l).is_staging) (take_front front ps pss) ∙ ap (λ m. m.is_staging) one,
      subst (λ m. AreStaging script (staging_at script (front ++ ps ∷ pss)) (suc (suc (length front))) pss m) one
          (subst (λ j. AreStaging script (staging_at script (front ++ ps ∷ pss)) (suc j) pss
          (make_chunks script 1 (front ++ ps ∷ []) nothing_made)) long
          (subst (λ l. AreStaging script (staging_at script l) (suc (length (front ++ ps ∷ []))) pss
          (make_chunks script 1 (front ++ ps ∷ []) nothing_made)) (append_assoc front (ps ∷ []) pss) again)),
    )

-- The laws ----------------------------------------------------------------------------------------------------------

pub batches_listed : (script : Script) (pss : List (List Placed))
    → IsBatchListing (staging_at script pss) (ops_of script pss)
batches_listed script pss =
    let g = go_on script (staging_at script pss) pss 1 nothing_made (are_staging script pss []) in
    record { barriers = g.barriers; numbers = g.numbers; whole = g.whole }

ops_append : (script : Script) (k : ℕ) (xs ys : List (List Placed)) (m : Made)
    → ops_from script k (xs ++ ys) m ≡ ops_from script k xs m
    ++ ops_from script (k + length xs) ys (make_chunks script k xs m)
ops_append script k [] ys m = ap (λ n. ops_from script n ys m) (let z : k ≡ k + 0 = omega arith in z)
ops_append script k (x ∷ xs) ys m =
    let n = next_made script k x m in
    ap (λ l. batch_ops n k ++ l)
    (ops_append script (suc k) xs ys n
    ∙ ap (λ j. ops_from script (suc k) xs n ++ ops_from script j ys (make_chunks script (suc k) xs n))
    (let z : suc k + length xs ≡ k + length (x ∷ xs) = omega arith in z))
    ∙ sym (append_assoc (batch_ops n k) (ops_from script (suc k) xs n) _)

pub one_more : (script : Script) (front : List (List Placed)) (ps : List Placed)
    → ops_of script (front ++ ps ∷ []) ≡ ops_of script front
    ++ batch_ops (made script (front ++ ps ∷ [])) (suc (length front))
one_more script front ps =
    let m = make_chunks script 1 front nothing_made in
    let is : 1 + length front ≡ suc (length front) = omega arith in
    ops_append script 1 front (ps ∷ []) nothing_made
    ∙ ap (λ j. ops_of script front ++ (batch_ops (next_made script j ps m) j ++ [])) is
    ∙ ap (λ l. ops_of script front ++ l)
    (append-nil (batch_ops (next_made script (suc (length front)) ps m) (suc (length front))))
    ∙ ap (λ n. ops_of script front ++ batch_ops n (suc (length front)))
    (sym (chunks_append script 1 front (ps ∷ []) nothing_made
    ∙ ap (λ j. next_made script j ps m) is))

-- other names of the same blocks
same_staging : (script : Script) (old new : ℕ → ℕ → Bool) (pss : List (List Placed)) (k : ℕ) (m : Made)
    → ((j : ℕ) → old (suc j) ≡ new (suc j)) → AreStaging script old (suc k) pss m → AreStaging script new (suc k) pss m
same_staging script old new [] k m same h = tt
same_staging script old new (ps ∷ pss) k m same h =
    (sym (same k) ∙ h.0, same_staging script old new pss (suc k) (next_made script (suc k) ps m) same h.1)

pub steady_batches : (staging : ℕ → Bool) (script : Script) (pss : List (List Placed))
    → ((k b : ℕ) → staging_at script pss (suc k) b ≡ staging b) → IsRunListing staging (ops_of script pss)
steady_batches staging script pss same =
    let h = same_staging script (staging_at script pss) (λ k. staging) pss 0 nothing_made
    (λ j. fun_ext (same j)) (are_staging script pss []) in
    let g = go_on script (λ k. staging) pss 1 nothing_made h in
    record {
      barriers = g.barriers ∙ sym (steady_barriers staging (ops_of script pss) [] []);
      numbers =
          g.numbers;
      whole = g.whole;
    }
