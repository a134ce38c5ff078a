-- The oldest accepted batch is complete: its copies of staging blocks are what the listing leaves there, since no
-- later chunk that the device has touches them.
use Rattle.std.proofs.Common.{◌≡◌, ℕ, suc, Bool, true, false, cond, not, ◌&&◌, ◌||◌, ◌==◌, List, [], ◌∷◌, ◌++◌}
use Rattle.std.proofs.Common.{length, refl, sym, ap, ◌∙◌, subst, inl, inr, Some, None, arith, append_assoc}
use Rattle.std.specs.List.{list_any, AllByRecursion}
use Rattle.std.proofs.lemmas.Bool.{and_parts, cases_Bool, eq-eqb}
use Rattle.vk_types.specs.declared.touch.Touch.{Touch}
use Rattle.base_lemmas.specs.Lists.{IsReordering, Sublist}
use Rattle.vk_types.specs.Memory.{Memory, zeros, covers}
use Rattle.vk_types.specs.Hazards.{has_write, is_touched, is_written}
use Rattle.vk_types.specs.Effects.{Meaning, Act, Host_write, Device, Host_read, act_touches, act_effect, is_host}
use Rattle.vk_types.specs.Entries.{Entry, EntriesKeep, run_entries}
use Rattle.base_lemmas.proofs.Lists.{all_front, all_back, all_append, all_map, all_both}
use Rattle.vk_types.proofs.Local.{covered_block}
use Rattle.vk_types.proofs.Acts.{act_local}
use Rattle.core_model.specs.Script.{Script}
use Rattle.core_model.specs.CoreState.{Segment, entries, flat, Running, Message, Core, of_messages, of_running, rests}
use Rattle.core_model.specs.CoreState.{waiting, segments, on_device}
use Rattle.core_model.specs.Readings.{Reading, has_place}
use Rattle.core_model.specs.Adding.{has_block}
use Rattle.core_model.specs.OtherParts.{acts_touch, needs_block, needed_in, used_in, snaps_of, values_of}
use Rattle.core_model.specs.CoreStep.{Step, Complete}
use Rattle.core_model.specs.Stands.{touches_block, is_host_read}
use Rattle.core_model.specs.Worlds.{empty, run_world}
use Rattle.core_model.specs.Invariant.{IsShaped, IsFilled, BindsUses, SnapRight, SnapsRight, commands_of, Sound, Good}
use Rattle.core_model.proofs.Listing.Worlds.{world_memory, flat-append, of_messages-append}
use Rattle.core_model.proofs.Steps.Segments.{run_out, segments_parts, device_parts, rests_have}
use Rattle.core_model.proofs.Steps.ChunkMoves.{moved_good}
use Rattle.core_model.proofs.Steps.QueueHeads.{place_of, one_more}
use Rattle.core_model.proofs.Steps.Idle.{touches_byte}

-- What no act writes ------------------------------------------------------------------------------------------------

abbrev pub Leaves : ℕ → ℕ → Entry → Type 0
Leaves b i x = is_written (act_touches x.act) b i ≡ false

-- a byte that none of the acts writes stays
pub left_alone : (meaning : Meaning) (b i : ℕ) (xs : List Entry) → AllByRecursion (Leaves b i) xs → (m : Memory)
    → run_entries meaning xs m b i ≡ m b i
left_alone meaning b i [] h m = refl
left_alone meaning b i (x ∷ xs) h m = left_alone meaning b i xs h.1 (act_effect meaning x.act m)
    ∙ (act_local meaning x.act).keeps m b i h.0

pub run_entries-append : (meaning : Meaning) (xs ys : List Entry) (m : Memory)
    → run_entries meaning (xs ++ ys) m ≡ run_entries meaning ys (run_entries meaning xs m)
run_entries-append meaning [] ys m = refl
run_entries-append meaning (x ∷ xs) ys m = run_entries-append meaning xs ys (act_effect meaning x.act m)

any_less : {A : Type 0} (p q : A → Bool) → ((x : A) → q x ≡ true → p x ≡ true) → (xs : List A)
    → list_any p xs ≡ false → list_any q xs ≡ false
any_less p q f [] h = refl
any_less p q f (x ∷ xs) h =
    both (q x) (list_any q xs)
    (elim (cases_Bool (q x)) [
      | inl t ↦ absurd (let z : true ≡ false = sym (f x t)
          ∙ first (p x) (list_any p xs) h in cc z)
      | inr n ↦ n
    ])
    (any_less p q f xs (second (p x) (list_any p xs) h))
  where
    first : (a b : Bool) → (a || b) ≡ false → a ≡ false
    first true b h = absurd (cc h)
    first false b h = refl

    second : (a b : Bool) → (a || b) ≡ false → b ≡ false
    second true b h = absurd (cc h)
    second false b h = h

    both : (a b : Bool) → a ≡ false → b ≡ false → (a || b) ≡ false
    both a b h k = ap (λ a. a || b) h ∙ k

-- what is not touched is not written
pub untouched : (ts : List Touch) (b i : ℕ) → is_touched ts b i ≡ false → is_written ts b i ≡ false
untouched ts b i h = any_less (λ t. covers t.range b i) (λ t. has_write t.access && covers t.range b i)
    (λ t k. (and_parts (has_write t.access) (covers t.range b i) k).1) ts h

-- of a block that is not touched no byte is written
pub block_alone : (b i : ℕ) (x : Entry) → touches_block x.act b ≡ false → Leaves b i x
block_alone b i x h =
    any_less (λ t. t.range.block == b) (λ t. has_write t.access && covers t.range b i)
    (λ t k. eq-eqb t.range.block b (covered_block t.range b i
    (and_parts (has_write t.access) (covers t.range b i) k).1)) (act_touches x.act) h

read_alone : (b i : ℕ) (a : Act) → is_host_read a ≡ true → is_written (act_touches a) b i ≡ false
read_alone b i (Host_write r bytes) h = absurd (cc h)
read_alone b i (Device d) h = absurd (cc h)
read_alone b i (Host_read r) h = refl

-- no act of these touches the block
abbrev pub NoneTouch : ℕ → List Entry → Type 0
NoneTouch b xs = AllByRecursion (λ x. touches_block x.act b ≡ false) xs

first : (a b : Bool) → (a || b) ≡ false → a ≡ false
first true b h = absurd (cc h)
first false b h = refl

second : (a b : Bool) → (a || b) ≡ false → b ≡ false
second true b h = absurd (cc h)
second false b h = h

none_touch : (b : ℕ) (xs : List Entry) → acts_touch xs b ≡ false → NoneTouch b xs
none_touch b [] h = tt
none_touch b (x ∷ xs) h = (
  first (touches_block x.act b) (acts_touch xs b) h,
  none_touch b xs (second (touches_block x.act b) (acts_touch xs b) h),
)

touch_none : (b : ℕ) (xs : List Entry) → NoneTouch b xs → acts_touch xs b ≡ false
touch_none b [] h = refl
touch_none b (x ∷ xs) h = ap (λ c. c || acts_touch xs b) h.0 ∙ touch_none b xs h.1

-- a chunk of which the device sees no use of the block writes none of its bytes
commands_leave : (b i : ℕ) (s : Segment) → needs_block s b ≡ false → AllByRecursion (Leaves b i) s.commands
commands_leave b i s h =
    let acts = second (has_block b s.staging) (acts_touch s.writes b || acts_touch s.commands b) h in
    all_map (λ x. touches_block x.act b ≡ false) (Leaves b i) (λ x n. block_alone b i x n) s.commands
    (none_touch b s.commands (second (acts_touch s.writes b) (acts_touch s.commands b) acts))

entries_leave : (b i : ℕ) (s : Segment) → IsShaped s → needs_block s b ≡ false → AllByRecursion (Leaves b i) (entries s)
entries_leave b i s shape h =
    let acts = second (has_block b s.staging) (acts_touch s.writes b || acts_touch s.commands b) h in
    all_append (Leaves b i) s.reads (s.writes ++ s.commands)
    (all_map (λ x. is_host_read x.act ≡ true) (Leaves b i) (λ x h. read_alone b i x.act h) s.reads shape.0)
    (all_append (Leaves b i) s.writes s.commands
    (all_map (λ x. touches_block x.act b ≡ false) (Leaves b i) (λ x n. block_alone b i x n) s.writes
    (none_touch b s.writes (first (acts_touch s.writes b) (acts_touch s.commands b) acts)))
    (commands_leave b i s h))

pub segments_leave : (b i : ℕ) (ss : List Segment) → AllByRecursion IsShaped ss → needed_in ss b ≡ false
    → AllByRecursion (Leaves b i) (flat ss)
segments_leave b i [] h n = tt
segments_leave b i (s ∷ ss) h n =
    all_append (Leaves b i) (entries s) (flat ss) (entries_leave b i s h.0 (first (needs_block s b) (needed_in ss b) n))
    (segments_leave b i ss h.1 (second (needs_block s b) (needed_in ss b) n))

each_leaves : (b i : ℕ) (ss : List Segment) → needed_in ss b ≡ false
    → AllByRecursion (λ s. AllByRecursion (Leaves b i) s.commands) ss
each_leaves b i [] n = tt
each_leaves b i (s ∷ ss) n = (
  commands_leave b i s (first (needs_block s b) (needed_in ss b) n),
  each_leaves b i ss (second (needs_block s b) (needed_in ss b) n),
)

pub needed_front : (xs ys : List Segment) (b : ℕ) → needed_in (xs ++ ys) b ≡ false → needed_in xs b ≡ false
needed_front [] ys b h = refl
needed_front (x ∷ xs) ys b h =
    ap (λ c. c || needed_in xs b) (first (needs_block x b) (needed_in (xs ++ ys) b) h)
    ∙ needed_front xs ys b (second (needs_block x b) (needed_in (xs ++ ys) b) h)

-- a chunk that does not bind the block, and whose host writes are elsewhere, does not need it
abbrev pub Unused : ℕ → Segment → Type 0
Unused b s = IsShaped s × BindsUses s × AllByRecursion IsFilled s.commands × NoneTouch b s.writes

abbrev Binds : Segment → Entry → Type 0
Binds s x = is_host x.act ≡ false → (b i : ℕ) → is_touched (act_touches x.act) b i ≡ true → has_block b s.bound ≡ true

not_needed : (b : ℕ) (s : Segment) → Unused b s → has_block b s.bound ≡ false → needs_block s b ≡ false
not_needed b s u n =
    ap (λ c. c || (acts_touch s.writes b || acts_touch s.commands b)) unnamed
    ∙ ap (λ c. c || acts_touch s.commands b) (touch_none b s.writes u.3)
    ∙ touch_none b s.commands untouching
  where
    unnamed : has_block b s.staging ≡ false
    unnamed = elim (cases_Bool (has_block b s.staging)) [
      | inl t ↦ absurd (let z : true ≡ false = sym (u.1.1 b t)
          ∙ n in cc z)
      | inr f ↦ f
    ]

    one : (x : Entry) → is_host x.act ≡ false → Binds s x → IsFilled x → touches_block x.act b ≡ false
    one x dev binds filled =
        elim (cases_Bool (touches_block x.act b)) [
          | inl t ↦ let byte = touches_byte b (act_touches x.act) filled t in
              absurd (let z : true ≡ false = sym (binds dev b byte.0 byte.1) ∙ n in cc z)
          | inr f ↦ f
        ]

    untouching : NoneTouch b s.commands
    untouching =
        all_map (λ x. (is_host x.act ≡ false) × (Binds s x × IsFilled x)) (λ x. touches_block x.act b ≡ false)
        (λ x h. one x h.0 h.1.0 h.1.1) s.commands
        (all_both (λ x. is_host x.act ≡ false) (λ x. Binds s x
        × IsFilled x) s.commands u.0.2 (all_both (Binds s) IsFilled s.commands u.1.0 u.2))

pub none_needed : (b : ℕ) (ss : List Segment) → AllByRecursion (Unused b) ss → used_in ss b ≡ false
    → needed_in ss b ≡ false
none_needed b [] h n = refl
none_needed b (s ∷ ss) h n =
    ap (λ c. c || needed_in ss b) (not_needed b s h.0 (first (has_block b s.bound) (used_in ss b) n))
    ∙ none_needed b ss h.1 (second (has_block b s.bound) (used_in ss b) n)

pub filled_commands : (ss : List Segment) → AllByRecursion IsFilled (flat ss)
    → AllByRecursion (λ s. AllByRecursion IsFilled s.commands) ss
filled_commands [] h = tt
filled_commands (s ∷ ss) h = (
  all_back IsFilled s.writes s.commands (all_back IsFilled s.reads (s.writes ++ s.commands)
      (all_front IsFilled (entries s) (flat ss) h)),
  filled_commands ss (all_back IsFilled (entries s) (flat ss) h),
)

pub none_bound : (b : ℕ) (ss : List Segment) → used_in ss b ≡ false
    → AllByRecursion (λ s. has_block b s.bound ≡ false) ss
none_bound b [] h = tt
none_bound b (s ∷ ss) h = (
  first (has_block b s.bound) (used_in ss b) h,
  none_bound b ss (second (has_block b s.bound) (used_in ss b) h),
)

-- Copies of one chunk more ------------------------------------------------------------------------------------------

snaps_last : (meaning : Meaning) (earlier : List Entry) (ms : List Message) (m : Message) (after : List Segment)
    → SnapsRight meaning earlier ms (m.segment ∷ after)
    → SnapRight meaning (earlier ++ (flat (of_messages ms) ++ entries m.segment)) m after
    → SnapsRight meaning earlier (ms ++ m ∷ []) after
snaps_last meaning earlier [] m after h k = (k, tt)
snaps_last meaning earlier (n ∷ ms) m after h k = (
  subst (SnapRight meaning (earlier ++ entries n.segment) n)
      (sym (append_assoc (of_messages ms) (m.segment ∷ []) after)
      ∙ ap (λ l. l ++ after) (sym (of_messages-append ms (m ∷ [])))) h.0,
  snaps_last meaning (earlier ++ entries n.segment) ms m after h.1
      (subst (λ l. SnapRight meaning l m after)
      (ap (λ l. earlier ++ l) (append_assoc (entries n.segment) (flat (of_messages ms)) (entries m.segment))
      ∙ sym (append_assoc earlier (entries n.segment) (flat (of_messages ms) ++ entries m.segment))) k),
)

-- The step ----------------------------------------------------------------------------------------------------------

module _ (meaning : Meaning) (reading : Reading) (script : Script) (old : Core) (r : Running) (rs : List Running)
    (e : old.accepted ≡ r ∷ rs) (out : r.rest ≡ []) where
  abbrev message : Message
  message = record {
    segment = r.segment;
    snaps = snaps_of r.segment rs old.memory;
    values = values_of old.counts (old.taken ++ (of_messages old.posts ++ of_messages old.completions)) r.segment;
  }

  abbrev completions : List Message
  completions = old.completions ++ message ∷ []

  completed_line : (z : List Segment) → of_messages completions ++ (of_running rs ++ z)
      ≡ of_messages old.completions ++ (of_running old.accepted ++ z)
  completed_line z =
      ap (λ l. l ++ (of_running rs ++ z)) (of_messages-append old.completions (message ∷ []))
      ∙ append_assoc (of_messages old.completions) (r.segment ∷ []) (of_running rs ++ z)
      ∙ ap (λ l. of_messages old.completions ++ (of_running l ++ z)) (sym e)

  device_is : old.taken ++ (of_messages old.posts ++ (of_messages completions ++ of_running rs)) ≡ on_device old
  device_is =
      ap (λ l. old.taken ++ (of_messages old.posts ++ l))
      (ap (λ l. l ++ of_running rs) (of_messages-append old.completions (message ∷ []))
      ∙ append_assoc (of_messages old.completions) (r.segment ∷ []) (of_running rs)
      ∙ ap (λ l. of_messages old.completions ++ of_running l) (sym e))

  rests_are : rests rs ≡ rests old.accepted
  rests_are = ap (λ l. l ++ rests rs) (sym out) ∙ ap rests (sym e)

  -- the chunks behind this one that the device has
  later_have : (P : Segment → Type 0) → AllByRecursion P (segments old) → AllByRecursion P (of_running rs)
  later_have P h =
      let parts : AllByRecursion P (run_out old ++ (of_running old.accepted ++ waiting old)) =
      subst (AllByRecursion P) (segments_parts old) h in
      let behind : AllByRecursion P (of_running (r ∷ rs) ++ waiting old) =
      subst (λ l. AllByRecursion P (of_running l ++ waiting old)) e
      (all_back P (run_out old) (of_running old.accepted ++ waiting old) parts) in
      (all_front P (of_running (r ∷ rs)) (waiting old) behind).1

  abbrev upto : List Entry
  upto = flat old.taken ++ (flat (of_messages (old.posts ++ old.completions)) ++ entries r.segment)

  device_flat : flat (on_device old) ≡ upto ++ flat (of_running rs)
  device_flat =
      ap flat (device_parts old ∙ ap (λ l. run_out old ++ of_running l) e)
      ∙ flat-append (run_out old) (r.segment ∷ of_running rs)
      ∙ ap (λ l. l ++ (entries r.segment ++ flat (of_running rs)))
      (flat-append old.taken (of_messages old.posts ++ of_messages old.completions)
      ∙ ap (λ l. flat old.taken ++ flat l) (sym (of_messages-append old.posts old.completions)))
      ∙ append_assoc (flat old.taken) (flat (of_messages (old.posts ++ old.completions)))
      (entries r.segment ++ flat (of_running rs))
      ∙ ap (λ l. flat old.taken ++ l)
      (sym (append_assoc (flat (of_messages (old.posts ++ old.completions))) (entries r.segment)
      (flat (of_running rs))))
      ∙ sym (append_assoc (flat old.taken) (flat (of_messages (old.posts ++ old.completions)) ++ entries r.segment)
      (flat (of_running rs)))

  -- a block that no later chunk on the device needs is as the listing leaves it
  memory_is : Sound meaning reading script old → (b : ℕ) → needed_in (of_running rs) b ≡ false → (i : ℕ)
      → old.memory b i ≡ run_entries meaning upto zeros b i
  memory_is so b n i =
      let left : AllByRecursion (Leaves b i) (rests rs) =
      rests_have (Leaves b i) rs (let w : AllByRecursion (λ r. Sublist r.rest r.segment.commands) (r ∷ rs) =
      subst (AllByRecursion (λ r. Sublist r.rest r.segment.commands)) e so.within in w).1
      (each_leaves b i (of_running rs) n) in
      sym (left_alone meaning b i (rests rs) left old.memory)
      ∙ ap (λ l. run_entries meaning l old.memory b i) rests_are
      ∙ ap (λ f. f b i)
      (sym (world_memory meaning (rests old.accepted) (record { memory = old.memory; counts = old.counts }))
      ∙ ap (λ w. w.memory) so.device ∙ world_memory meaning (flat (on_device old)) empty)
      ∙ ap (λ l. run_entries meaning l zeros b i) device_flat
      ∙ ap (λ f. f b i) (run_entries-append meaning upto (flat (of_running rs)) zeros)
      ∙ left_alone meaning b i (flat (of_running rs)) (segments_leave b i (of_running rs)
      (later_have IsShaped so.shaped) n) (run_entries meaning upto zeros)

  snap_right : Sound meaning reading script old → SnapRight meaning upto message (of_running rs)
  snap_right so = record {
    right = λ b bytes is i.
        elim (cases_Bool (has_block b r.segment.staging && not (needed_in (of_running rs) b))) [
          | inl t ↦
              let there : Some (old.memory b) ≡ Some bytes = sym (ap (λ c. cond c (Some (old.memory b)) None) t) ∙ is in
              let same : old.memory b ≡ bytes = cc there in
              let parts = and_parts (has_block b r.segment.staging) (not (needed_in (of_running rs) b)) t in
              ap (λ f. f i) (sym same) ∙ memory_is so b (is_false (needed_in (of_running rs) b) parts.1) i
          | inr f ↦ absurd (let z : None ≡ Some bytes = sym (ap (λ c. cond c (Some (old.memory b)) None) f)
              ∙ is in cc z)
        ];
    there = λ b h
        n. (
          old.memory b,
          ap (λ c. cond (c && not (needed_in (of_running rs) b)) (Some (old.memory b)) None) h
              ∙ ap (λ c. cond (not c) (Some (old.memory b)) None) n,
        );
    none = λ b h. ap (λ c. cond (c && not (needed_in (of_running rs) b)) (Some (old.memory b)) None) h;
  }
    where
      is_false : (c : Bool) → not c ≡ true → c ≡ false
      is_false true h = absurd (cc h)
      is_false false h = refl

  abbrev completed : Core
  completed = record old { accepted = rs; completions = completions }

  completed_good : has_place reading (length old.completions) ≡ true → Good meaning reading script old
      → Good meaning reading script completed
  completed_good room g =
      let so = g.sound in
      moved_good meaning reading script old completed
      (ap (λ l. of_messages old.posts ++ l) (completed_line (old.submissions ++ (old.batches ++ old.chunks)))) g
      (record {
        sizes = λ four.
            let z = so.sizes four in
            let l = place_of reading (length old.completions) four room in
            let more = one_more old.completions message in
            let was : length old.accepted ≡ suc (length rs) = ap length e in
            let c = z.2 in
            (z.0, omega (arith, more, l), omega (arith, was, c), z.3, z.4, z.5);
        finished = omega arith;
        since = so.since;
        allows = λ b i chunk a. a;
        live = λ r b l. l;
        within = (let w : AllByRecursion (λ r. Sublist r.rest r.segment.commands) (r ∷ rs) =
            subst (AllByRecursion (λ r. Sublist r.rest r.segment.commands)) e so.within in w).1;
        device =
            ap (λ l. run_world meaning l (record { memory = old.memory; counts = old.counts })) rests_are ∙ so.device
            ∙ ap (λ l. run_world meaning (flat l) empty) (sym device_is);
        whole = subst (λ l. IsReordering (commands_of l) (old.ran ++ rests rs)) (sym device_is)
            (subst (λ l. IsReordering (commands_of (on_device old)) (old.ran ++ l)) (sym rests_are) so.whole);
        order = subst (λ l. EntriesKeep (old.ran ++ l)) (sym rests_are) so.order;
        snaps = subst (λ l. SnapsRight meaning (flat old.taken) l (of_running rs))
            (append_assoc old.posts old.completions (message ∷ []))
            (snaps_last meaning (flat old.taken) (old.posts ++ old.completions) message (of_running rs)
            (subst (λ l. SnapsRight meaning (flat old.taken) (old.posts ++ old.completions) (of_running l)) e
            so.snaps) (snap_right so));
      })

-- a Complete is a step that keeps the invariant
pub complete_good : (meaning : Meaning) (reading : Reading) (script : Script) (old new : Core)
    → Step meaning reading script old Complete new → Good meaning reading script old → Good meaning reading script new
complete_good meaning reading script old new p g = subst (Good meaning reading script) (sym p.5)
    (completed_good meaning reading script old p.0 p.1 p.2 p.3 p.4 g)
