-- A call that reads bytes is answered from the newest copy of the buffer's block, and the host read stands in the
-- listing.
use Rattle.std.proofs.Common.{◌≡◌, ℕ, zero, suc, ◌+◌, ◌-◌, ◌<◌, ◌≤◌, Bool, true, false, cond, ◌||◌, nat_lt, nat_le}
use Rattle.std.proofs.Common.{List, [], ◌∷◌, ◌++◌, map, refl, sym, ap, ◌∙◌, subst, ◌⊎◌, inl, inr, Option, Some, None}
use Rattle.std.proofs.Common.{arith, append_assoc, append-nil}
use Rattle.std.specs.List.{AllByRecursion}
use Rattle.std.proofs.lemmas.Bool.{both_ways, cases_Bool, lt-ltb, le-leb}
use Rattle.dx_types.specs.declared.range.Range.{Range}
use Rattle.base_lemmas.specs.Lists.{numbers_from}
use Rattle.vk_types.specs.Memory.{covers, zeros, or_zero}
use Rattle.vk_types.specs.Hazards.{is_touched}
use Rattle.vk_types.specs.Effects.{Meaning, Act, Host_write, Device, Host_read, act_touches, is_host}
use Rattle.vk_types.specs.Entries.{Entry, entry_before, entries_conflict, EntriesCovered, run_entries}
use Rattle.base_lemmas.proofs.Lists.{all_front, all_back, all_append, all_map, all_both, pairs_append}
use Rattle.vk_types.proofs.Local.{common, covered_block}
use Rattle.core_model.specs.Script.{Bytes, Turn, Asked, Script, InOrder, at_start, in_order}
use Rattle.core_model.specs.Chunking.{is_due}
use Rattle.core_model.specs.Renaming.{block_of, range_on}
use Rattle.core_model.specs.CoreState.{Segment, entries, flat, Core, segments, later, taken_count, open_number, done}
use Rattle.core_model.specs.CoreState.{Bytes_said}
use Rattle.core_model.specs.Readings.{Reading}
use Rattle.core_model.specs.Adding.{has_block, with_turn, with_reply, new_entry}
use Rattle.core_model.specs.AppActs.{TakesTurn, is_finished, copied_bytes, with_read}
use Rattle.core_model.specs.OtherParts.{used_in}
use Rattle.core_model.specs.Stands.{Stands, is_host_write, is_host_read}
use Rattle.core_model.specs.Listed.{IsListed}
use Rattle.core_model.specs.Worlds.{World, empty, run_world}
use Rattle.core_model.specs.Lawful.{AsksRightly, IsLawful}
use Rattle.core_model.specs.Invariant.{KnownIn, Numbered, IsShaped, BindsUses, IsFilled, Totals, IsRight, Good}
use Rattle.core_model.specs.Kept.{Beside, IsTraced, Kept}
use Rattle.core_model.proofs.Listing.Worlds.{flat-append, run_world-append}
use Rattle.core_model.proofs.Steps.Segments.{numbered_front, numbered_below}
use Rattle.core_model.proofs.Steps.Accepting.{write_is_host}
use Rattle.core_model.proofs.Steps.Posting.{used_front}
use Rattle.core_model.proofs.Steps.Completing.{none_bound, run_entries-append}
use Rattle.core_model.proofs.Steps.Turning.{segments_handed, used_last, said_good}
use Rattle.core_model.proofs.Listing.MoreListed.{read_listed, read_counted}
use Rattle.core_model.proofs.Steps.Opened.{known_still, known_act, before_open, opened_entries, Opened, opened}
use Rattle.core_model.proofs.Steps.Opened.{opened_turn}
use Rattle.core_model.proofs.Steps.Taking.{left_by, Meets, met, taken_good}
use Rattle.core_model.proofs.Blocks.BoundRanges.{unconcerned, quiet_beside}
use Rattle.core_model.proofs.Runs.TurnsKeepAll.{turn_traced, pending_kept}
use Rattle.core_model.proofs.Runs.LastUses.{is_unused, is_bare}
use Rattle.vk_types.specs.declared.op.VkOp.TheVariants as op

-- numbers one after another that are alike
pub map_numbers : (f g : ℕ → ℕ) (first n : ℕ) → ((i : ℕ) → first ≤ i → i < first + n → f i ≡ g i)
    → map f (numbers_from first n) ≡ map g (numbers_from first n)
map_numbers f g first zero h = refl
map_numbers f g first (suc n) h = λ i. h first (omega arith) (omega arith) i ∷ map_numbers f g (suc first) n
    (λ j l u. h j (omega (arith, l)) (omega (arith, u))) i

-- the state with a host read more
abbrev pub reads_range : ℕ → Range → Core → Core
reads_range call r core = record core {
  open_chunk = record core.open_chunk { reads = core.open_chunk.reads ++ new_entry core (Host_read r) ∷ [] };
  listing = core.listing ++ op.HostRead r call ∷ [];
  host_acts = suc core.host_acts;
}

-- what a chunk's command touches, by the posts that were taken
abbrev IsPast : Core → ℕ → Entry → Type 0
IsPast core b x = is_host x.act ≡ false → (x.chunk ≤ taken_count core)
    ⊎ ((i : ℕ) → is_touched (act_touches x.act) b i ≡ false)

module _ (meaning : Meaning) (script : Script) (core : Core) (o : Opened meaning script core) (call : ℕ) (r : Range)
    (filled : r.from < r.to) (staging : core.is_staging r.block ≡ true)
    (bare : (core.open_chunk.writes ≡ []) × (core.open_chunk.commands ≡ []))
    (fenced : taken_count core ≤ core.fence) (past : AllByRecursion (IsPast core r.block)
    (flat (before_open core)))
    (shaped : AllByRecursion (λ x. is_host x.act ≡ true) core.open_chunk.reads) where
  abbrev read : Entry
  read = new_entry core (Host_read r)

  abbrev now : Core
  now = reads_range call r core

  -- the open chunk has reads alone
  open_is : entries core.open_chunk ≡ core.open_chunk.reads
  open_is = ap (λ l. core.open_chunk.reads ++ (l ++ core.open_chunk.commands)) bare.0
      ∙ ap (λ l. core.open_chunk.reads ++ l) bare.1 ∙ append-nil core.open_chunk.reads

  open_now : entries now.open_chunk ≡ core.open_chunk.reads ++ read ∷ []
  open_now =
      ap (λ l. (core.open_chunk.reads ++ read ∷ []) ++ (l ++ core.open_chunk.commands)) bare.0
      ∙ ap (λ l. (core.open_chunk.reads ++ read ∷ []) ++ l) bare.1
      ∙ append-nil (core.open_chunk.reads ++ read ∷ [])

  open_more : entries now.open_chunk ≡ entries core.open_chunk ++ read ∷ []
  open_more = open_now ∙ ap (λ l. l ++ read ∷ []) (sym open_is)

  all_now : opened_entries now ≡ opened_entries core ++ read ∷ []
  all_now = ap (λ l. flat (before_open core) ++ l) open_more
      ∙ sym (append_assoc (flat (before_open core)) (entries core.open_chunk) (read ∷ []))

  -- it changes nothing
  read_left : (w : World) → run_world meaning (opened_entries now) w ≡ run_world meaning (opened_entries core) w
  read_left w = ap (λ l. run_world meaning l w) all_now ∙ run_world-append meaning (opened_entries core) (read ∷ []) w

  read_memory : run_entries meaning (opened_entries now) zeros ≡ run_entries meaning (opened_entries core) zeros
  read_memory = ap (λ l. run_entries meaning l zeros) all_now
      ∙ run_entries-append meaning (opened_entries core) (read ∷ []) zeros

  before_read : (x : Entry) → KnownIn core x → (is_host x.act ≡ false → entries_conflict x read ≡ true
      → x.chunk ≤ core.fence) → entries_conflict x read ≡ true → entry_before x read ≡ true
  before_read x k old h = by (cases_Bool (is_host x.act))
    where
      by : (is_host x.act ≡ true) ⊎ (is_host x.act ≡ false) → entry_before x read ≡ true
      by (inl t) = ap (λ a. cond a (nat_lt x.number core.host_acts) (nat_le x.chunk core.fence)) t
          ∙ lt-ltb x.number core.host_acts (k.counted t)
      by (inr f) = ap (λ a. cond a (nat_lt x.number core.host_acts) (nat_le x.chunk core.fence)) f
          ∙ le-leb x.chunk core.fence (old f h)

  past_old : (x : Entry) → IsPast core r.block x → is_host x.act ≡ false → entries_conflict x read ≡ true
      → x.chunk ≤ core.fence
  past_old x p dev h =
      elim (p dev) [
        | inl l ↦ omega (arith, l, fenced)
        | inr n ↦
            let at = common (act_touches x.act) (act_touches read.act) h in
            let inside : covers r at.0 at.1 ≡ true = just (covers r at.0 at.1) at.3 in
            let here : is_touched (act_touches x.act) r.block at.1 ≡ true =
            ap (λ b. is_touched (act_touches x.act) b at.1) (covered_block r at.0 at.1 inside) ∙ at.2 in
            absurd (both_ways (is_touched (act_touches x.act) r.block at.1) (n at.1) here)
      ]
    where
      just : (c : Bool) → (c || false) ≡ true → c ≡ true
      just true e = refl
      just false e = absurd (cc e)

  opened_read : Opened meaning script now
  opened_read = record {
    grows =
        subst IsListed_of acts_now
        (read_listed core.is_staging core.listing core.open_chunk.ops core.contents core.recent
        core.open_chunk.commands _ _ o.grows core.fence core.host_acts core.epoch o.counted r call staging);
    counted = read_counted core.is_staging core.listing core.open_chunk.ops core.contents core.recent
        core.open_chunk.commands _ _ o.grows core.fence core.host_acts core.epoch o.counted r call;
    fence = o.fence;
    covered =
        subst EntriesCovered (sym all_now)
        (pairs_append R (opened_entries core) (read ∷ []) o.covered (tt, tt)
        (all_append (λ x. AllByRecursion (R x) (read ∷ [])) (flat (before_open core)) (entries core.open_chunk)
        (all_map (λ x. KnownIn core x × IsPast core r.block x) (λ x. AllByRecursion (R x) (read ∷ []))
        (λ x h. (before_read x h.0 (past_old x h.1), tt)) (flat (before_open core))
        (all_both (KnownIn core) (IsPast core r.block) (flat (before_open core)) o.known past))
        (subst (AllByRecursion (λ x. AllByRecursion (R x) (read ∷ []))) (sym open_is)
        (all_map (λ x. KnownIn core x × (is_host x.act ≡ true)) (λ x. AllByRecursion (R x) (read ∷ []))
        (λ x h. (before_read x h.0 (λ dev. absurd (let z : true ≡ false = sym h.1 ∙ dev in cc z)), tt))
        core.open_chunk.reads
        (all_both (KnownIn core) (λ x. is_host x.act ≡ true) core.open_chunk.reads
        (subst (AllByRecursion (KnownIn core)) open_is o.known_open) shaped)))));
    known = all_map (KnownIn core) (KnownIn now) (known_still core) (flat (before_open core)) o.known;
    known_open =
        subst (AllByRecursion (KnownIn now)) (sym open_more)
        (all_append (KnownIn now) (entries core.open_chunk) (read ∷ [])
        (all_map (KnownIn core) (KnownIn now) (known_still core) (entries core.open_chunk) o.known_open)
        (known_act core (Host_read r) refl o.fence, tt));
    since = o.since;
    numbered = subst (AllByRecursion (λ x. x.chunk ≡ open_number core)) (sym open_more)
        (all_append (λ x. x.chunk ≡ open_number core) (entries core.open_chunk) (read ∷ []) o.numbered (refl, tt));
    shaped = (
      all_append (λ x. is_host_read x.act ≡ true) core.open_chunk.reads (read ∷ []) o.shaped.0 (refl, tt),
      o.shaped.1,
      o.shaped.2,
    );
    binds = o.binds;
    filled = o.filled;
    filled_open = subst (AllByRecursion IsFilled) (sym open_more)
        (all_append IsFilled (entries core.open_chunk) (read ∷ []) o.filled_open ((filled, tt), tt));
    copies = λ q b st is n i l. o.copies q b st is (used_last (later core) core.open_chunk now.open_chunk b refl
        ∙ n) i l ∙ ap (λ f. f b i) (sym read_memory);
    names = o.names;
    names_open = o.names_open;
    elsewhere = o.elsewhere;
  }
    where
      R : Entry → Entry → Type 0
      R x y = entries_conflict x y ≡ true → entry_before x y ≡ true

      IsListed_of : List Entry → Type 0
      IsListed_of acts = IsListed core.is_staging now.listing core.open_chunk.ops core.contents core.recent
          core.open_chunk.commands (open_number core) acts

      acts_now : (flat (before_open core) ++ (core.open_chunk.reads ++ core.open_chunk.writes)) ++ read ∷ []
          ≡ flat (before_open core) ++ ((core.open_chunk.reads ++ read ∷ []) ++ core.open_chunk.writes)
      acts_now =
          ap (λ l. (flat (before_open core) ++ (core.open_chunk.reads ++ l)) ++ read ∷ []) bare.0
          ∙ ap (λ l. (flat (before_open core) ++ l) ++ read ∷ []) (append-nil core.open_chunk.reads)
          ∙ append_assoc (flat (before_open core)) core.open_chunk.reads (read ∷ [])
          ∙ sym (ap (λ l. flat (before_open core) ++ ((core.open_chunk.reads ++ read ∷ []) ++ l)) bare.0
          ∙ ap (λ l. flat (before_open core) ++ l) (append-nil (core.open_chunk.reads ++ read ∷ [])))

-- The answer --------------------------------------------------------------------------------------------------------

read_is_host : (xs : List Entry) → AllByRecursion (λ x. is_host_read x.act ≡ true) xs
    → AllByRecursion (λ x. is_host x.act ≡ true) xs
read_is_host xs h = all_map (λ x. is_host_read x.act ≡ true) (λ x. is_host x.act ≡ true) (λ x k. one x.act k) xs h
  where
    one : (a : Act) → is_host_read a ≡ true → is_host a ≡ true
    one (Host_write target bytes) k = absurd (cc k)
    one (Device d) k = absurd (cc k)
    one (Host_read source) k = refl

-- commands of chunks that do not bind the block do not touch it
unbound_past : (core : Core) (b : ℕ) (ss : List Segment) → AllByRecursion IsShaped ss → AllByRecursion BindsUses ss
    → used_in ss b ≡ false → AllByRecursion (IsPast core b) (flat ss)
unbound_past core b [] h k u = tt
unbound_past core b (s ∷ ss) h k u =
    let n = none_bound b (s ∷ ss) u in
    all_append (IsPast core b) (entries s) (flat ss)
    (all_append (IsPast core b) s.reads (s.writes ++ s.commands)
    (all_map (λ x. is_host x.act ≡ true) (IsPast core b)
    (λ x t d. absurd (let z : true ≡ false = sym t ∙ d in cc z)) s.reads (read_is_host s.reads h.0.0))
    (all_append (IsPast core b) s.writes s.commands
    (all_map (λ x. is_host_write x.act ≡ true) (IsPast core b)
    (λ x t d. absurd (let z : true ≡ false = sym (write_is_host x.act t) ∙ d in cc z)) s.writes h.0.1)
    (all_map (λ x. is_host x.act ≡ false → (b i : ℕ) → is_touched (act_touches x.act) b i ≡ true
    → has_block b s.bound ≡ true) (IsPast core b)
    (λ x t d. inr (λ i. elim (cases_Bool (is_touched (act_touches x.act) b i))
    [ inl y ↦ absurd (both_ways (has_block b s.bound) n.0 (t d b i y)) | inr f ↦ f ])) s.commands k.0.0)))
    (unbound_past core b ss h.1 k.1 (rest (has_block b s.bound) (used_in ss b) u))
  where
    rest : (a c : Bool) → (a || c) ≡ false → c ≡ false
    rest true c e = absurd (cc e)
    rest false c e = e

module _ (meaning : Meaning) (reading : Reading) (script : Script) (lawful : IsLawful meaning script) (old : Core)
    (call : ℕ) (source : Range) (used : Option ℕ) (may_pend : Bool) (turns : List Turn)
    (e : old.future ≡ Asked call (Bytes source) used may_pend ∷ turns)
    (due : is_due script old.open_chunk.turns old.future ≡ false) (k : Kept meaning reading script old)
    (fin : is_finished used (done old) ≡ true) where
  abbrev turn : Turn
  turn = Asked call (Bytes source) used may_pend

  abbrev before : InOrder
  before = in_order meaning script old.past at_start

  abbrev taken : Core
  taken = with_turn turn turns old

  here : script.turns ≡ old.past ++ turn ∷ turns
  here = sym (ap (λ l. old.past ++ l) (sym e) ∙ k.good.sound.position)

  asks : AsksRightly meaning script old.past (Bytes source)
  asks = lawful.asks old.past call (Bytes source) used may_pend turns here

  block : (b : ℕ) × (old.blocks source.block ≡ Some b)
  block = k.good.stands.has_block source.block asks.0.0

  at_block : block_of old.blocks source.block ≡ block.0
  at_block = ap or_zero block.1

  unused : used_in (later old ++ old.open_chunk ∷ []) block.0 ≡ false
  unused = is_unused meaning reading script lawful old k source.block block.0 used asks.1 block.1
      (lawful.uses old.past call (Bytes source) used may_pend turns here) fin

  -- the copies are what the in-order state has
  pub right_bytes : copied_bytes old (range_on old.blocks source)
      ≡ map (λ i. before.bytes source.block i) (numbers_from source.from (source.to - source.from))
  right_bytes =
      map_numbers (λ i. old.copies (block_of old.blocks source.block) i) (λ i. before.bytes source.block i)
      source.from (source.to - source.from)
      (λ i l u.
      let less = asks.2 in
      let long = asks.0.1 in
      let inside : i < script.size source.block = omega (arith, u, less, long) in
      ap (λ b. old.copies b i) at_block ∙ k.good.sound.copies source.block block.0 asks.1 block.1 unused i inside
      ∙ k.good.stands.bytes source.block block.0 i block.1 inside)

  taken_opened : Opened meaning script taken
  taken_opened =
      opened_turn meaning script old (opened meaning reading script old k.good.sound) (old.past ++ turn ∷ []) turns
      (old.open_chunk.turns ++ turn ∷ []) old.open_chunk.placed old.open_chunk.queries

  -- the chunks behind the posts that were taken do not touch the block
  past : AllByRecursion (IsPast old (block_of old.blocks source.block)) (flat (before_open old))
  past =
      let b = block_of old.blocks source.block in
      let s = k.good.sound in
      let segs = segments_handed old in
      let front : (P : Segment → Type 0) → AllByRecursion P (segments old)
      → AllByRecursion P (before_open old) = λ P h. all_front P (before_open old) (old.open_chunk ∷ [])
      (subst (AllByRecursion P) segs h) in
      subst (AllByRecursion (IsPast old b)) (sym (flat-append old.taken (later old)))
      (all_append (IsPast old b) (flat old.taken) (flat (later old))
      (all_map (λ x. x.chunk ≤ taken_count old) (IsPast old b) (λ x l d. inl l) (flat old.taken)
      (numbered_below 0 (taken_count old) old.taken (omega arith)
      (numbered_front 0 old.taken (later old) (numbered_front 0 (before_open old) (old.open_chunk ∷ [])
      (subst (Numbered 0) segs s.numbered)))))
      (unbound_past old b (later old) (all_back IsShaped old.taken (later old) (front IsShaped s.shaped))
      (all_back BindsUses old.taken (later old) (front BindsUses s.binds))
      (used_front (later old) (old.open_chunk ∷ []) b (ap (λ b. used_in (later old ++ old.open_chunk ∷ []) b)
      at_block ∙ unused))))

  read_opened : Opened meaning script (reads_range call (range_on old.blocks source) taken)
  read_opened =
      opened_read meaning script taken taken_opened call (range_on old.blocks source) asks.2
      (ap old.is_staging at_block ∙ k.beside.blocks.alike source.block block.0 block.1 ∙ asks.1)
      (k.traced.quiet (is_bare meaning reading script lawful old k call (Bytes source) used may_pend turns e due))
      k.fenced past (read_is_host old.open_chunk.reads taken_opened.shaped.0)

  m : Meets meaning script old before
  m = met meaning reading script old k.good

  -- what is left stays
  pub left_now : (u : Option ℕ) → left_by meaning (with_read call (range_on old.blocks source) u taken)
      ≡ left_by meaning old
  left_now None = refl
  left_now (Some n) =
      read_left meaning script taken taken_opened call (range_on old.blocks source) asks.2
      (ap old.is_staging at_block ∙ k.beside.blocks.alike source.block block.0 block.1 ∙ asks.1)
      (k.traced.quiet (is_bare meaning reading script lawful old k call (Bytes source) used may_pend turns e due))
      k.fenced past (read_is_host old.open_chunk.reads taken_opened.shaped.0) empty

  read_good : (u : Option ℕ) → Good meaning reading script (with_read call (range_on old.blocks source) u taken)
  read_good None = taken_good meaning reading script old taken turn turns e due refl refl refl refl k.good
      taken_opened (record { stands = m.stands; live = m.live; totals = m.totals })
  read_good (Some n) =
      let same = left_now (Some n) in
      taken_good meaning reading script old (reads_range call (range_on old.blocks source) taken) turn turns e due
      refl refl refl refl k.good read_opened (record {
        stands = subst (λ w. Stands script w.memory old.blocks before) (sym same) m.stands;
        live = m.live;
        totals = subst (λ w. Totals w.counts old.commands before) (sym same) m.totals;
      })

  read_beside : (u : Option ℕ) → Beside script (with_read call (range_on old.blocks source) u taken)
  read_beside None = unconcerned script _ taken (quiet_beside script old turn (λ r. refl) k.beside)
  read_beside (Some n) = unconcerned script _ (reads_range call (range_on old.blocks source) taken)
      (quiet_beside script old turn (λ r. refl) k.beside)

  read_fenced : (u : Option ℕ) → (let c = with_read call (range_on old.blocks source) u taken in
      taken_count c ≤ c.fence)
  read_fenced None = k.fenced
  read_fenced (Some n) = k.fenced

  read_traced : (u : Option ℕ) → IsTraced script (with_read call (range_on old.blocks source) u taken)
  read_traced None = turn_traced meaning reading script old turn k
  read_traced (Some n) = turn_traced meaning reading script old turn k

  -- the call is answered
  pub bytes_kept : Kept meaning reading script
      (with_reply (Bytes_said call (copied_bytes old (range_on old.blocks source)))
      (with_read call (range_on old.blocks source) used taken))
  bytes_kept =
      let c = with_read call (range_on old.blocks source) used taken in
      let right : IsRight meaning script (Bytes_said call (copied_bytes old (range_on old.blocks source))) =
      (Bytes source, used, record { front = old.past; may_pend = may_pend; back = turns; here = here }, right_bytes) in
      record {
        good = said_good meaning reading script c c.ended (Bytes_said call
            (copied_bytes old (range_on old.blocks source))) right (read_good used);
        beside = unconcerned script c (with_reply (Bytes_said call (copied_bytes old (range_on old.blocks source)))
            c) (read_beside used);
        fenced = read_fenced used;
        traced = read_traced used;
      }

pub asked_bytes_kept : (meaning : Meaning) (reading : Reading) (script : Script) → IsLawful meaning script
    → (old : Core) (call : ℕ) (source : Range) (used : Option ℕ) (may_pend : Bool) (turns : List Turn) (new : Core)
    → old.future ≡ Asked call (Bytes source) used may_pend ∷ turns
    → is_due script old.open_chunk.turns old.future ≡ false
    → TakesTurn reading script (Asked call (Bytes source) used may_pend) turns old new
    → Kept meaning reading script old → Kept meaning reading script new
asked_bytes_kept meaning reading script lawful old call source used may_pend turns new e due (inl h) k =
    subst (Kept meaning reading script) (sym h.1) (bytes_kept meaning reading script lawful old call source used
    may_pend turns e due k h.0)
asked_bytes_kept meaning reading script lawful old call source used may_pend turns new e due (inr h) k =
    subst (Kept meaning reading script) (sym h.2) (pending_kept meaning reading script old call (Bytes source) used
    may_pend turns e due h.0 k)
