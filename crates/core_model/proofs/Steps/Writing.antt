-- A host write more in the open chunk. It stands before the open chunk's commands, none of which touches what it
-- writes.
use Rattle.std.proofs.Common.{◌≡◌, ℕ, suc, ◌-◌, ◌<◌, ◌≤◌, Bool, true, false, cond, ◌||◌, ◌==◌, nat_lt, nat_le, List}
use Rattle.std.proofs.Common.{[], ◌∷◌, ◌++◌, length, refl, sym, ap, ◌∙◌, subst, ◌⊎◌, inl, inr, Some, arith}
use Rattle.std.proofs.Common.{append_assoc}
use Rattle.std.specs.List.{AllByRecursion}
use Rattle.std.proofs.lemmas.Bool.{both_ways, cases_Bool, lt-ltb, le-leb, eqb-true}
use Rattle.dx_types.specs.declared.range.Range.{Range}
use Rattle.vk_types.specs.Memory.{zeros, covers, number_at}
use Rattle.vk_types.specs.Effects.{Meaning, Host_write, act_touches, is_host}
use Rattle.vk_types.specs.Entries.{Entry, entry_before, entries_conflict, EntriesCovered, run_entries}
use Rattle.base_lemmas.proofs.Lists.{all_front, all_back, all_append, all_map, all_both, pairs_with}
use Rattle.vk_types.proofs.Local.{common, covered_block, covered_from, covered_to}
use Rattle.vk_types.proofs.Reorder.{to_front, Commute}
use Rattle.core_model.specs.Script.{Script}
use Rattle.core_model.specs.CoreState.{entries, flat, Core, later, taken_count, finished_count, open_number}
use Rattle.core_model.specs.Adding.{has_block, new_entry}
use Rattle.core_model.specs.Stands.{touches_block, is_host_write}
use Rattle.core_model.specs.Worlds.{World, empty, world_step, run_world}
use Rattle.core_model.specs.Listed.{IsListed}
use Rattle.core_model.specs.Invariant.{Allows, KnownIn, IsFilled}
use Rattle.core_model.proofs.Listing.Worlds.{run_world_is, run_world-append, world_memory, may_exchange}
use Rattle.core_model.proofs.Steps.Turning.{used_last}
use Rattle.core_model.proofs.Listing.MoreListed.{write_listed, write_counted}
use Rattle.core_model.proofs.Steps.Handing.{Elsewhere}
use Rattle.core_model.proofs.Steps.Opened.{known_still, known_act, before_open, opened_entries, Opened}
use Rattle.vk_types.specs.declared.op.VkOp.TheVariants as op

-- the state with one host write more
abbrev pub with_bytes : ℕ → Range → List ℕ → Core → Core
with_bytes call r bytes core = record core {
  open_chunk = record core.open_chunk { writes = core.open_chunk.writes ++ new_entry core (Host_write r bytes) ∷ [] };
  listing = core.listing ++ op.HostWrite r call ∷ [];
  contents = core.contents ++ bytes ∷ [];
  host_acts = suc core.host_acts;
}

module _ (meaning : Meaning) (script : Script) (core : Core) (o : Opened meaning script core) (call : ℕ) (r : Range)
    (bytes : List ℕ)
    (long : length bytes ≡ r.to - r.from) (filled : r.from < r.to)
    -- what may touch a byte of the range is of a chunk that a fence finished
    (old_at : (i chunk : ℕ) → Allows (taken_count core) (finished_count core) (core.owner r.block) i chunk
    → r.from ≤ i → i < r.to → chunk ≤ core.fence) where
  abbrev entry : Entry
  entry = new_entry core (Host_write r bytes)

  abbrev written : Core
  written = with_bytes call r bytes core

  -- what stands before the open chunk's commands
  abbrev acts : List Entry
  acts = flat (before_open core) ++ (core.open_chunk.reads ++ core.open_chunk.writes)

  split : opened_entries core ≡ acts ++ core.open_chunk.commands
  split =
      let c = core.open_chunk in
      ap (λ l. flat (before_open core) ++ l) (sym (append_assoc c.reads c.writes c.commands))
      ∙ sym (append_assoc (flat (before_open core)) (c.reads ++ c.writes) c.commands)

  split_new : opened_entries written ≡ acts ++ entry ∷ core.open_chunk.commands
  split_new =
      let c = core.open_chunk in
      ap (λ l. flat (before_open core) ++ (c.reads ++ l)) (append_assoc c.writes (entry ∷ []) c.commands)
      ∙ ap (λ l. flat (before_open core) ++ l) (sym (append_assoc c.reads c.writes (entry ∷ c.commands)))
      ∙ sym (append_assoc (flat (before_open core)) (c.reads ++ c.writes) (entry ∷ c.commands))

  new_acts : flat (before_open core) ++ (core.open_chunk.reads ++ (core.open_chunk.writes ++ entry ∷ []))
      ≡ acts ++ entry ∷ []
  new_acts =
      ap (λ l. flat (before_open core) ++ l)
      (sym (append_assoc core.open_chunk.reads core.open_chunk.writes (entry ∷ [])))
      ∙ sym (append_assoc (flat (before_open core)) (core.open_chunk.reads ++ core.open_chunk.writes) (entry ∷ []))

  -- a command that conflicts with it is of a chunk that a fence finished
  conflict_old : (y : Entry) → KnownIn core y → is_host y.act ≡ false → entries_conflict y entry ≡ true
      → y.chunk ≤ core.fence
  conflict_old y k dev h =
      let at = common (act_touches y.act) (act_touches entry.act) h in
      let inside : covers r at.0 at.1 ≡ true = covered_one (covers r at.0 at.1) at.3 in
      let here : at.0 ≡ r.block = sym (covered_block r at.0 at.1 inside) in
      old_at at.1 y.chunk (subst (λ b. Allows (taken_count core) (finished_count core) (core.owner b) at.1 y.chunk)
      here (k.owned dev at.0 at.1 at.2)) (covered_from r at.0 at.1 inside) (covered_to r at.0 at.1 inside)
    where
      covered_one : (c : Bool) → (c || false) ≡ true → c ≡ true
      covered_one true e = refl
      covered_one false e = absurd (cc e)

  before_new : (y : Entry) → KnownIn core y → entries_conflict y entry ≡ true → entry_before y entry ≡ true
  before_new y k h = by_side (cases_Bool (is_host y.act))
    where
      by_side : (is_host y.act ≡ true) ⊎ (is_host y.act ≡ false) → entry_before y entry ≡ true
      by_side (inl t) = ap (λ a. cond a (nat_lt y.number core.host_acts) (nat_le y.chunk core.fence)) t
          ∙ lt-ltb y.number core.host_acts (k.counted t)
      by_side (inr f) = ap (λ a. cond a (nat_lt y.number core.host_acts) (nat_le y.chunk core.fence)) f
          ∙ le-leb y.chunk core.fence (conflict_old y k f h)

  -- the open chunk's commands
  abbrev IsOpen : Entry → Type 0
  IsOpen y = (KnownIn core y × (y.chunk ≡ open_number core)) × (is_host y.act ≡ false)

  commands_of : AllByRecursion IsOpen core.open_chunk.commands
  commands_of =
      let c = core.open_chunk in
      all_both (λ y. KnownIn core y × (y.chunk ≡ open_number core)) (λ y. is_host y.act ≡ false) c.commands
      (all_back (λ y. KnownIn core y × (y.chunk ≡ open_number core)) c.writes c.commands
      (all_back (λ y. KnownIn core y × (y.chunk ≡ open_number core)) c.reads (c.writes ++ c.commands)
      (all_both (KnownIn core) (λ y. y.chunk ≡ open_number core) (entries c) o.known_open o.numbered)))
      o.shaped.2

  after_new : (y : Entry) → IsOpen y → entry_before entry y ≡ true
  after_new y h = let n = h.0.1 in
      ap (λ a. cond a (nat_lt core.host_acts y.number) (nat_le (open_number core) y.chunk)) h.1
      ∙ le-leb (open_number core) y.chunk (omega (arith, n))

  free : (y : Entry) → IsOpen y → Commute (world_step meaning) entry y
  free y h m =
      elim (cases_Bool (entries_conflict y entry)) [
        | inl t ↦ let n = h.0.1 in let l = conflict_old y h.0.0 h.1 t in let f = o.fence in
            absurd (let z : ⊥ = omega (arith, n, l, f) in z)
        | inr f ↦ sym (may_exchange meaning y entry f m)
      ]

  -- what all leave is the write on what the others leave
  pub written_world : (w : World) → run_world meaning (opened_entries written) w
      ≡ world_step meaning entry (run_world meaning (opened_entries core) w)
  written_world w =
      let cs = core.open_chunk.commands in
      let v = run_world meaning acts w in
      ap (λ l. run_world meaning l w) split_new ∙ run_world-append meaning acts (entry ∷ cs) w
      ∙ ap (λ l. run_world meaning l (world_step meaning entry v)) (sym (nothing_behind cs))
      ∙ run_world_is meaning (cs ++ []) (world_step meaning entry v)
      ∙ sym (to_front (world_step meaning) entry cs [] (all_map IsOpen (λ y. Commute (world_step meaning) entry y)
      free cs commands_of) v)
      ∙ sym (run_world_is meaning (cs ++ entry ∷ []) v) ∙ run_world-append meaning cs (entry ∷ []) v
      ∙ ap (world_step meaning entry) (sym (run_world-append meaning acts cs w))
      ∙ ap (λ l. world_step meaning entry (run_world meaning l w)) (sym split)
    where
      nothing_behind : (l : List Entry) → l ++ [] ≡ l
      nothing_behind [] = refl
      nothing_behind (x ∷ l) = ap (λ m. x ∷ m) (nothing_behind l)

  -- the bytes of other blocks stay
  pub other_bytes : (b i : ℕ) → (r.block ≡ b → ⊥) → run_entries meaning (opened_entries written) zeros b i
      ≡ run_entries meaning (opened_entries core) zeros b i
  other_bytes b i other =
      ap (λ f. f b i) (sym (world_memory meaning (opened_entries written) empty))
      ∙ ap (λ w. w.memory b i) (written_world empty)
      ∙ elim (cases_Bool (covers r b i)) [
        | inl t ↦ absurd (other (covered_block r b i t))
        | inr f ↦ ap (λ c. cond c (number_at bytes (i - r.from))
            ((run_world meaning (opened_entries core) empty).memory b i)) f
      ]
      ∙ ap (λ f. f b i) (world_memory meaning (opened_entries core) empty)

  -- what holds of the entries of the open chunk and of the write holds of all now
  with_new : (P : Entry → Type 0) → AllByRecursion P (entries core.open_chunk) → P entry
      → AllByRecursion P (entries written.open_chunk)
  with_new P h k =
      let c = core.open_chunk in
      let behind = all_back P c.reads (c.writes ++ c.commands) h in
      all_append P c.reads ((c.writes ++ entry ∷ []) ++ c.commands) (all_front P c.reads (c.writes ++ c.commands) h)
      (all_append P (c.writes ++ entry ∷ []) c.commands (all_append P c.writes (entry ∷ [])
      (all_front P c.writes c.commands behind) (k, tt)) (all_back P c.writes c.commands behind))

  -- it writes to no live staging buffer, and to no block that an earlier chunk names
  pub opened_write : ((q b : ℕ) → script.is_staging q ≡ true → core.blocks q ≡ Some b → r.block ≡ b → ⊥)
      → AllByRecursion (λ s. has_block r.block s.staging ≡ false) (before_open core)
      → Opened meaning script written
  opened_write unstaged unnamed = record {
    grows =
        subst (IsListed_of) (sym new_acts)
        (write_listed core.is_staging core.listing core.open_chunk.ops core.contents core.recent
        core.open_chunk.commands _ _ o.grows core.fence core.host_acts core.epoch o.counted r call bytes long);
    counted = write_counted core.is_staging core.listing core.open_chunk.ops core.contents core.recent
        core.open_chunk.commands _ _ o.grows core.fence core.host_acts core.epoch o.counted r call;
    fence = o.fence;
    covered =
        subst EntriesCovered (sym split_new)
        (pairs_with (λ x y. entries_conflict x y ≡ true → entry_before x y ≡ true) entry acts
        core.open_chunk.commands (subst EntriesCovered split o.covered)
        (all_map (KnownIn core) (λ y. entries_conflict y entry ≡ true → entry_before y entry ≡ true) before_new acts
        (all_append (KnownIn core) (flat (before_open core)) (core.open_chunk.reads ++ core.open_chunk.writes) o.known
        (all_front (KnownIn core) (core.open_chunk.reads ++ core.open_chunk.writes) core.open_chunk.commands
        (subst (AllByRecursion (KnownIn core))
        (sym (append_assoc core.open_chunk.reads core.open_chunk.writes core.open_chunk.commands))
        o.known_open))))
        (all_map IsOpen (λ y. entries_conflict entry y ≡ true
        → entry_before entry y ≡ true) (λ y h c. after_new y h) core.open_chunk.commands commands_of));
    known = all_map (KnownIn core) (KnownIn written) (known_still core) (flat (before_open core)) o.known;
    known_open = with_new (KnownIn written) (all_map (KnownIn core) (KnownIn written) (known_still core)
        (entries core.open_chunk) o.known_open) (known_act core (Host_write r bytes) refl o.fence);
    since = o.since;
    numbered = with_new (λ x. x.chunk ≡ open_number core) o.numbered refl;
    shaped = (
      o.shaped.0,
      all_append (λ x. is_host_write x.act ≡ true) core.open_chunk.writes (entry ∷ [])
          o.shaped.1 (refl, tt),
      o.shaped.2,
    );
    binds = o.binds;
    filled = o.filled;
    filled_open = with_new IsFilled o.filled_open (filled, tt);
    copies = λ q b st is n i l. o.copies q b st is (used_last (later core) core.open_chunk written.open_chunk b refl
        ∙ n) i l ∙ sym (other_bytes b i (unstaged q b st is));
    names = o.names;
    names_open = o.names_open;
    elsewhere =
        all_map (λ s. Elsewhere s core.open_chunk × (has_block r.block s.staging ≡ false))
        (λ s. Elsewhere s written.open_chunk)
        (λ s h b named.
        all_append (λ x. touches_block x.act b ≡ false) core.open_chunk.writes (entry ∷ []) (h.0 b named) (
          elim (cases_Bool (r.block == b)) [
            | inl t ↦ absurd (both_ways (has_block r.block s.staging) h.1
                (ap (λ b. has_block b s.staging) (eqb-true r.block b t) ∙ named))
            | inr f ↦ ap (λ c. c || false) f
          ],
          tt,
        ))
        (before_open core)
        (all_both (λ s. Elsewhere s core.open_chunk) (λ s. has_block r.block s.staging ≡ false) (before_open core)
        o.elsewhere unnamed);
  }
    where
      IsListed_of : List Entry → Type 0
      IsListed_of acts = IsListed core.is_staging written.listing core.open_chunk.ops written.contents core.recent
          core.open_chunk.commands (open_number core) acts
