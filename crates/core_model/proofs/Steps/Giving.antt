-- A buffer takes a block: one that was not made yet, or one at home. No command of a chunk that is not finished
-- touches it.
use Rattle.std.proofs.Common.{◌≡◌, ℕ, ◌-◌, ◌<◌, ◌≤◌, Bool, true, false, cond, ◌==◌, List, [], ◌∷◌}
use Rattle.std.proofs.Common.{◌++◌, length, refl, sym, ap, ◌∙◌, subst, inl, inr, Some, arith}
use Rattle.std.specs.List.{AllByRecursion}
use Rattle.std.proofs.lemmas.Bool.{both_ways, cases_Bool, eqb-true, eq-eqb}
use Rattle.dx_types.specs.declared.range.Range.{Range}
use Rattle.vk_types.specs.declared.message.Placed.{Placed}
use Rattle.vk_types.specs.declared.op.VkOp.{VkOp}
use Rattle.vk_types.specs.Memory.{zeros, range, number_at}
use Rattle.vk_types.specs.Effects.{Meaning}
use Rattle.vk_types.specs.Entries.{Entry, run_entries}
use Rattle.base_lemmas.proofs.Lists.{all_front, all_back, all_map}
use Rattle.vk_types.proofs.Local.{covered}
use Rattle.core_model.specs.Script.{Turn, Script, InOrder, updated, at_start, in_order}
use Rattle.core_model.specs.CoreState.{Segment, Owner, Live}
use Rattle.core_model.specs.CoreState.{Board, Pool, Core, later, taken_count, finished_count, open_number}
use Rattle.core_model.specs.Readings.{Reading}
use Rattle.core_model.specs.Owners.{nothing_bound}
use Rattle.core_model.specs.Adding.{has_block, retired_by}
use Rattle.core_model.specs.OtherParts.{used_in}
use Rattle.core_model.specs.Worlds.{empty}
use Rattle.core_model.specs.Listed.{IsListed}
use Rattle.core_model.specs.Invariant.{Allows, IsSince, IsLive, NamesStaging, Totals, Good, listed_acts}
use Rattle.core_model.specs.Kept.{Names, Kept}
use Rattle.core_model.proofs.Listing.Worlds.{world_memory}
use Rattle.core_model.proofs.Steps.Writing.{with_bytes, written_world, other_bytes, opened_write}
use Rattle.core_model.proofs.Steps.Opened.{before_open, opened_entries, Opened, opened, opened_turn, opened_owner}
use Rattle.core_model.proofs.Steps.Opened.{opened_fenced}
use Rattle.core_model.proofs.Steps.Taking.{left_by, Meets}
pub use Rattle.core_model.proofs.Steps.VacantBlocks.{IsVacant, vacant_since, vacant_lives, vacant_buffer, stocked}
pub use Rattle.core_model.proofs.Steps.VacantBlocks.{vacant, own_unmade, has_parts, Fenced, same_fence, more_fence}
use Rattle.core_model.proofs.Steps.VacantBlocks.{vacant_allows}

-- The block is the buffer's -----------------------------------------------------------------------------------------

module _ (meaning : Meaning) (reading : Reading) (script : Script) (old : Core)
    (k : Kept meaning reading script old) (t : Turn) (turns : List Turn) (placed : List Placed) (buffer block : ℕ)
    (board : Board) (pool : Pool) (own : ℕ → Owner) (listing : List VkOp) (fence : ℕ)
    (keep : (b i chunk : ℕ) → chunk ≤ open_number old → Allows (taken_count old) (finished_count old) (old.owner b)
    i chunk → Allows (taken_count old) (finished_count old) (own b) i chunk)
    (since : (b : ℕ) → IsSince (finished_count old) (own b)) (fenced : Fenced old listing fence)
    (empty_block : IsVacant (old.owner block)) (same_owner : own block ≡ old.owner block)
    (finished : retired_by (old.owner block) ≤ fence) where
  abbrev g : Good meaning reading script old
  g = k.good

  abbrev pub given : Core
  given = record old {
    past = old.past ++ t ∷ [];
    future = turns;
    owner = updated block (Live buffer fence nothing_bound) own;
    board = board;
    pool = pool;
    listing = listing;
    fence = fence;
    open_chunk = record old.open_chunk { turns = old.open_chunk.turns ++ t ∷ []; placed = placed };
  }

  taken_over : (b i chunk : ℕ) → Allows (taken_count old) (finished_count old) (own b) i chunk
      → Allows (taken_count old) (finished_count old) (given.owner b) i chunk
  taken_over b i chunk a =
      elim (cases_Bool (b == block)) [
        | inl e ↦
            let same = eqb-true b block e in
            let here : Allows (taken_count old) (finished_count old) (old.owner block) i chunk =
            subst (λ o. Allows (taken_count old) (finished_count old) o i chunk) same_owner
            (subst (λ b. Allows (taken_count old) (finished_count old) (own b) i chunk) same a) in
            let l = vacant_allows (taken_count old) (finished_count old) i chunk (old.owner block) empty_block here in
            subst (λ c. Allows (taken_count old) (finished_count old)
            (cond c (Live buffer fence nothing_bound) (own b)) i chunk) (sym e) (inl (omega (arith, l, finished)))
        | inr n ↦ subst (λ c. Allows (taken_count old) (finished_count old)
            (cond c (Live buffer fence nothing_bound) (own b)) i chunk) (sym n) a
      ]

  given_since : (b : ℕ) → IsSince (finished_count old) (given.owner b)
  given_since b = by (b == block)
    where
      by : (c : Bool) → IsSince (finished_count old) (cond c (Live buffer fence nothing_bound) (own b))
      by true = fenced.below
      by false = since b

  pub given_opened : Opened meaning script given
  given_opened =
      let o = opened meaning reading script old g.sound in
      let taken = opened_turn meaning script old o (old.past ++ t ∷ []) turns (old.open_chunk.turns ++ t ∷ [])
      placed old.open_chunk.queries in
      let owned = opened_owner meaning script _ taken own board pool keep since in
      let listed = opened_fenced meaning script _ owned listing fence fenced.listed fenced.counted fenced.below in
      opened_owner meaning script _ listed given.owner board pool (λ b i chunk l a. taken_over b i chunk a) given_since

  here_owner : given.owner block ≡ Live buffer fence nothing_bound
  here_owner = ap (λ c. cond c (Live buffer fence nothing_bound) (own block)) (eq-eqb block block refl)

  -- What the block begins with --------------------------------------------------------------------------------------

  -- the state once bytes are written to it, if there are any: it holds them, and other blocks what they held
  pub record Fills (L : ℕ) (bytes : List ℕ) (core : Core) : Type 0 where
    pub opened : Opened meaning script core
    pub others : (b i : ℕ) → (block ≡ b → ⊥) → (left_by meaning core).memory b i ≡ (left_by meaning old).memory b i
    pub here : (i : ℕ) → i < L → (left_by meaning core).memory block i ≡ number_at bytes i
    pub counts : (left_by meaning core).counts ≡ (left_by meaning old).counts

  pub fills_none : (bytes : List ℕ) → Fills 0 bytes given
  fills_none bytes = record {
    opened = given_opened;
    others = λ b i n. refl;
    here = λ i l. absurd (let z : ⊥ = omega (arith, l) in z);
    counts = refl;
  }

  module _ (call L : ℕ) (bytes : List ℕ) (long : length bytes ≡ L) (some : 0 < L) where
    abbrev target : Range
    target = range block 0 L

    long_enough : length bytes ≡ target.to - target.from
    long_enough = omega (arith, long)

    old_at : (i chunk : ℕ) → Allows (taken_count old) (finished_count old) (given.owner target.block) i chunk
        → target.from ≤ i → i < target.to → chunk ≤ fence
    old_at i chunk a l u =
        elim (let z : Allows (taken_count old) (finished_count old) (Live buffer fence nothing_bound) i chunk =
        subst (λ o. Allows (taken_count old) (finished_count old) o i chunk) here_owner a in z) [
          | inl h ↦ h
          | inr n ↦ absurd (cc n)
        ]

    pub fills_bytes : Fills L bytes (with_bytes call target bytes given)
    fills_bytes = record {
      opened =
          opened_write meaning script given given_opened call target bytes long_enough some old_at
          (λ q b st is same. vacant_lives q (old.owner block) empty_block
          (subst (λ b. IsLive q (old.owner b)) (sym same) (g.live q b is)))
          (all_map (λ s. Names old.is_staging old.owner s.staging s.bound) (λ s. has_block block s.staging ≡ false)
          (λ s named.
          elim (cases_Bool (has_block block s.staging)) [
            | inl t ↦ absurd (vacant_buffer (old.owner block) empty_block
                (k.beside.blocks.held block (named.0 block t)).0)
            | inr f ↦ f
          ])
          (before_open old) k.beside.named);
      others = λ b i n.
          ap (λ f. f b i) (world_memory meaning (opened_entries (with_bytes call target bytes given)) empty)
          ∙ other_bytes meaning script given given_opened call target bytes long_enough some old_at b i n
          ∙ ap (λ f. f b i) (sym (world_memory meaning (opened_entries old) empty));
      here = λ i l.
          ap (λ w. w.memory block i) (written_world meaning script given given_opened call target bytes long_enough
          some old_at empty)
          ∙ ap (λ c. cond c (number_at bytes (i - 0)) ((left_by meaning old).memory block i))
          (covered target block i refl (omega arith) l)
          ∙ ap (number_at bytes) (omega arith);
      counts = ap (λ w. w.counts) (written_world meaning script given given_opened call target bytes long_enough
          some old_at empty);
    }

  -- The buffer has it -----------------------------------------------------------------------------------------------

  module _ (writes : List Entry) (listing' : List VkOp) (contents : List (List ℕ)) (host_acts L : ℕ)
      (bytes : List ℕ) where
    abbrev pub filled : Core
    filled = record given {
      listing = listing';
      contents = contents;
      host_acts = host_acts;
      open_chunk = record given.open_chunk { writes = writes };
    }

    module _ (f : Fills L bytes filled) (copies : ℕ → ℕ → ℕ) (is_staging : ℕ → Bool)
        (restaged : IsListed is_staging listing' old.open_chunk.ops contents old.recent old.open_chunk.commands
        (open_number old) (listed_acts filled))
        (same_copies : (b : ℕ) → (block ≡ b → ⊥) → copies b ≡ old.copies b)
        (copied : script.is_staging buffer ≡ true → (i : ℕ) → i < script.size buffer
        → copies block i ≡ (left_by meaning filled).memory block i)
        (unbound : script.is_staging buffer ≡ true → AllByRecursion (λ s. has_block block s.bound ≡ false)
        (before_open old ++ old.open_chunk ∷ [])) where
      abbrev pub had : Core
      had = record filled { blocks = updated buffer (Some block) old.blocks; copies = copies; is_staging = is_staging }

      -- another buffer's block is as it was, and another
      other_block : (r b : ℕ) → had.blocks r ≡ Some b → (r == buffer) ≡ false → (old.blocks r ≡ Some b)
          × (block ≡ b → ⊥)
      other_block r b is n =
          let e : old.blocks r ≡ Some b = sym (ap (λ c. cond c (Some block) (old.blocks r)) n) ∙ is in (
            e,
            (λ same. vacant_lives r (old.owner block) empty_block
                (subst (λ b. IsLive r (old.owner b)) (sym same) (g.live r b e))),
          )

      this_block : (r b : ℕ) → had.blocks r ≡ Some b → (r == buffer) ≡ true → (r ≡ buffer) × (block ≡ b)
      this_block r b is e =
          let there : Some block ≡ Some b = sym (ap (λ c. cond c (Some block) (old.blocks r)) e) ∙ is in
          (eqb-true r buffer e, (cc there))

      names_kept : (s : Segment) → (script.is_staging buffer ≡ true → has_block block s.bound ≡ false)
          → NamesStaging script old.blocks s → NamesStaging script had.blocks s
      names_kept s none names r b st is h =
          elim (cases_Bool (r == buffer)) [
            | inl e ↦
                let x = this_block r b is e in
                absurd (both_ways (has_block b s.bound) (ap (λ b. has_block b s.bound) (sym x.1)
                ∙ none (ap script.is_staging (sym x.0) ∙ st)) h)
            | inr n ↦ names r b st (other_block r b is n).0 h
          ]

      had_copies : (r b : ℕ) → script.is_staging r ≡ true → had.blocks r ≡ Some b
          → used_in (later old ++ had.open_chunk ∷ []) b ≡ false → (i : ℕ) → i < script.size r
          → copies b i ≡ run_entries meaning (opened_entries filled) zeros b i
      had_copies r b st is n i l =
          elim (cases_Bool (r == buffer)) [
            | inl e ↦
                let x = this_block r b is e in
                let sized : script.size r ≡ script.size buffer = ap script.size x.0 in
                ap (λ b. copies b i) (sym x.1) ∙ copied (ap script.is_staging (sym x.0)
                ∙ st) i (omega (arith, l, sized))
                ∙ ap (λ b. (left_by meaning filled).memory b i) x.1
                ∙ ap (λ f. f b i) (world_memory meaning (opened_entries filled) empty)
            | inr m ↦
                let x = other_block r b is m in
                ap (λ f. f i) (same_copies b x.1) ∙ f.opened.copies r b st x.0 n i l
          ]

      pub had_opened : Opened meaning script had
      had_opened = let o = f.opened in record {
        grows = restaged;
        counted = o.counted;
        fence = o.fence;
        covered = o.covered;
        known = o.known;
        known_open = o.known_open;
        since = o.since;
        numbered = o.numbered;
        shaped = o.shaped;
        binds = o.binds;
        filled = o.filled;
        filled_open = o.filled_open;
        copies = had_copies;
        names = front_names (before_open old) (λ st. all_front (λ s. has_block block s.bound ≡ false)
            (before_open old) (old.open_chunk ∷ []) (unbound st)) o.names;
        names_open = names_kept had.open_chunk
            (λ st. (let z : AllByRecursion (λ s. has_block block s.bound ≡ false) (old.open_chunk ∷ []) =
            all_back (λ s. has_block block s.bound ≡ false) (before_open old) (old.open_chunk ∷ []) (unbound st) in
            z).0) o.names_open;
        elsewhere = o.elsewhere;
      }
        where
          front_names : (ss : List Segment) → (script.is_staging buffer ≡ true
              → AllByRecursion (λ s. has_block block s.bound ≡ false) ss)
              → AllByRecursion (NamesStaging script old.blocks) ss
              → AllByRecursion (NamesStaging script had.blocks) ss
          front_names [] u h = tt
          front_names (s ∷ ss) u h = (names_kept s (λ st. (u st).0) h.0, front_names ss (λ st. (u st).1) h.1)

      -- what is left then stands for the state after the turn
      module _ (state : InOrder) (m : Meets meaning script old (in_order meaning script old.past at_start))
          (live_here : state.live buffer ≡ true) (live_other : (r : ℕ) → (r == buffer) ≡ false
          → state.live r ≡ (in_order meaning script old.past at_start).live r)
          (bytes_here : (i : ℕ) → i < script.size buffer → (left_by meaning filled).memory block i
          ≡ state.bytes buffer i)
          (bytes_other : (r i : ℕ) → (r == buffer) ≡ false → state.bytes r i
          ≡ (in_order meaning script old.past at_start).bytes r i)
          (total : state.total ≡ (in_order meaning script old.past at_start).total)
          (live_own : (r b : ℕ) → old.blocks r ≡ Some b → (r == buffer) ≡ false → IsLive r (own b)) where
        pub had_meets : Meets meaning script had state
        had_meets = record {
          stands = record {
            has_block = λ r h.
                elim (cases_Bool (r == buffer)) [
                  | inl e ↦ (block, ap (λ c. cond c (Some block) (old.blocks r)) e)
                  | inr n ↦ let b = m.stands.has_block r (sym (live_other r n) ∙ h) in
                      (b.0, ap (λ c. cond c (Some block) (old.blocks r)) n ∙ b.1)
                ];
            is_live = λ r b is.
                elim (cases_Bool (r == buffer)) [
                  | inl e ↦ ap state.live (eqb-true r buffer e) ∙ live_here
                  | inr n ↦ live_other r n ∙ m.stands.is_live r b (other_block r b is n).0
                ];
            own = λ r s b h j.
                elim (cases_Bool (r == buffer)) [
                  | inl e ↦ elim (cases_Bool (s == buffer)) [
                    | inl d ↦ eqb-true r buffer e ∙ sym (eqb-true s buffer d)
                    | inr d ↦ absurd ((other_block s b j d).1 (this_block r b h e).1)
                  ]
                  | inr e ↦ elim (cases_Bool (s == buffer)) [
                    | inl d ↦ absurd ((other_block r b h e).1 (this_block s b j d).1)
                    | inr d ↦ m.stands.own r s b (other_block r b h e).0 (other_block s b j d).0
                  ]
                ];
            bytes = λ r b i is l.
                elim (cases_Bool (r == buffer)) [
                  | inl e ↦
                      let x = this_block r b is e in
                      let sized : script.size r ≡ script.size buffer = ap script.size x.0 in
                      ap (λ b. (left_by meaning filled).memory b i) (sym x.1)
                      ∙ bytes_here i (omega (arith, l, sized)) ∙ ap (λ r. state.bytes r i) (sym x.0)
                  | inr n ↦ let x = other_block r b is n in f.others b i x.1 ∙ m.stands.bytes r b i x.0 l
                      ∙ sym (bytes_other r i n)
                ];
          };
          live = λ r b is.
              elim (cases_Bool (r == buffer)) [
                | inl e ↦
                    let x = this_block r b is e in
                    subst (λ b. IsLive r (given.owner b)) x.1 (subst (IsLive r) (sym here_owner) (sym x.0))
                | inr n ↦
                    let x = other_block r b is n in
                    subst (λ c. IsLive r (cond c (Live buffer fence nothing_bound) (own b)))
                    (let d : false ≡ (b == block) = elim (cases_Bool (b == block))
                    [ inl t ↦ absurd (x.1 (sym (eqb-true b block t))) | inr d ↦ sym d ] in d) (live_own r b x.0 n)
              ];
          totals = let t = m.totals in subst (λ f. Totals f old.commands state) (sym f.counts)
              (record { total = total ∙ t.total; above = t.above });
        }
