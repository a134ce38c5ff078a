-- A command more in the open chunk: a barrier stands before it where it conflicts with one since the last barrier.
use Rattle.std.proofs.Common.{◌≡◌, ℕ, suc, ◌<◌, ◌≤◌, Bool, true, false, cond, ◌||◌, nat_lt, nat_le, List, [], ◌∷◌}
use Rattle.std.proofs.Common.{◌++◌, refl, sym, ap, ◌∙◌, subst, ◌⊎◌, inl, inr, Option, Some, None, arith, append_assoc}
use Rattle.std.specs.List.{list_any, AllByRecursion}
use Rattle.std.proofs.lemmas.Bool.{both_ways, cases_Bool, lt-ltb, le-leb, cases_lt}
use Rattle.std.proofs.lemmas.List.Folds.{list_any-append}
use Rattle.vk_types.specs.declared.touch.Touch.{Touch}
use Rattle.vk_types.specs.Memory.{zeros}
use Rattle.vk_types.specs.Hazards.{touches, conflict, is_touched, lists_conflict}
use Rattle.vk_types.specs.Effects.{Meaning, Device, act_touches, act_effect, is_host}
use Rattle.vk_types.specs.BarrierCauses.{lesser, least_of, least_conflict, caused, since_barrier}
use Rattle.vk_types.specs.Entries.{Entry, entry_before, entries_conflict, EntriesCovered, run_entries}
use Rattle.base_lemmas.proofs.Lists.{all_append, all_map, pairs_append}
use Rattle.core_model.specs.Script.{Script}
use Rattle.core_model.specs.CoreState.{Segment, entries, flat, Core, later, taken_count, finished_count, open_number}
use Rattle.core_model.specs.Adding.{has_block, epoch_after, with_command}
use Rattle.core_model.specs.OtherParts.{used_in}
use Rattle.core_model.specs.Worlds.{World, world_step, run_world}
use Rattle.core_model.specs.Invariant.{Allows, KnownIn, IsFilled}
use Rattle.core_model.proofs.Listing.Worlds.{run_world-append}
use Rattle.core_model.proofs.Steps.Turning.{used_last}
use Rattle.core_model.proofs.Steps.Binding.{or_left, or_right}
use Rattle.core_model.proofs.Steps.Completing.{run_entries-append, untouched}
use Rattle.core_model.proofs.Listing.MoreListed.{command_entry, command_listed, command_counted}
use Rattle.core_model.proofs.Steps.Opened.{before_open, opened_entries, Opened}
use Rattle.vk_types.specs.declared.command.Command as c
use Rattle.vk_types.proofs.Acts.{act_local}

-- Commands since the last barrier -----------------------------------------------------------------------------------

-- where none of these conflicts with it there is no least one
none_least : (test : c.Command → Bool) (xs : List c.Command) → least_of test xs ≡ None → list_any test xs ≡ false
none_least test [] h = refl
none_least test (x ∷ xs) h =
    elim (cases_Bool (test x)) [
      | inl t ↦ absurd
          (some (least_of test xs) (sym (ap (λ b. lesser (cond b (Some x.number) None) (least_of test xs)) t) ∙ h))
      | inr f ↦ ap (λ b. b || list_any test xs) f ∙ none_least test xs
          (sym (ap (λ b. lesser (cond b (Some x.number) None) (least_of test xs)) f) ∙ h)
    ]
  where
    some : (o : Option ℕ) → lesser (Some x.number) o ≡ None → ⊥
    some None k = cc k
    some (Some n) k = cc k

-- an entry that is known of the commands since the last barrier is so with one more
recent_more : (d : c.Command) (q : Option ℕ) (recent : List c.Command) (e : ℕ) (x : Entry) → x.epoch ≤ e
    → (x.epoch ≡ e → (ts : List Touch) → lists_conflict (act_touches x.act) ts ≡ true
    → list_any (λ y. lists_conflict (touches y) ts) recent ≡ true)
    → x.epoch ≡ epoch_after (caused recent d q) e → (ts : List Touch) → lists_conflict (act_touches x.act) ts ≡ true
    → list_any (λ y. lists_conflict (touches y) ts) (since_barrier recent d (caused recent d q)) ≡ true
recent_more d None recent e x l known same ts h =
    list_any-append (λ y. lists_conflict (touches y) ts) recent (d ∷ [])
    ∙ or_left (list_any (λ y. lists_conflict (touches y) ts) recent)
    (list_any (λ y. lists_conflict (touches y) ts) (d ∷ [])) (known same ts h)
recent_more d (Some first) recent e x l known same ts h = absurd (let z : ⊥ = omega (arith, l, same) in z)

-- the command itself is among them
recent_has : (d : c.Command) (q : Option ℕ) (recent : List c.Command) (ts : List Touch)
    → lists_conflict (touches d) ts ≡ true
    → list_any (λ y. lists_conflict (touches y) ts) (since_barrier recent d (caused recent d q)) ≡ true
recent_has d None recent ts h =
    list_any-append (λ y. lists_conflict (touches y) ts) recent (d ∷ [])
    ∙ or_right (list_any (λ y. lists_conflict (touches y) ts) recent)
    (list_any (λ y. lists_conflict (touches y) ts) (d ∷ [])) (or_left (lists_conflict (touches d) ts) false h)
recent_has d (Some first) recent ts h = or_left (lists_conflict (touches d) ts) false h

epoch_grows : (d : c.Command) (q : Option ℕ) (recent : List c.Command) (e : ℕ) → e ≤ epoch_after (caused recent d q) e
epoch_grows d None recent e = omega arith
epoch_grows d (Some first) recent e = omega arith

-- The step ----------------------------------------------------------------------------------------------------------

module _ (meaning : Meaning) (script : Script) (core : Core) (o : Opened meaning script core) (d : c.Command)
    (q : Option ℕ) (least : least_conflict core.recent d ≡ q) where
  abbrev entry : Entry
  entry = command_entry d (open_number core) (epoch_after (caused core.recent d q) core.epoch)

  -- each entry that it conflicts with is before it
  before_new : (x : Entry) → KnownIn core x → entries_conflict x entry ≡ true → entry_before x entry ≡ true
  before_new x k h = by_side (cases_Bool (is_host x.act))
    where
      epochs : (q : Option ℕ) → least_conflict core.recent d ≡ q → is_host x.act ≡ false
          → nat_lt x.epoch (epoch_after (caused core.recent d q) core.epoch) ≡ true
      epochs (Some first) l dev = let b = k.below dev in lt-ltb x.epoch (suc core.epoch) (omega (arith, b))
      epochs None l dev =
          elim (cases_lt x.epoch core.epoch) [
            | inl lt ↦ lt-ltb x.epoch core.epoch lt
            | inr ge ↦
                let b = k.below dev in
                let same : x.epoch ≡ core.epoch = omega (arith, b, ge) in
                absurd (both_ways (list_any (λ y. conflict y d) core.recent)
                (none_least (λ y. conflict y d) core.recent l) (k.recent dev same (touches d) h))
          ]

      by_side : (is_host x.act ≡ true) ⊎ (is_host x.act ≡ false) → entry_before x entry ≡ true
      by_side (inl t) = let l = k.in_chunk in
          ap (λ a. cond a (nat_le x.chunk (open_number core)) (nat_lt x.epoch entry.epoch)) t
          ∙ le-leb x.chunk (open_number core) (omega (arith, l))
      by_side (inr f) = ap (λ a. cond a (nat_le x.chunk (open_number core)) (nat_lt x.epoch entry.epoch)) f
          ∙ epochs q least f

  abbrev pub commanded : Core
  commanded = with_command d (caused core.recent d q) core

  open_entries : entries commanded.open_chunk ≡ entries core.open_chunk ++ entry ∷ []
  open_entries =
      let o = core.open_chunk in
      ap (λ l. o.reads ++ l) (sym (append_assoc o.writes o.commands (entry ∷ [])))
      ∙ sym (append_assoc o.reads (o.writes ++ o.commands) (entry ∷ []))

  -- it is the last entry of all
  pub commanded_entries : opened_entries commanded ≡ opened_entries core ++ entry ∷ []
  commanded_entries = ap (λ l. flat (before_open core) ++ l) open_entries
      ∙ sym (append_assoc (flat (before_open core)) (entries core.open_chunk) (entry ∷ []))

  -- so what all leave is what it does to what the others leave
  pub commanded_world : (w : World) → run_world meaning (opened_entries commanded) w
      ≡ world_step meaning entry (run_world meaning (opened_entries core) w)
  commanded_world w = ap (λ l. run_world meaning l w) commanded_entries
      ∙ run_world-append meaning (opened_entries core) (entry ∷ []) w

  -- what is known of an entry stays
  known_still : (x : Entry) → KnownIn core x → KnownIn commanded x
  known_still x k = record {
    in_chunk = k.in_chunk;
    fenced = k.fenced;
    counted = k.counted;
    below = λ dev. let b = k.below dev in let g = epoch_grows d q core.recent core.epoch in omega (arith, b, g);
    recent = λ dev same ts h. recent_more d q core.recent core.epoch x (k.below dev) (k.recent dev) same ts h;
    owned = k.owned;
  }

  module _ (filled : AllByRecursion (λ t. t.range.from < t.range.to) (touches d))
      (owned : (b i : ℕ) → is_touched (touches d) b i ≡ true
      → Allows (taken_count core) (finished_count core) (core.owner b) i (open_number core))
      (bound : (b i : ℕ) → is_touched (touches d) b i ≡ true → has_block b core.open_chunk.bound ≡ true) where
    known_new : KnownIn commanded entry
    known_new = record {
      in_chunk = omega arith;
      fenced = λ h. absurd (cc h);
      counted = λ h. absurd (cc h);
      below = λ h. omega arith;
      recent = λ h same ts c. recent_has d q core.recent ts c;
      owned = λ h b i t. owned b i t;
    }

    -- it touches no block that the open chunk does not bind
    leaves : (b i : ℕ) → has_block b core.open_chunk.bound ≡ false → (m : ℕ → ℕ → ℕ)
        → act_effect meaning (Device d) m b i ≡ m b i
    leaves b i n m =
        (act_local meaning (Device d)).keeps m b i
        (untouched (touches d) b i (elim (cases_Bool (is_touched (touches d) b i))
        [ inl t ↦ absurd (both_ways (has_block b core.open_chunk.bound) n (bound b i t)) | inr f ↦ f ]))

    pub opened_command : Opened meaning script commanded
    opened_command = record {
      grows = command_listed core.is_staging core.listing core.open_chunk.ops core.contents core.recent
          core.open_chunk.commands _ _ o.grows core.fence core.host_acts core.epoch o.counted d q least;
      counted = command_counted core.is_staging core.listing core.open_chunk.ops core.contents core.recent
          core.open_chunk.commands _ _ o.grows core.fence core.host_acts core.epoch o.counted d q;
      fence = o.fence;
      covered =
          subst EntriesCovered (sym commanded_entries)
          (pairs_append (λ x y. entries_conflict x y ≡ true → entry_before x y ≡ true) (opened_entries core)
          (entry ∷ []) o.covered (tt, tt)
          (all_map (KnownIn core) (λ x. AllByRecursion (λ y. entries_conflict x y ≡ true
          → entry_before x y ≡ true) (entry ∷ [])) (λ x k. (before_new x k, tt)) (opened_entries core)
          (all_append (KnownIn core) (flat (before_open core)) (entries core.open_chunk) o.known o.known_open)));
      known = all_map (KnownIn core) (KnownIn commanded) known_still (flat (before_open core)) o.known;
      known_open =
          subst (AllByRecursion (KnownIn commanded)) (sym open_entries)
          (all_append (KnownIn commanded) (entries core.open_chunk) (entry ∷ [])
          (all_map (KnownIn core) (KnownIn commanded) known_still (entries core.open_chunk) o.known_open)
          (known_new, tt));
      since = o.since;
      numbered = subst (AllByRecursion (λ x. x.chunk ≡ open_number core)) (sym open_entries)
          (all_append (λ x. x.chunk ≡ open_number core) (entries core.open_chunk) (entry ∷ []) o.numbered (refl, tt));
      shaped = (
        o.shaped.0,
        o.shaped.1,
        all_append (λ x. is_host x.act ≡ false) core.open_chunk.commands
            (entry ∷ []) o.shaped.2 (refl, tt),
      );
      binds = (all_append _ core.open_chunk.commands (entry ∷ []) o.binds.0 ((λ h b i t. bound b i t), tt), o.binds.1);
      filled = o.filled;
      filled_open = subst (AllByRecursion IsFilled) (sym open_entries)
          (all_append IsFilled (entries core.open_chunk) (entry ∷ []) o.filled_open (filled, tt));
      copies = λ r b st is n i l.
          o.copies r b st is (used_last (later core) core.open_chunk commanded.open_chunk b refl ∙ n) i l
          ∙ sym (leaves b i (last_unused (later core) b n) (run_entries meaning (opened_entries core) zeros))
          ∙ ap (λ f. f b i) (sym (run_entries-append meaning (opened_entries core) (entry ∷ []) zeros))
          ∙ ap (λ l. run_entries meaning l zeros b i) (sym commanded_entries);
      names = o.names;
      names_open = o.names_open;
      elsewhere = o.elsewhere;
    }
      where
        last_unused : (xs : List Segment) (b : ℕ) → used_in (xs ++ commanded.open_chunk ∷ []) b ≡ false
            → has_block b core.open_chunk.bound ≡ false
        last_unused [] b n = first (has_block b core.open_chunk.bound) n
          where
            first : (a : Bool) → (a || false) ≡ false → a ≡ false
            first true e = e
            first false e = e
        last_unused (x ∷ xs) b n =
            last_unused xs b (second (has_block b x.bound) (used_in (xs ++ commanded.open_chunk ∷ []) b) n)
          where
            second : (a b : Bool) → (a || b) ≡ false → b ≡ false
            second true b e = absurd (cc e)
            second false b e = e
