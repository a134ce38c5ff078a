-- One item of a batch: the memory that its acts leave stands for the buffers behind it, if it did before it.
use Rattle.std.proofs.Common.{◌≡◌, ℕ, suc, ◌+◌, ◌-◌, ◌<◌, Bool, true, false, cond, ◌==◌}
use Rattle.std.proofs.Common.{List, [], ◌∷◌, ◌++◌, map, length, replicate, refl, sym, ap, ◌∙◌, subst, inl, inr}
use Rattle.std.proofs.Common.{Option, Some, None, arith, append_assoc}
use Rattle.std.specs.List.{AllByRecursion}
use Rattle.std.proofs.lemmas.Bool.{cases_Bool, eqb-true, both_ways}
use Rattle.std.proofs.lemmas.List.Folds.{list_any-append}
use Rattle.dx_types.specs.declared.range.Range.{Range}
use Rattle.vk_types.specs.declared.command.Work.{Work}
use Rattle.vk_types.specs.declared.command.Cond.{Cond}
use Rattle.vk_types.specs.declared.command.Command as c
use Rattle.vk_types.specs.declared.message.Placed.{Placed}
use Rattle.vk_types.specs.declared.touch.Touch.{Touch}
use Rattle.vk_types.specs.Memory.{Memory, range, meets, put, number_at}
use Rattle.vk_types.specs.Hazards.{touches, work_touches, cond_touches, is_touched}
use Rattle.vk_types.specs.Effects.{is_skipped, work_effect}
use Rattle.vk_types.proofs.Local.{covered, covered_block}
use Rattle.base_lemmas.specs.Lists.{Pairwise}
use Rattle.base_lemmas.proofs.Lists.{all_append, all_map}
use Rattle.core_model.specs.Script.{Play, Command}
use Rattle.core_model.specs.Script.{Turn, Item, InOrder, at_start, in_order}
use Rattle.core_model.specs.Script.{play_in_order, updated}
use Rattle.core_model.specs.Renaming.{BlockMap, work_on, cond_on}
use Rattle.core_model.specs.CoreState.{somes}
use Rattle.core_model.specs.Owners.{is_block, in_ranges}
use Rattle.core_model.specs.Adding.{length_of}
use Rattle.core_model.specs.Batching.{Made, give_block, make_write, make_command, block_range}
use Rattle.core_model.specs.Lawful.{IsLawful, resets, is_bound}
use Rattle.core_model.specs.Succession.{Head, Log, takes, stages_in, is_staged_in, all_places}
use Rattle.core_model.specs.Succession.{staged_ranges, lengths_of, taken_lengths, places_in}
use Rattle.core_model.specs.Spine.{Succeeds, MayUse}
use Rattle.core_model.proofs.Steps.Alike.{Has, skip_alike, work_alike}
use Rattle.core_model.proofs.Steps.Binding.{or_left, or_right}
use Rattle.core_model.proofs.Listing.Touched.{touched_front, touched_back}
use Rattle.core_model.proofs.Steps.Creating.{size_fits}
use Rattle.core_model.proofs.Steps.Discarding.{elsewhere}
use Rattle.core_model.proofs.Steps.Uses.{touch_on, touches_on, touched_buffer, bound_fits}
use Rattle.core_model.proofs.Blocks.BoundRanges.{stays_bound}
use Rattle.core_model.proofs.Messages.UsedBlocks.{Lives, UsesAll, live_touches, on_blocks}
use Rattle.core_model.proofs.Messages.HeldBlocks.{Holds, takes_more, taken_strange, taken_anew}
use Rattle.core_model.proofs.Messages.BatchMemory.{put_elsewhere, fresh_put, touched_own, Spares, spared}
use Rattle.core_model.proofs.Messages.BatchMemory.{AllZero, left_in, wrote, commanded, still_there}
pub use Rattle.core_model.proofs.Messages.StagedRanges.{drop_staged, met_by, write_blocks, write_listed}
use Rattle.core_model.proofs.Messages.StagedRanges.{staged_block, other_blocks}

module _ (log : Log) (lawful : IsLawful log.meaning log.script) (front : List Head) (h : Head)
    (s : Succeeds log (front ++ h ∷ [])) (base : Memory) where
  abbrev pub at_past : List Turn → InOrder
  at_past past = in_order log.meaning log.script past at_start

  abbrev pub memory : Made → Memory
  memory m = left_in log.meaning base m

  abbrev pub Own : List Placed → ℕ → Type 0
  Own here b = MayUse log front (record h { placed = here }) b

  abbrev pub so_far : List Placed → List Placed
  so_far here = all_places (places_in front) ++ here

  -- each byte of a live buffer's block that the command touches was bound
  abbrev pub IsBoundIn : List Turn → BlockMap → c.Command → Type 0
  IsBoundIn past blocks d = (r b i : ℕ) → blocks r ≡ Some b → is_touched (touches d) b i ≡ true
      → is_bound r past false i ≡ true

  pub record Runs (past : List Turn) (here : List Placed) (m : Made) : Type 0 where
    pub uses : UsesAll (Own here) m
    pub bytes : (r b i : ℕ) → m.blocks r ≡ Some b → i < log.script.size r → memory m b i ≡ (at_past past).bytes r i
    pub bound : AllByRecursion (IsBoundIn past m.blocks) m.listed
    pub lives : Lives (at_past past).live m.blocks
    pub holds : Holds (so_far here) m.blocks

  -- the command meets none of these ranges
  abbrev pub ClearOf : List Range → c.Command → Type 0
  ClearOf qs d = AllByRecursion (λ q. AllByRecursion (λ t. meets t.range q ≡ false) (touches d)) qs

  pub record ToCome (ts : List Turn) (ps : List Placed) (m : Made) : Type 0 where
    pub apart : Pairwise (λ r s. meets r s ≡ false) (staged_ranges ps)
    pub outside : AllByRecursion (λ q. takes q.block (so_far h.placed) ≡ false) (staged_ranges ps)
    pub zeros : AllZero log.meaning base (somes (map (λ p. p.block) ps)) (taken_lengths log.script ts)
    pub clear : AllByRecursion (ClearOf (staged_ranges ps)) m.listed

  module _ (past : List Turn) (call item : ℕ) (ends : Bool) (bound : List Range) (back : List Turn)
      (here : List Placed) (p : Placed) (others : List Placed)
      (e : h.placed ≡ here ++ p ∷ others) (ts : List Turn) (m : Made) (run : Runs past here m) where
    abbrev pub turn : Play → Turn
    turn play = Item call item ends play bound

    abbrev pub AtPlace : Play → Type 0
    AtPlace play = log.script.turns ≡ past ++ turn play ∷ back

    pub record Done (play : Play) (n : Made) : Type 0 where
      pub bytes : (r b i : ℕ) → n.blocks r ≡ Some b → i < log.script.size r
          → memory n b i ≡ (play_in_order log.meaning log.script play (at_past past)).bytes r i
      pub now : AllByRecursion (IsBoundIn (past ++ turn play ∷ []) n.blocks) n.listed
      pub clear : AllByRecursion (ClearOf (staged_ranges others)) n.listed
      pub zeros : AllZero log.meaning base (somes (map (λ p. p.block) others)) (taken_lengths log.script ts)

    pub with_staging : (play : Play) (n : Made) (rs : List Range) → Done play n → Done play (record n { staging = rs })
    with_staging play n rs d = record { bytes = d.bytes; now = d.now; clear = d.clear; zeros = d.zeros }

    -- What is known of the item's place -----------------------------------------------------------------------------

    -- what the item takes, nothing used yet
    fresh : (b : ℕ) → p.block ≡ Some b → Own here b → ⊥
    fresh b is (inl t) = both_ways (takes b here) (taken_anew log front h s here p others b e is) t
    fresh b is (inr (inl t)) =
        let all : takes b (so_far h.placed) ≡ false =
        staged_block (λ c. takes c (so_far h.placed) ≡ false) h.placed b (s front h [] refl).stages_apart.outside
        (ap (stages_in b) e ∙ list_any-append (λ q. is_staged_in b q.staged) here (p ∷ others)
        ∙ or_left (stages_in b here) (stages_in b (p ∷ others)) t) in
        both_ways (takes b (so_far h.placed)) all
        (ap (λ l. takes b (so_far l)) e
        ∙ ap (takes b) (sym (append_assoc (all_places (places_in front)) here (p ∷ others)))
        ∙ takes_more b (so_far here) p others is)
    fresh b is (inr (inr x)) = taken_strange log front h s here p others b e is x.0 x.1

    -- a live buffer's block is none where bytes are staged
    live_taken : (r b : ℕ) → m.blocks r ≡ Some b → takes b (so_far h.placed) ≡ true
    live_taken r b is =
        let x = run.holds.held r b is in
        let now : takes b (so_far here) ≡ true = ap (takes b) x.split ∙ takes_more b x.front x.place x.back x.took in
        ap (λ l. takes b (so_far l)) e
        ∙ ap (takes b) (sym (append_assoc (all_places (places_in front)) here (p ∷ others)))
        ∙ list_any-append (λ q. is_block q.block b) (so_far here) (p ∷ others)
        ∙ or_left (takes b (so_far here)) (takes b (p ∷ others)) now

    pub not_page : (q : Range) → takes q.block (so_far h.placed) ≡ false → (r b : ℕ) → m.blocks r ≡ Some b
        → b ≡ q.block → ⊥
    not_page q out r b is same = both_ways (takes q.block (so_far h.placed)) out
        (subst (λ b. takes b (so_far h.placed) ≡ true) same (live_taken r b is))

    -- The commands so far -------------------------------------------------------------------------------------------

    pub old_bound : (play : Play) → ((r : ℕ) → resets r (turn play) ≡ false)
        → AllByRecursion (IsBoundIn (past ++ turn play ∷ []) m.blocks) m.listed
    old_bound play n =
        all_map (IsBoundIn past m.blocks) (IsBoundIn (past ++ turn play ∷ []) m.blocks)
        (λ d f r b i is t. stays_bound r past (turn play) i (n r)
        (or_left (is_bound r past false i) (in_ranges bound r i) (f r b i is t))) m.listed run.bound

    pub old_clear : (ts : List Turn) → ToCome ts (p ∷ others) m
        → AllByRecursion (ClearOf (staged_ranges others)) m.listed
    old_clear ts t =
        all_map (ClearOf (staged_ranges (p ∷ others))) (ClearOf (staged_ranges others))
        (λ d f. drop_staged (λ q. AllByRecursion (λ t. meets t.range q ≡ false) (touches d)) p.staged
        (staged_ranges others) f) m.listed t.clear

    pub no_zeros : (play : Play) → lengths_of log.script (turn play) ≡ [] → p.block ≡ None
        → ToCome (turn play ∷ ts) (p ∷ others) m
        → AllZero log.meaning base (somes (map (λ p. p.block) others)) (taken_lengths log.script ts)
    no_zeros play none is t =
        subst (λ l. AllZero log.meaning base (somes (map (λ p. p.block) others)) (l ++ taken_lengths log.script ts))
        none
        (subst (λ o. AllZero log.meaning base (somes (o ∷ map (λ p. p.block) others))
        (lengths_of log.script (turn play) ++ taken_lengths log.script ts)) is t.zeros)

    -- an item without acts
    pub quiet : (play : Play) → ((r : ℕ) → resets r (turn play) ≡ false) → lengths_of log.script (turn play) ≡ []
        → p.block ≡ None
        → ((r i : ℕ) → (at_past past).bytes r i ≡ (play_in_order log.meaning log.script play (at_past past)).bytes r i)
        → ToCome (turn play ∷ ts) (p ∷ others) m → Done play m
    quiet play n none is same t = record {
      bytes = λ r b i k l. run.bytes r b i k l ∙ same r i;
      now = old_bound play n;
      clear = old_clear (turn play ∷ ts) t;
      zeros = no_zeros play none is t;
    }

    -- Buffers that take blocks --------------------------------------------------------------------------------------

    module _ (play : Play) (buffer b from : ℕ) (bytes : List ℕ) (took : p.block ≡ Some b) where
      abbrev given : Made
      given = give_block log.script buffer (Some b) m

      abbrev target : Range
      target = range b from (from + length bytes)

      spares : AllByRecursion (Spares target) m.listed
      spares =
          all_map (λ d. AllByRecursion (λ t. Own here t.range.block) (touches d)) (Spares target)
          (λ d u. spared target d
          (λ x i t k. fresh b took (subst (Own here) (sym (covered_block target x i k))
          (touched_own (Own here) (touches d) x i u t))))
          m.listed run.uses.listed

      taken_bytes : ((i : ℕ) → i < log.script.size buffer → base b i ≡ 0) → (piece : ℕ → ℕ)
          → ((i : ℕ) → i < log.script.size buffer → number_at (replicate from 0 ++ bytes) i ≡ piece i)
          → (r x i : ℕ) → updated buffer (Some b) m.blocks r ≡ Some x → i < log.script.size r
          → memory (make_write target bytes given) x i ≡ put (range buffer 0 (log.script.size buffer)) piece
          (at_past past).bytes r i
      taken_bytes zero piece same r x i is l =
          ap (λ f. f x i) (wrote log.meaning base target bytes given refl spares)
          ∙ elim (cases_Bool (r == buffer)) [
            | inl y ↦
                let there : r ≡ buffer = eqb-true r buffer y in
                let own : Some b ≡ Some x = sym (ap (λ c. cond c (Some b) (m.blocks r)) y) ∙ is in
                let block : b ≡ x = cc own in
                let short : i < log.script.size buffer = subst (λ r. i < log.script.size r) there l in
                let bare : memory m b i ≡ 0 = still_there log.meaning base (Own here) m b i run.uses.listed
                run.uses.writes (fresh b took) ∙ zero i short in
                ap (λ y. put target (number_at bytes) (memory m) y i) (sym block)
                ∙ fresh_put b from bytes (memory m) i bare ∙ same i short
                ∙ ap piece (let z : i ≡ i - 0 = omega arith in z)
                ∙ sym (ap (λ c. cond c (piece (i - 0)) ((at_past past).bytes r i))
                (covered (range buffer 0 (log.script.size buffer)) r i (sym there) (omega arith) short))
            | inr n ↦
                let old : m.blocks r ≡ Some x = sym (ap (λ c. cond c (Some b) (m.blocks r)) n) ∙ is in
                put_elsewhere target (number_at bytes) (memory m) x i
                (λ same. fresh b took (run.uses.owned r b (old ∙ ap Some (sym same))))
                ∙ run.bytes r x i old l
                ∙ sym (ap (λ c. cond c (piece (i - 0)) ((at_past past).bytes r i))
                (elsewhere buffer (log.script.size buffer) r i n))
          ]

      taken_bound : ((r : ℕ) → (r == buffer) ≡ false → resets r (turn play) ≡ false) → (blocks : BlockMap)
          → blocks ≡ updated buffer (Some b) m.blocks
          → AllByRecursion (IsBoundIn (past ++ turn play ∷ []) blocks) m.listed
      taken_bound n blocks same = subst (λ k. AllByRecursion (IsBoundIn (past ++ turn play ∷ []) k) m.listed)
          (sym same) (both m.listed run.bound run.uses.listed)
        where
          one : (d : c.Command) → IsBoundIn past m.blocks d → AllByRecursion (λ t. Own here t.range.block) (touches d)
              → IsBoundIn (past ++ turn play ∷ []) (updated buffer (Some b) m.blocks) d
          one d f u r x i is t = elim (cases_Bool (r == buffer)) [
            | inl y ↦
                let own : Some b ≡ Some x = sym (ap (λ c. cond c (Some b) (m.blocks r)) y) ∙ is in
                let block : x ≡ b = cc own in
                absurd (fresh b took (subst (Own here) block (touched_own (Own here) (touches d) x i u t)))
            | inr k ↦
                let old : m.blocks r ≡ Some x = sym (ap (λ c. cond c (Some b) (m.blocks r)) k) ∙ is in
                stays_bound r past (turn play) i (n r k) (or_left (is_bound r past false i) (in_ranges bound r i)
                (f r x i old t))
          ]

          both : (ds : List c.Command) → AllByRecursion (IsBoundIn past m.blocks) ds
              → AllByRecursion (λ d. AllByRecursion (λ t. Own here t.range.block) (touches d)) ds
              → AllByRecursion (IsBoundIn (past ++ turn play ∷ []) (updated buffer (Some b) m.blocks)) ds
          both [] f u = tt
          both (d ∷ ds) f u = (one d f.0 u.0, both ds f.1 u.1)

      -- the item's block was set to 0
      taken_zero : lengths_of log.script (turn play) ≡ length_of log.script buffer ∷ []
          → ToCome (turn play ∷ ts) (p ∷ others) m
          → ((i : ℕ) → i < log.script.size buffer → base b i ≡ 0)
          × AllZero log.meaning base (somes (map (λ p. p.block) others)) (taken_lengths log.script ts)
      taken_zero long t =
          let z = subst (λ l. AllZero log.meaning base (somes (Some b ∷ map (λ p. p.block) others))
          (l ++ taken_lengths log.script ts)) long
          (subst (λ o. AllZero log.meaning base (somes (o ∷ map (λ p. p.block) others))
          (lengths_of log.script (turn play) ++ taken_lengths log.script ts)) took t.zeros) in
          let fits = size_fits log.script buffer (lawful.classes buffer) in
          (λ i l. z.0 i (omega (arith, fits, l)), z.1)

      pub taken_done : lengths_of log.script (turn play) ≡ length_of log.script buffer ∷ []
          → ((r : ℕ) → (r == buffer) ≡ false → resets r (turn play) ≡ false) → (piece : ℕ → ℕ)
          → ((i : ℕ) → i < log.script.size buffer → number_at (replicate from 0 ++ bytes) i ≡ piece i)
          → ((play_in_order log.meaning log.script play (at_past past)).bytes
          ≡ put (range buffer 0 (log.script.size buffer)) piece (at_past past).bytes)
          → ToCome (turn play ∷ ts) (p ∷ others) m
          → Done play (make_write (block_range p.block from (from + length bytes)) bytes
          (give_block log.script buffer p.block m))
      taken_done long n piece same does t =
          let z = taken_zero long t in
          let made = make_write target bytes given in
          subst (λ o. Done play (make_write (block_range o from (from + length bytes)) bytes
          (give_block log.script buffer o m))) (sym took) (record {
            bytes = λ r x i is l.
                taken_bytes z.0 piece same r x i (sym (ap (λ f. f r) (write_blocks target bytes given)) ∙ is) l
                ∙ ap (λ f. f r i) (sym does);
            now = subst (AllByRecursion (IsBoundIn (past ++ turn play ∷ []) made.blocks))
                (sym (write_listed target bytes given))
                (taken_bound n made.blocks (write_blocks target bytes given));
            clear = subst (AllByRecursion (ClearOf (staged_ranges others))) (sym (write_listed target bytes given))
                (old_clear (turn play ∷ ts) t);
            zeros = z.1;
          })

    -- Commands ------------------------------------------------------------------------------------------------------

    -- a byte that a play's work touches is one of a buffer that has a block, and is bound
    pub has : (play : Play) → AtPlace play → (r i : ℕ) → in_ranges bound r i ≡ true
        → Has log.script.size m.blocks run.holds.own r i
    has play at r i k =
        let f = bound_fits log.meaning log.script past bound (lawful.fits past call item ends play bound back at) r
        i k in
        let b = run.lives.has_block r f.0 in
        (b.0, b.1, f.1)

    -- touches on blocks of live buffers
    pub on_live : (play : Play) → AtPlace play → (us : List Touch)
        → AllByRecursion (λ t. (at_past past).live t.range.block ≡ true) us
        → AllByRecursion (λ t. takes t.range.block (so_far h.placed) ≡ true) (map (touch_on m.blocks) us)
    on_live play at us live =
        on_blocks log.meaning log.script lawful (λ b. takes b (so_far h.placed) ≡ true) (at_past past).live m.blocks
        us run.lives live_taken live

    pub clear_of : (us : List Touch) (qs : List Range) → AllByRecursion
        (λ t. takes t.range.block (so_far h.placed) ≡ true) us
        → AllByRecursion (λ q. takes q.block (so_far h.placed) ≡ false) qs
        → AllByRecursion (λ q. AllByRecursion (λ t. meets t.range q ≡ false) us) qs
    clear_of us [] f g = tt
    clear_of us (q ∷ qs) f g = (
      all_map (λ t. takes t.range.block (so_far h.placed) ≡ true) (λ t. meets t.range q ≡ false)
          (λ t k. other_blocks t.range q (λ same. both_ways (takes q.block (so_far h.placed)) g.0
          (subst (λ b. takes b (so_far h.placed) ≡ true) same k))) us f,
      clear_of us qs f g.1,
    )

    -- the new command's bytes are bound by this item
    pub now_bound : (play : Play) → ((r : ℕ) → resets r (turn play) ≡ false) → (us : List Touch)
        → ((r i : ℕ) → is_touched us r i ≡ true → in_ranges bound r i ≡ true) → AtPlace play
        → (r b i : ℕ) → m.blocks r ≡ Some b → is_touched (map (touch_on m.blocks) us) b i ≡ true
        → is_bound r (past ++ turn play ∷ []) false i ≡ true
    now_bound play n us binds at r b i is t =
        let x = touched_buffer log.script.size m.blocks run.holds.own us (λ r i k. has play at r i (binds r i k)) b
        i t in
        stays_bound r past (turn play) i (n r)
        (or_right (is_bound r past false i) (in_ranges bound r i)
        (ap (λ q. in_ranges bound q i) (run.holds.own r x.0 b is x.1) ∙ binds x.0 i x.2))

    pub command_done : (w : Work) (skip : Option Cond) → AtPlace (Command w skip) → p.block ≡ None
        → ToCome (turn (Command w skip) ∷ ts) (p ∷ others) m
        → Done (Command w skip) (make_command call (work_on m.blocks w) (cond_on m.blocks skip) m)
    command_done w skip at none t =
        let play = Command w skip in
        let us = work_touches w ++ cond_touches skip in
        let d : c.Command = record {
          number = suc m.commands;
          call = call;
          work = work_on m.blocks w;
          cond =
              cond_on m.blocks skip;
        } in
        let binds = λ (r i : ℕ) (k : is_touched us r i ≡ true). lawful.binds past call item ends play bound back at
        r i k in
        let old = memory m in
        let seq = (at_past past).bytes in
        let taken = on_live play at us (live_touches log.meaning log.script lawful past call item ends play bound
        back at) in
        record {
          bytes = λ r b i is l.
              ap (λ f. f b i) (commanded log.meaning base m.listed d _)
              ∙ ap (λ x. cond x old (work_effect log.meaning (work_on m.blocks w) old) b i)
              (skip_alike log.script.size m.blocks run.holds.own skip
              (λ r i k. has play at r i (binds r i (touched_back (work_touches w) (cond_touches skip) r i k))) old
              seq run.bytes)
              ∙ either w skip (is_skipped skip seq) r b i is l
              (λ r b i is l. work_alike log.script.size m.blocks run.holds.own log.meaning w
              (λ r i k. has play at r i (binds r i (touched_front (work_touches w) (cond_touches skip) r i k))) old
              seq run.bytes r b i is l);
          now = all_append (IsBoundIn (past ++ turn play ∷ []) m.blocks) m.listed (d ∷ [])
              (old_bound play (λ r. refl)) (
                (λ r b i is k. now_bound play (λ r. refl) us binds at r b i is
                    (sym (ap (λ l. is_touched l b i) (touches_on m.blocks w skip)) ∙ k)),
                tt,
              );
          clear = all_append (ClearOf (staged_ranges others)) m.listed (d ∷ []) (old_clear (turn play ∷ ts) t) (
            subst (λ l. AllByRecursion (λ q. AllByRecursion (λ t. meets t.range q ≡ false) l)
                (staged_ranges others)) (sym (touches_on m.blocks w skip))
                (clear_of (map (touch_on m.blocks) us) (staged_ranges others) taken
                (drop_staged (λ q. takes q.block (so_far h.placed) ≡ false) p.staged (staged_ranges others) t.outside)),
            tt,
          );
          zeros = no_zeros play refl none t;
        }
      where
        either : (w : Work) (skip : Option Cond) (x : Bool) (r b i : ℕ) → m.blocks r ≡ Some b → i < log.script.size r
            → ((r b i : ℕ) → m.blocks r ≡ Some b → i < log.script.size r
            → work_effect log.meaning (work_on m.blocks w) (memory m) b i
            ≡ work_effect log.meaning w (at_past past).bytes r i)
            → cond x (memory m) (work_effect log.meaning (work_on m.blocks w) (memory m)) b i
            ≡ cond x (at_past past).bytes (work_effect log.meaning w (at_past past).bytes) r i
        either w skip true r b i is l f = run.bytes r b i is l
        either w skip false r b i is l f = f r b i is l
