-- Items of a batch that stage bytes, overwrite them, or have no acts; and any item.
use Rattle.std.proofs.Common.{◌≡◌, ℕ, suc, ◌+◌, ◌-◌, ◌<◌, ◌≤◌, Bool, true, false, cond, ◌||◌, ◌==◌, nat_lt, List, []}
use Rattle.std.proofs.Common.{◌∷◌, ◌++◌, map, length, replicate, refl, sym, ap, ◌∙◌, subst, inl, inr, Option, Some}
use Rattle.std.proofs.Common.{None, arith, append_assoc}
use Rattle.std.specs.List.{AllByRecursion}
use Rattle.std.proofs.lemmas.Bool.{cases_Bool, cases_lt, eqb-true, eq-eqb, both_ways, or_cases, ltb-true, lt-ltb}
use Rattle.dx_types.specs.declared.range.Range.{Range}
use Rattle.vk_types.specs.declared.command.Work.TheVariants as work
use Rattle.vk_types.specs.declared.command.Cond.{Cond}
use Rattle.vk_types.specs.declared.command.Command as c
use Rattle.vk_types.specs.declared.message.Placed.{Placed}
use Rattle.vk_types.specs.Memory.{Memory, range, covers, meets, put, byte_of, number_at, or_zero}
use Rattle.vk_types.specs.Hazards.{touches, work_touches, cond_touches, is_touched}
use Rattle.vk_types.specs.Effects.{is_skipped, effect}
use Rattle.vk_types.proofs.Local.{covered, covered_block, covered_from, covered_to}
use Rattle.base_lemmas.specs.Lists.{Pairwise}
use Rattle.base_lemmas.proofs.Lists.{all_append, all_map}
use Rattle.core_model.specs.Script.{Play, Create, Discard, No_overwrite, Stage, Command, Destroy, Create_shader}
use Rattle.core_model.specs.Script.{Mark_query, Set_state, Turn, Item, play_in_order, updated, padded}
use Rattle.core_model.specs.Script.{staged_in_order}
use Rattle.core_model.specs.Renaming.{BlockMap, block_of, range_on, cond_on}
use Rattle.core_model.specs.Batching.{Made, give_block, block_range, make_write, make_play, make_staged}
use Rattle.core_model.specs.Batching.{make_command}
use Rattle.core_model.specs.Lawful.{IsLawful, resets, is_bound, target_touches}
use Rattle.core_model.specs.Succession.{Head, Log, PlacesPlay, takes, staged_range_of, staged_ranges}
use Rattle.core_model.specs.Succession.{lengths_of}
use Rattle.core_model.specs.BatchActs.{part_acts, command_acts, run_acts}
use Rattle.core_model.specs.Spine.{Succeeds}
use Rattle.core_model.proofs.Steps.Alike.{skip_alike, put_alike}
use Rattle.core_model.proofs.Steps.Binding.{or_left}
use Rattle.core_model.proofs.Listing.Touched.{touched_back}
use Rattle.core_model.proofs.Steps.Destroying.{found}
use Rattle.core_model.proofs.Steps.Overwriting.{empty_put}
use Rattle.core_model.proofs.Steps.Padding.{padded_at, past_end}
use Rattle.core_model.proofs.Steps.Uses.{touch_on, conds_on}
use Rattle.core_model.proofs.Messages.UsedBlocks.{live_touches}
use Rattle.core_model.proofs.Messages.BatchMemory.{put_elsewhere, Spares, spared, wrote, commanded}
use Rattle.core_model.proofs.Messages.StandingItems.{drop_staged, met_by, write_blocks, write_listed, at_past, memory}
use Rattle.core_model.proofs.Messages.StandingItems.{so_far, IsBoundIn, Runs, ClearOf, ToCome, Done}
use Rattle.core_model.proofs.Messages.StandingItems.{with_staging, not_page, old_bound, old_clear, no_zeros, quiet}
use Rattle.core_model.proofs.Messages.StandingItems.{taken_done, has, on_live, clear_of, now_bound, command_done}

-- Staged ranges -----------------------------------------------------------------------------------------------------

staged_first : (P : Range → Type 0) (q : Range) (o : Option Range) (qs : List Range) → o ≡ Some q
    → AllByRecursion P (staged_range_of o ++ qs) → P q
staged_first P q o qs is h =
    let x : AllByRecursion P (q ∷ qs) = subst (λ o. AllByRecursion P (staged_range_of o ++ qs)) is h in x.0

apart_first : (R : Range → Range → Type 0) (q : Range) (o : Option Range) (qs : List Range) → o ≡ Some q
    → Pairwise R (staged_range_of o ++ qs)
    → AllByRecursion (R q) qs
apart_first R q o qs is h =
    let x : Pairwise R (q ∷ qs) = subst (λ o. Pairwise R (staged_range_of o ++ qs)) is h in x.0

-- the bytes of a range where they were put
staged_bytes : (q : Range) (bytes : List ℕ) (m : Memory) → q.to ≡ q.from + length bytes → (i : ℕ)
    → byte_of (put q (number_at bytes) m) q i ≡ number_at bytes i
staged_bytes q bytes m long i =
    elim (cases_lt i (length bytes)) [
      | inl l ↦
          let inside : nat_lt (q.from + i) q.to ≡ true = lt-ltb (q.from + i) q.to (omega (arith, l, long)) in
          let there : covers q q.block (q.from + i) ≡ true =
          covered q q.block (q.from + i) refl (omega arith) (omega (arith, l, long)) in
          let place : q.from + i - q.from ≡ i = omega arith in
          ap (λ c. cond c (put q (number_at bytes) m q.block (q.from + i)) 0) inside
          ∙ ap (λ c. cond c (number_at bytes (q.from + i - q.from)) (m q.block (q.from + i))) there
          ∙ ap (number_at bytes) place
      | inr l ↦
          let outside : nat_lt (q.from + i) q.to ≡ false = not_less (q.from + i) q.to (omega (arith, l, long)) in
          ap (λ c. cond c (put q (number_at bytes) m q.block (q.from + i)) 0) outside ∙ sym (past_end bytes i l)
    ]
  where
    not_less : (a b : ℕ) → b ≤ a → nat_lt a b ≡ false
    not_less a b h = elim (cases_Bool (nat_lt a b)) [
      | inl t ↦ let l = ltb-true a b t in
          absurd (let z : ⊥ = omega (arith, l, h) in z)
      | inr f ↦ f
    ]

module _ (log : Log) (lawful : IsLawful log.meaning log.script) (front : List Head) (h : Head)
    (s : Succeeds log (front ++ h ∷ [])) (base : Memory)
    (past : List Turn) (call item : ℕ) (ends : Bool) (bound : List Range) (back : List Turn) (here : List Placed)
    (p : Placed) (others : List Placed)
    (e : h.placed ≡ here ++ p ∷ others) (ts : List Turn) (m : Made)
    (run : Runs log lawful front h s base past here m) where
  abbrev the_turn : Play → Turn
  the_turn play = Item call item ends play bound

  abbrev At : Play → Type 0
  At play = log.script.turns ≡ past ++ the_turn play ∷ back

  abbrev IsDone : Play → Made → Type 0
  IsDone play n = Done log lawful front h s base past call item ends bound back here p others e ts m run play n

  abbrev Rest : Play → Type 0
  Rest play = ToCome log lawful front h s base (the_turn play ∷ ts) (p ∷ others) m

  abbrev mem : Memory
  mem = memory log lawful front h s base m

  abbrev seq : Memory
  seq = (at_past log lawful front h s base past).bytes

  abbrev placed : List Placed
  placed = so_far log lawful front h s base h.placed

  -- a page's range, where no command so far reads
  page_spares : (play : Play) (q : Range) → p.staged ≡ Some q → Rest play → AllByRecursion (Spares q) m.listed
  page_spares play q is t =
      all_map (ClearOf log lawful front h s base (staged_ranges (p ∷ others))) (Spares q)
      (λ d f. spared q d (λ b i k u. met_by q (touches d) b i
      (staged_first (λ q. AllByRecursion (λ t. meets t.range q ≡ false) (touches d)) q p.staged
      (staged_ranges others) is f) k u)) m.listed t.clear

  -- bytes that are staged alone leave the buffers
  staged_agree : (play : Play) (q : Range) (bytes : List ℕ) → p.staged ≡ Some q → Rest play → (r b i : ℕ)
      → m.blocks r ≡ Some b → i < log.script.size r
      → put q (number_at bytes) mem b i ≡ seq r i
  staged_agree play q bytes is t r b i k l =
      let out = staged_first (λ q. takes q.block placed ≡ false) q p.staged (staged_ranges others) is t.outside in
      put_elsewhere q (number_at bytes) mem b i
      (λ same. not_page log lawful front h s base past call item ends bound back here p others e ts m run q out r b
      k (sym same))
      ∙ run.bytes r b i k l

  staged_alone : (x : ℕ) (bytes : List ℕ) (q : Range) (skip : Option Cond) → p.block ≡ None → p.staged ≡ Some q
      → q.to ≡ q.from + length (x ∷ bytes)
      → Rest (Stage (x ∷ bytes) None skip) → IsDone (Stage (x ∷ bytes) None skip) (make_write q (x ∷ bytes) m)
  staged_alone x bytes q skip none is long t =
      let play = Stage (x ∷ bytes) None skip in
      record {
        bytes = λ r b i k l.
            ap (λ f. f b i) (wrote log.meaning base q (x ∷ bytes) m long (page_spares play q is t))
            ∙ staged_agree play q (x ∷ bytes) is t r b i k l;
        now = old_bound log lawful front h s base past call item ends bound back here p others e ts m run play
            (λ r. refl);
        clear = old_clear log lawful front h s base past call item ends bound back here p others e ts m run
            (the_turn play ∷ ts) t;
        zeros = no_zeros log lawful front h s base past call item ends bound back here p others e ts m run play refl
            none t;
      }

  page_clear : (q target : Range) (skip : Option Cond) (qs : List Range) → AllByRecursion (λ r. meets q r ≡ false) qs
      → AllByRecursion (λ r. AllByRecursion (λ t. meets t.range r ≡ false)
      (map (touch_on m.blocks) (target_touches (Some target) ++ cond_touches skip))) qs
      → AllByRecursion (λ r. AllByRecursion (λ t. meets t.range r ≡ false)
      (work_touches (work.Copy q (range_on m.blocks target)) ++ cond_touches (cond_on m.blocks skip))) qs
  page_clear q target skip [] a b = tt
  page_clear q target skip (r ∷ rs) a b = (
    (a.0, (b.0.0, subst (AllByRecursion (λ t. meets t.range r ≡ false)) (sym (conds_on m.blocks skip)) b.0.1)),
    page_clear q target skip rs a.1 b.1,
  )

  by_skip : (target : Range) (bytes : List ℕ) (q : Range) (old : Memory) (x : Bool) (r b i : ℕ) → old b i ≡ seq r i
      → put (range_on m.blocks target) (byte_of old q) old b i ≡ put target (number_at bytes) seq r i
      → cond x old (put (range_on m.blocks target) (byte_of old q) old) b i
      ≡ cond x seq (put target (number_at bytes) seq) r i
  by_skip target bytes q old true r b i f g = f
  by_skip target bytes q old false r b i f g = g

  staged_copied : (x : ℕ) (bytes : List ℕ) (q target : Range) (skip : Option Cond)
      → At (Stage (x ∷ bytes) (Some target) skip)
      → p.block ≡ None → p.staged ≡ Some q → q.to ≡ q.from + length (x ∷ bytes)
      → Rest (Stage (x ∷ bytes) (Some target) skip)
      → IsDone (Stage (x ∷ bytes) (Some target) skip)
      (make_command call (work.Copy q (range_on m.blocks target)) (cond_on m.blocks skip) (make_write q (x ∷ bytes) m))
  staged_copied x bytes q target skip at none is long t =
      let play = Stage (x ∷ bytes) (Some target) skip in
      let us = target_touches (Some target) ++ cond_touches skip in
      let d : c.Command = record {
        number = suc m.commands;
        call = call;
        work = work.Copy q (range_on m.blocks target);
        cond = cond_on m.blocks skip;
      } in
      let binds = λ (r i : ℕ) (k : is_touched us r i ≡ true). lawful.binds past call item ends play bound back at r
      i k in
      let old = put q (number_at (x ∷ bytes)) mem in
      let own = run.holds.own in
      let there = λ (r i : ℕ) (k : is_touched us r i ≡ true).
      has log lawful front h s base past call item ends bound back here p others e ts m run play at r i (binds r i k) in
      let agree = staged_agree play q (x ∷ bytes) is t in
      let out = staged_first (λ q. takes q.block placed ≡ false) q p.staged (staged_ranges others) is t.outside in
      let taken = on_live log lawful front h s base past call item ends bound back here p others e ts m run play at us
      (live_touches log.meaning log.script lawful past call item ends play bound back at) in
      record {
        bytes = λ r b i k l.
            ap (λ f. f b i) (commanded log.meaning base m.listed d _)
            ∙ ap (λ f. effect log.meaning d f b i) (wrote log.meaning base q (x ∷ bytes) m long
            (page_spares play q is t))
            ∙ ap (λ y. cond y old (put (range_on m.blocks target) (byte_of old q) old) b i)
            (skip_alike log.script.size m.blocks own skip
            (λ r i k. there r i (touched_back (target_touches (Some target)) (cond_touches skip) r i k)) old seq agree)
            ∙ by_skip target (x ∷ bytes) q old (is_skipped skip seq) r b i (agree r b i k l)
            (put_alike log.script.size m.blocks own target
            (λ r i k. there r i (or_left (covers target r i) (is_touched (cond_touches skip) r i) k))
            (byte_of old q) (number_at (x ∷ bytes)) (staged_bytes q (x ∷ bytes) mem long) old seq agree r b i k l);
        now = all_append (IsBoundIn log lawful front h s base (past ++ the_turn play ∷ []) m.blocks) m.listed (d ∷ [])
            (old_bound log lawful front h s base past call item ends bound back here p others e ts m run play
            (λ r. refl)) (
              (λ r b i k u. elim
                  (or_cases (covers q b i) (covers (range_on m.blocks target) b i
                  || is_touched (cond_touches (cond_on m.blocks skip)) b i) u) [
                    | inl first ↦
                        absurd (not_page log lawful front h s base past call item ends bound back here p others e ts m
                        run q out r b k
                        (sym (covered_block q b i first)))
                    | inr later ↦
                        now_bound log lawful front h s base past call item ends bound back here p others e ts m run play
                        (λ r. refl) us binds at r b i k
                        (ap (λ l. covers (range_on m.blocks target) b i || is_touched l b i)
                        (sym (conds_on m.blocks skip)) ∙ later)
                  ]),
              tt,
            );
        clear = all_append (ClearOf log lawful front h s base (staged_ranges others)) m.listed (d ∷ [])
            (old_clear log lawful front h s base past call item ends bound back here p others e ts m run
            (the_turn play ∷ ts) t) (
              page_clear q target skip (staged_ranges others)
                  (apart_first (λ r s. meets r s ≡ false) q p.staged (staged_ranges others) is t.apart)
                  (clear_of log lawful front h s base past call item ends bound back here p others e ts m run
                  (map (touch_on m.blocks) us) (staged_ranges others) taken
                  (drop_staged (λ q. takes q.block placed ≡ false) p.staged (staged_ranges others) t.outside)),
              tt,
            );
        zeros = no_zeros log lawful front h s base past call item ends bound back here p others e ts m run play refl
            none t;
      }

  -- Without a map, and without a buffer -----------------------------------------------------------------------------

  overwritten : (buffer from : ℕ) (bytes : List ℕ) → At (No_overwrite buffer from bytes) → p.block ≡ None
      → Rest (No_overwrite buffer from bytes)
      → IsDone (No_overwrite buffer from bytes)
      (make_write (range (block_of m.blocks buffer) from (from + length bytes)) bytes m)
  overwritten buffer from bytes at none t =
      let play = No_overwrite buffer from bytes in
      let right = lawful.plays past call item ends play bound back at in
      let on = run.lives.has_block buffer right.0.0 in
      let q = range buffer from (from + length bytes) in
      let r1 = range (block_of m.blocks buffer) from (from + length bytes) in
      let same : block_of m.blocks buffer ≡ on.0 = ap or_zero on.1 in
      let spares : AllByRecursion (Spares r1) m.listed =
      all_map (IsBoundIn log lawful front h s base past m.blocks) (Spares r1)
      (λ d f. spared r1 d (λ b i k u.
      let block : on.0 ≡ b = sym same ∙ covered_block r1 b i u in
      both_ways (is_bound buffer past false i) (right.2 i (covered_from r1 b i u) (covered_to r1 b i u))
      (f buffer b i (on.1 ∙ ap Some block) k))) m.listed run.bound in
      let n = make_write r1 bytes m in
      record {
        bytes = λ r b i k l.
            ap (λ f. f b i) (wrote log.meaning base r1 bytes m refl spares)
            ∙ put_alike log.script.size m.blocks run.holds.own q
            (λ r i k.
            let buffers : buffer ≡ r = covered_block q r i k in
            let there : m.blocks r ≡ Some on.0 = ap m.blocks (sym buffers) ∙ on.1 in
            let fits = right.0.1 in
            let to = covered_to q r i k in
            let sized : log.script.size buffer ≡ log.script.size r = ap log.script.size buffers in
            (on.0, there, omega (arith, fits, to, sized)))
            (number_at bytes) (number_at bytes) (λ k. refl) mem seq run.bytes r b i
            (sym (ap (λ f. f r) (write_blocks r1 bytes m)) ∙ k) l;
        now = subst (λ f. AllByRecursion (IsBoundIn log lawful front h s base (past ++ the_turn play ∷ []) f)
            n.listed) (sym (write_blocks r1 bytes m))
            (subst (AllByRecursion (IsBoundIn log lawful front h s base (past ++ the_turn play ∷ []) m.blocks))
            (sym (write_listed r1 bytes m))
            (old_bound log lawful front h s base past call item ends bound back here p others e ts m run play
            (λ r. refl)));
        clear = subst (AllByRecursion (ClearOf log lawful front h s base (staged_ranges others)))
            (sym (write_listed r1 bytes m))
            (old_clear log lawful front h s base past call item ends bound back here p others e ts m run
            (the_turn play ∷ ts) t);
        zeros = no_zeros log lawful front h s base past call item ends bound back here p others e ts m run play refl
            none t;
      }

  destroyed : (buffer : ℕ) (n : Made) → n.blocks ≡ updated buffer None m.blocks → n.listed ≡ m.listed
      → n.writes ≡ m.writes → p.block ≡ None
      → Rest (Destroy buffer) → IsDone (Destroy buffer) n
  destroyed buffer n blocks listed writes none t =
      let play = Destroy buffer in
      let old = old_bound log lawful front h s base past call item ends bound back here p others e ts m run play
      (λ r. refl) in
      let fewer : AllByRecursion (IsBoundIn log lawful front h s base (past ++ the_turn play ∷ [])
      (updated buffer None m.blocks)) m.listed =
      all_map (IsBoundIn log lawful front h s base (past ++ the_turn play ∷ []) m.blocks)
      (IsBoundIn log lawful front h s base (past ++ the_turn play ∷ []) (updated buffer None m.blocks))
      (λ d f r b i k u. f r b i (found buffer m.blocks r b k).0 u) m.listed old in
      let left : memory log lawful front h s base n ≡ mem = λ j.
      run_acts log.meaning (command_acts (listed j)) (run_acts log.meaning (part_acts (writes j)) base) in
      record {
        bytes = λ r b i k l.
            ap (λ f. f b i) left
            ∙ run.bytes r b i (found buffer m.blocks r b (sym (ap (λ f. f r) blocks) ∙ k)).0 l;
        now = subst (λ f. AllByRecursion (IsBoundIn log lawful front h s base (past ++ the_turn play ∷ []) f)
            n.listed) (sym blocks)
            (subst (AllByRecursion (IsBoundIn log lawful front h s base (past ++ the_turn play ∷ [])
            (updated buffer None m.blocks))) (sym listed) fewer);
        clear = subst (AllByRecursion (ClearOf log lawful front h s base (staged_ranges others))) (sym listed)
            (old_clear log lawful front h s base past call item ends bound back here p others e ts m run
            (the_turn play ∷ ts) t);
        zeros = no_zeros log lawful front h s base past call item ends bound back here p others e ts m run play refl
            none t;
      }

  -- Any item --------------------------------------------------------------------------------------------------------

  nothing_staged : (target : Option Range) (skip : Option Cond) → ((r : Range) → target ≡ Some r → r.to ≡ r.from + 0)
      → (r i : ℕ) → seq r i ≡ staged_in_order [] target skip seq r i
  nothing_staged None skip none r i = refl
  nothing_staged (Some target) skip none r i = by (is_skipped skip seq)
    where
      by : (x : Bool) → seq r i ≡ cond x seq (put target (number_at []) seq) r i
      by true = refl
      by false = let l = none target refl in ap (λ f. f r i)
          (sym (empty_put target (number_at []) seq (omega (arith, l))))

  still : (play : Play) → ((r : ℕ) → resets r (the_turn play) ≡ false) → lengths_of log.script (the_turn play) ≡ []
      → p.block ≡ None
      → ((r i : ℕ) → seq r i
      ≡ (play_in_order log.meaning log.script play (at_past log lawful front h s base past)).bytes r i)
      → Rest play → IsDone play m
  still play n none is same t = quiet log lawful front h s base past call item ends bound back here p others e ts m
      run play n none is same t

  relabelled : (play : Play) (n : Made) (rs : List Range) → IsDone play n → IsDone play (record n { staging = rs })
  relabelled play n rs d = with_staging log lawful front h s base past call item ends bound back here p others e ts
      m run play n rs d

  other_buffer : (buffer r : ℕ) → (r == buffer) ≡ false → (buffer == r) ≡ false
  other_buffer buffer r n =
      elim (cases_Bool (buffer == r))
      [ inl t ↦ absurd (both_ways (r == buffer) n (eq-eqb r buffer (sym (eqb-true buffer r t)))) | inr f ↦ f ]

  pub item_done : (play : Play) (new : BlockMap) → At play → PlacesPlay log.script play p m.blocks new → Rest play
      → IsDone play (make_play log.script call play bound p m)
  item_done (Create buffer bytes) new at k t =
      let long : 0 + length bytes ≡ length bytes = omega arith in
      subst (λ n. IsDone (Create buffer bytes)
      (make_write (block_range p.block 0 n) bytes (give_block log.script buffer p.block m))) long
      (taken_done log lawful front h s base past call item ends bound back here p others e ts m run
      (Create buffer bytes) buffer k.0 0 bytes k.1 refl
      (λ r n. other_buffer buffer r n) (number_at bytes) (λ i l. refl) refl t)
  item_done (Discard buffer from bytes) new at k t =
      taken_done log lawful front h s base past call item ends bound back here p others e ts m run
      (Discard buffer from bytes) buffer k.0 from bytes k.1 refl
      (λ r n. other_buffer buffer r n) (number_at (padded from bytes (log.script.size buffer)))
      (λ i l.
      let n = log.script.size buffer - (from + length bytes) in
      sym (ap (λ l. number_at l i) (sym (append_assoc (replicate from 0) bytes (replicate n 0)))
      ∙ padded_at (replicate from 0 ++ bytes) n i)) refl t
  item_done (No_overwrite buffer from bytes) new at k t = overwritten buffer from bytes at k.0.0 t
  item_done (Stage [] target skip) new at k t =
      let right = lawful.plays past call item ends (Stage [] target skip) bound back at in
      subst (λ o. IsDone (Stage [] target skip) (make_staged log.script call [] target skip bound o m)) (sym k.2)
      (still (Stage [] target skip) (λ r. refl) refl k.0 (nothing_staged target skip right.1) t)
  item_done (Stage (x ∷ bytes) None skip) new at k t =
      let q = k.2 in
      subst (λ o. IsDone (Stage (x ∷ bytes) None skip) (make_staged log.script call (x ∷ bytes) None skip bound o
      m)) (sym q.1)
      (relabelled _ _ _ (staged_alone x bytes q.0 skip k.0 q.1 q.2 t))
  item_done (Stage (x ∷ bytes) (Some target) skip) new at k t =
      let q = k.2 in
      subst (λ o. IsDone (Stage (x ∷ bytes) (Some target) skip)
      (make_staged log.script call (x ∷ bytes) (Some target) skip bound o m)) (sym q.1)
      (relabelled _ _ _ (staged_copied x bytes q.0 target skip at k.0 q.1 q.2 t))
  item_done (Command w skip) new at k t =
      relabelled _ _ _ (command_done log lawful front h s base past call item ends bound back here p others e ts m
      run w skip at k.0.0 t)
  item_done (Destroy buffer) new at k t = destroyed buffer _ refl refl refl k.0 t
  item_done Create_shader new at k t = still Create_shader (λ r. refl) refl k.0.0 (λ r i. refl) t
  item_done (Mark_query query true) new at k t =
      let d = still (Mark_query query true) (λ r. refl) refl k.0.0 (λ r i. refl) t in
      record { bytes = d.bytes; now = d.now; clear = d.clear; zeros = d.zeros }
  item_done (Mark_query query false) new at k t =
      let d = still (Mark_query query false) (λ r. refl) refl k.0.0 (λ r i. refl) t in
      record { bytes = d.bytes; now = d.now; clear = d.clear; zeros = d.zeros }
  item_done Set_state new at k t = relabelled _ m _ (still Set_state (λ r. refl) refl k.0.0 (λ r i. refl) t)
