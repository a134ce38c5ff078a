-- Bytes are staged: the host writes them to a page, and a command copies them to the target, if there is one.
use Rattle.std.proofs.Common.{◌≡◌, ℕ, suc, ◌+◌, ◌-◌, ◌<◌, ◌≤◌, Bool, true, false, cond, ◌||◌, ◌==◌, nat_lt, List, []}
use Rattle.std.proofs.Common.{◌∷◌, ◌++◌, length, map, refl, sym, ap, ◌∙◌, subst, inl, inr, Option, Some, None, arith}
use Rattle.std.specs.List.{AllByRecursion}
use Rattle.std.proofs.lemmas.Bool.{cases_Bool, or_cases, eqb-true, eq-eqb, ltb-true, cases_lt, lt-ltb}
use Rattle.std.proofs.lemmas.List.Folds.{list_any-append}
use Rattle.dx_types.specs.declared.range.Range.{Range}
use Rattle.vk_types.specs.declared.touch.Touch.{Touch}
use Rattle.vk_types.specs.declared.command.Cond.{Cond}
use Rattle.vk_types.specs.declared.command.Work.TheVariants as work
use Rattle.vk_types.specs.declared.access.Stage.TheVariants as stage
use Rattle.vk_types.specs.declared.command.Command as c
use Rattle.vk_types.specs.Memory.{Memory, covers, put, byte_of, number_at}
use Rattle.vk_types.specs.Hazards.{touch, read_access, touches, cond_touches, is_touched}
use Rattle.vk_types.specs.Effects.{Meaning, Host_write, is_skipped, invocations}
use Rattle.vk_types.specs.BarrierCauses.{least_conflict, caused}
use Rattle.base_lemmas.proofs.Lists.{all_map}
use Rattle.vk_types.proofs.Local.{covered, covered_block}
use Rattle.core_model.specs.Script.{Stage, Turn, Item, Script, InOrder, updated, staged_in_order, at_start}
use Rattle.core_model.specs.Script.{turn_in_order, in_order}
use Rattle.core_model.specs.Chunking.{is_due}
use Rattle.core_model.specs.Renaming.{range_on, cond_on}
use Rattle.core_model.specs.CoreState.{Owner, Pool, Core, taken_count, finished_count, open_number}
use Rattle.core_model.specs.Readings.{Reading}
use Rattle.core_model.specs.Owners.{in_ranges, bind_owner}
use Rattle.core_model.specs.Placing.{Staged}
use Rattle.core_model.specs.Adding.{has_block, placed_at, add_staging, page_owner, staged_range, new_entry}
use Rattle.core_model.specs.Adding.{epoch_after, new_command, plays_command}
use Rattle.core_model.specs.Worlds.{empty, world_step}
use Rattle.core_model.specs.Lawful.{target_touches, Fits, IsLawful}
use Rattle.core_model.specs.Invariant.{Allows, IsSince, IsLive, Totals, Good}
use Rattle.core_model.specs.Kept.{Names, Kept}
use Rattle.core_model.proofs.Steps.Binding.{still_bound, or_left, or_right, bind_allows, bind_since, bind_live}
use Rattle.core_model.proofs.Steps.Alike.{Has, skip_alike, put_alike}
use Rattle.core_model.proofs.Steps.Uses.{touch_on, conds_on, filled_on, touched_buffer, bound_fits, bound_on}
use Rattle.core_model.proofs.Steps.Uses.{bound_named, live_allows, names_more}
use Rattle.core_model.proofs.Steps.Padding.{past_end}
use Rattle.core_model.proofs.Listing.MoreListed.{command_entry}
use Rattle.core_model.proofs.Steps.Commanding.{commanded_world, opened_command}
use Rattle.core_model.proofs.Steps.Writing.{with_bytes, written_world, opened_write}
use Rattle.core_model.proofs.Queries.Counting.{totals_more}
use Rattle.core_model.proofs.Steps.Opened.{before_open, Opened, opened, opened_turn, opened_owner, opened_bound}
use Rattle.core_model.proofs.Steps.Taking.{left_by, Meets, met, taken_good}
use Rattle.core_model.proofs.Steps.StagedPages.{IsReady, page_old, page_allows, live_of_buffer}

-- The item ----------------------------------------------------------------------------------------------------------

module _ (meaning : Meaning) (reading : Reading) (script : Script) (lawful : IsLawful meaning script) (old : Core)
    (call item : ℕ) (ends : Bool) (byte : ℕ) (others : List ℕ) (target : Option Range)
    (skip : Option Cond) (bound : List Range) (turns : List Turn)
    (e : old.future ≡ Item call item ends (Stage (byte ∷ others) target skip) bound ∷ turns)
    (due : is_due script old.open_chunk.turns old.future ≡ false) (k : Kept meaning reading script old) (s : Staged)
    (pool : Pool)
    (ready : IsReady (taken_count old) (finished_count old) (open_number old) old.fence s.at (old.owner s.block)
    (page_owner (open_number old) old.fence s.added (old.owner s.block))) where
  abbrev g : Good meaning reading script old
  g = k.good

  abbrev pub bytes : List ℕ
  bytes = byte ∷ others

  abbrev turn : Turn
  turn = Item call item ends (Stage bytes target skip) bound

  abbrev before : InOrder
  before = in_order meaning script old.past at_start

  abbrev source : Range
  source = staged_range s (length bytes)

  abbrev blocks_bound : List Range
  blocks_bound = map (range_on old.blocks) bound

  abbrev rs : List Range
  rs = source ∷ blocks_bound

  abbrev page : Owner
  page = page_owner (open_number old) old.fence s.added (old.owner s.block)

  abbrev own : ℕ → Owner
  own = updated s.block page old.owner

  here : script.turns ≡ old.past ++ turn ∷ turns
  here = sym (ap (λ l. old.past ++ l) (sym e) ∙ g.sound.position)

  m : Meets meaning script old before
  m = met meaning reading script old g

  -- no buffer has the page
  strange : (r b : ℕ) → old.blocks r ≡ Some b → s.block ≡ b → ⊥
  strange r b is same =
      ready.strange
      (live_of_buffer r (old.owner s.block) (subst (λ b. IsLive r (old.owner b)) (sym same) (g.live r b is)))

  own_here : own s.block ≡ page
  own_here = ap (λ c. cond c page (old.owner s.block)) (eq-eqb s.block s.block refl)

  own_other : (b : ℕ) → (s.block ≡ b → ⊥) → own b ≡ old.owner b
  own_other b n =
      let d : (b == s.block) ≡ false = elim (cases_Bool (b == s.block))
      [ inl t ↦ absurd (n (sym (eqb-true b s.block t))) | inr f ↦ f ] in
      ap (λ c. cond c page (old.owner b)) d

  abbrev taken : Core
  taken = record old {
    past = old.past ++ turn ∷ [];
    future = turns;
    owner = own;
    pool = pool;
    open_chunk = record old.open_chunk {
      turns = old.open_chunk.turns ++ turn ∷ [];
      placed = old.open_chunk.placed ++ placed_at call item None None (Some source) ∷ [];
    };
  }

  own_keeps : (b i chunk : ℕ) → chunk ≤ open_number old → Allows (taken_count old) (finished_count old)
      (old.owner b) i chunk → Allows (taken_count old) (finished_count old) (own b) i chunk
  own_keeps b i chunk l a =
      elim (cases_Bool (b == s.block)) [
        | inl t ↦
            subst (λ c. Allows (taken_count old) (finished_count old) (cond c page (old.owner b)) i chunk) (sym t)
            (ready.keeps i chunk l (subst (λ b. Allows (taken_count old) (finished_count old) (old.owner b) i chunk)
            (eqb-true b s.block t) a))
        | inr f ↦ subst (λ c. Allows (taken_count old) (finished_count old) (cond c page (old.owner b)) i chunk)
            (sym f) a
      ]

  own_since : (b : ℕ) → IsSince (finished_count old) (own b)
  own_since b = by (b == s.block)
    where
      by : (c : Bool) → IsSince (finished_count old) (cond c page (old.owner b))
      by true = ready.since
      by false = g.sound.since b

  taken_opened : Opened meaning script taken
  taken_opened =
      let o = opened meaning reading script old g.sound in
      let turned = opened_turn meaning script old o (old.past ++ turn ∷ []) turns
      (old.open_chunk.turns ++ turn ∷ []) (old.open_chunk.placed
      ++ placed_at call item None None (Some source) ∷ []) old.open_chunk.queries in
      opened_owner meaning script _ turned own old.board pool own_keeps own_since

  abbrev written : Core
  written = with_bytes call source bytes taken

  long : length bytes ≡ source.to - source.from
  long = omega arith

  filled : source.from < source.to
  filled = omega arith

  old_at : (i chunk : ℕ) → Allows (taken_count old) (finished_count old) (own source.block) i chunk
      → source.from ≤ i → i < source.to → chunk ≤ old.fence
  old_at i chunk a l u =
      page_old (taken_count old) (finished_count old) (open_number old) old.fence s.at i chunk page ready.page
      ready.taken ready.free l
      (subst (λ o. Allows (taken_count old) (finished_count old) o i chunk) own_here a)

  written_opened : Opened meaning script written
  written_opened =
      opened_write meaning script taken taken_opened call source bytes long filled old_at
      (λ q b st is same. strange q b is same)
      (all_map (λ t. Names old.is_staging old.owner t.staging t.bound) (λ t. has_block s.block t.staging ≡ false)
      (λ t named.
      elim (cases_Bool (has_block s.block t.staging)) [
        | inl h ↦ absurd (ready.strange (k.beside.blocks.held s.block (named.0 s.block h)).0)
        | inr f ↦ f
      ])
      (before_open old) k.beside.named)

  -- what is bound is bound
  abbrev binding : Core
  binding = record written {
    owner = λ b. bind_owner rs b (own b);
    open_chunk = record written.open_chunk {
      bound = old.open_chunk.bound ++ rs;
      staging = add_staging script old.blocks bound old.open_chunk.staging;
      pages = old.open_chunk.pages ++ s.added;
    };
  }

  fits : AllByRecursion (λ r. Fits meaning script old.past r × (r.from < r.to)) bound
  fits = lawful.fits old.past call item ends (Stage bytes target skip) bound turns here

  binding_opened : Opened meaning script binding
  binding_opened =
      let owned = opened_owner meaning script written written_opened (λ b. bind_owner rs b (own b)) old.board pool
      (λ b i chunk l a. bind_allows rs (taken_count old) (finished_count old) b i chunk (own b) a)
      (λ b. bind_since rs (finished_count old) b (own b) (own_since b)) in
      opened_bound meaning script _ owned rs (add_staging script old.blocks bound old.open_chunk.staging)
      (old.open_chunk.pages ++ s.added)
      (names_more meaning script (left_by meaning old).memory old.blocks old.past m.stands old.open_chunk
      (opened meaning reading script old g.sound).names_open (source ∷ []) bound
      (λ r b is.
      let d : (s.block == b) ≡ false = elim (cases_Bool (s.block == b))
      [ inl t ↦ absurd (strange r b is (eqb-true s.block b t)) | inr f ↦ f ] in
      ap (λ c. c || false) d)
      fits)
      (still_bound script old.blocks bound old.open_chunk.staging old.open_chunk.bound (source ∷ [])
      (opened meaning reading script old g.sound).binds.1)

  -- what all leave now has the bytes in the page, and the buffers' bytes as before
  abbrev pub memory : Memory
  memory = put source (number_at bytes) (left_by meaning old).memory

  pub left_written : left_by meaning binding ≡ world_step meaning (new_entry taken (Host_write source bytes))
      (left_by meaning old)
  left_written = written_world meaning script taken taken_opened call source bytes long filled old_at empty

  agree : (r b i : ℕ) → old.blocks r ≡ Some b → i < script.size r → memory b i ≡ before.bytes r i
  agree r b i is l =
      let out : covers source b i ≡ false = elim (cases_Bool (covers source b i))
      [ inl t ↦ absurd (strange r b is (covered_block source b i t)) | inr f ↦ f ] in
      ap (λ c. cond c (number_at bytes (i - source.from)) ((left_by meaning old).memory b i)) out
      ∙ m.stands.bytes r b i is l

  -- the bytes of the page
  staged_bytes : (i : ℕ) → byte_of memory source i ≡ number_at bytes i
  staged_bytes i =
      elim (cases_lt i (length bytes)) [
        | inl l ↦
            let inside : nat_lt (s.at + i) (s.at + length bytes) ≡ true =
            lt-ltb (s.at + i) (s.at + length bytes) (omega (arith, l)) in
            let there : covers source s.block (s.at + i) ≡ true =
            covered source s.block (s.at + i) refl (omega arith) (omega (arith, l)) in
            let place : s.at + i - s.at ≡ i = omega arith in
            ap (λ c. cond c (memory s.block (s.at + i)) 0) inside
            ∙ ap (λ c. cond c (number_at bytes (s.at + i - s.at))
            ((left_by meaning old).memory s.block (s.at + i))) there ∙ ap (number_at bytes) place
        | inr h ↦
            let outside : nat_lt (s.at + i) (s.at + length bytes) ≡ false =
            not_less (s.at + i) (s.at + length bytes) (omega (arith, h)) in
            ap (λ c. cond c (memory s.block (s.at + i)) 0) outside ∙ sym (past_end bytes i h)
      ]
    where
      not_less : (a b : ℕ) → b ≤ a → nat_lt a b ≡ false
      not_less a b h = elim (cases_Bool (nat_lt a b)) [
        | inl t ↦ let l = ltb-true a b t in
            absurd (let z : ⊥ = omega (arith, l, h) in z)
        | inr f ↦ f
      ]

  live_bound : (r b : ℕ) → old.blocks r ≡ Some b → IsLive r (bind_owner rs b (own b))
  live_bound r b is = bind_live rs b r (own b) (subst (IsLive r) (sym (own_other b (strange r b is))) (g.live r b is))

  -- Without a target ------------------------------------------------------------------------------------------------

  untargeted_meets : target ≡ None → Meets meaning script binding (turn_in_order meaning script turn before)
  untargeted_meets none =
      let state : staged_in_order bytes target skip before.bytes ≡ before.bytes =
      ap (λ t. staged_in_order bytes t skip before.bytes) none in
      record {
        stands = record {
          has_block = m.stands.has_block;
          is_live = m.stands.is_live;
          own = m.stands.own;
          bytes = λ r b i is l. ap (λ w. w.memory b i) left_written ∙ agree r b i is l ∙ ap (λ f. f r i) (sym state);
        };
        live = live_bound;
        totals = subst (λ f. Totals f old.commands (turn_in_order meaning script turn before))
            (sym (ap (λ w. w.counts) left_written)) (let t = m.totals in record { total = t.total; above = t.above });
      }

  pub untargeted_good : target ≡ None → Good meaning reading script binding
  untargeted_good none = taken_good meaning reading script old binding turn turns e due refl refl refl refl g
      binding_opened (untargeted_meets none)

  -- With one --------------------------------------------------------------------------------------------------------

  module _ (tg : Range) (is_target : target ≡ Some tg) where
    abbrev ts : List Touch
    ts = target_touches (Some tg) ++ cond_touches skip

    abbrev d : c.Command
    d = new_command binding call (work.Copy source (range_on old.blocks tg)) (cond_on old.blocks skip)

    abbrev done : Core
    done = plays_command call (work.Copy source (range_on old.blocks tg)) (cond_on old.blocks skip) binding

    touched : touches d ≡ touch stage.Transfer read_access source ∷ map (touch_on old.blocks) ts
    touched = ap (λ l. touch stage.Transfer read_access source ∷ map (touch_on old.blocks)
        (target_touches (Some tg)) ++ l) (conds_on old.blocks skip)

    is_bound : (r i : ℕ) → is_touched ts r i ≡ true → in_ranges bound r i ≡ true
    is_bound r i h = lawful.binds old.past call item ends (Stage bytes target skip) bound turns here r i
        (subst (λ t. is_touched (target_touches t ++ cond_touches skip) r i ≡ true) (sym is_target) h)

    has : (r i : ℕ) → is_touched ts r i ≡ true → Has script.size old.blocks m.stands.own r i
    has r i h =
        let f = bound_fits meaning script old.past bound fits r i (is_bound r i h) in
        let b = m.stands.has_block r f.0 in
        (b.0, b.1, f.1)

    on_block : (b i : ℕ) → is_touched (map (touch_on old.blocks) ts) b i ≡ true → (r : ℕ) × (old.blocks r ≡ Some b)
        × (in_ranges blocks_bound b i ≡ true)
    on_block b i h =
        let t = touched_buffer script.size old.blocks m.stands.own ts has b i h in
        (t.0, t.1, bound_on old.blocks bound t.0 b i t.1 (is_bound t.0 i t.2))

    may_touch : (b i : ℕ) → is_touched (touches d) b i ≡ true
        → Allows (taken_count old) (finished_count old) (bind_owner rs b (own b)) i (open_number old)
    may_touch b i h =
        elim (or_cases (covers source b i) (is_touched (map (touch_on old.blocks) ts) b i)
        (sym (ap (λ l. is_touched l b i) touched) ∙ h)) [
          | inl t ↦
              subst (λ b. Allows (taken_count old) (finished_count old) (bind_owner rs b (own b)) i
              (open_number old)) (covered_block source b i t)
              (subst (λ o. Allows (taken_count old) (finished_count old) (bind_owner rs s.block o) i
              (open_number old)) (sym own_here)
              (page_allows (taken_count old) (finished_count old) (open_number old) s.block i rs page ready.page
              (or_left (covers source s.block i) (in_ranges blocks_bound s.block i)
              (ap (λ b. covers source b i) (covered_block source b i t) ∙ t))))
          | inr t ↦
              let x = on_block b i t in
              live_allows (taken_count old) (finished_count old) x.0 b i (open_number old) rs (own b)
              (subst (IsLive x.0) (sym (own_other b (strange x.0 b x.1))) (g.live x.0 b x.1))
              (or_right (covers source b i) (in_ranges blocks_bound b i) x.2)
        ]

    is_named : (b i : ℕ) → is_touched (touches d) b i ≡ true → has_block b (old.open_chunk.bound ++ rs) ≡ true
    is_named b i h =
        list_any-append (λ r. r.block == b) old.open_chunk.bound rs
        ∙ or_right (has_block b old.open_chunk.bound) (has_block b rs)
        (elim (or_cases (covers source b i) (is_touched (map (touch_on old.blocks) ts) b i)
        (sym (ap (λ l. is_touched l b i) touched) ∙ h)) [
          | inl t ↦ or_left (source.block == b) (has_block b blocks_bound)
              (eq-eqb source.block b (covered_block source b i t))
          | inr t ↦ or_right (source.block == b) (has_block b blocks_bound)
              (bound_named blocks_bound b i (on_block b i t).2)
        ])

    done_opened : Opened meaning script done
    done_opened =
        opened_command meaning script binding binding_opened d (least_conflict old.recent d) refl
        (subst (AllByRecursion (λ t. t.range.from < t.range.to)) (sym touched) (
          filled,
          filled_on old.blocks ts
              (subst (λ t. AllByRecursion (λ t. t.range.from < t.range.to) (target_touches t ++ cond_touches skip))
              is_target
              (lawful.filled old.past call item ends (Stage bytes target skip) bound turns here)),
        ))
        may_touch is_named

    pub left_now : left_by meaning done ≡ world_step meaning
        (command_entry d (open_number old) (epoch_after (caused old.recent d (least_conflict old.recent d))
        old.epoch))
        (world_step meaning (new_entry taken (Host_write source bytes)) (left_by meaning old))
    left_now =
        commanded_world meaning script binding binding_opened d (least_conflict old.recent d) refl empty
        ∙ ap (world_step meaning (command_entry d (open_number old)
        (epoch_after (caused old.recent d (least_conflict old.recent d)) old.epoch))) left_written

    -- the copy does to the buffers what the update does in order
    same_bytes : (r b i : ℕ) → old.blocks r ≡ Some b → i < script.size r
        → cond (is_skipped (cond_on old.blocks skip) memory) memory
        (put (range_on old.blocks tg) (byte_of memory source) memory) b i
        ≡ staged_in_order bytes (Some tg) skip before.bytes r i
    same_bytes r b i is l =
        ap (λ t. cond t memory (put (range_on old.blocks tg) (byte_of memory source) memory) b i)
        (skip_alike script.size old.blocks m.stands.own skip
        (λ r i h. has r i (or_right (covers tg r i) (is_touched (cond_touches skip) r i) h)) memory before.bytes
        agree)
        ∙ by_skip (is_skipped skip before.bytes)
      where
        by_skip : (t : Bool) → cond t memory (put (range_on old.blocks tg) (byte_of memory source) memory) b i
            ≡ cond t before.bytes (put tg (number_at bytes) before.bytes) r i
        by_skip true = agree r b i is l
        by_skip false =
            put_alike script.size old.blocks m.stands.own tg
            (λ r i h. has r i (or_left (covers tg r i) (is_touched (cond_touches skip) r i) h))
            (byte_of memory source) (number_at bytes) staged_bytes memory before.bytes
            agree r b i is l

    no_count : invocations meaning d memory ≡ 0
    no_count = by (is_skipped (cond_on old.blocks skip) memory)
      where
        by : (t : Bool) → (let zero : ℕ = 0 in cond t zero zero ≡ zero)
        by true = refl
        by false = refl

    done_meets : Meets meaning script done (turn_in_order meaning script turn before)
    done_meets = record {
      stands = record {
        has_block = m.stands.has_block;
        is_live = m.stands.is_live;
        own = m.stands.own;
        bytes = λ r b i is l. ap (λ w. w.memory b i) left_now ∙ same_bytes r b i is l
            ∙ ap (λ t. staged_in_order bytes t skip before.bytes r i) (sym is_target);
      };
      live = live_bound;
      totals =
          subst (λ f. Totals f (suc old.commands) (turn_in_order meaning script turn before))
          (sym (ap (λ w. w.counts) left_now))
          (totals_more (left_by meaning old).counts old.commands (invocations meaning d memory) before
          (turn_in_order meaning script turn before) m.totals (let z = no_count in omega (arith, z)));
    }

    pub targeted_good : Good meaning reading script done
    targeted_good = taken_good meaning reading script old done turn turns e due refl refl refl refl g done_opened
        done_meets
