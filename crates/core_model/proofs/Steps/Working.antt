-- An item that runs a command, in a lawful script.
use Rattle.std.proofs.Common.{◌≡◌, ℕ, suc, ◌+◌, ◌<◌, Bool, true, false, cond, ◌==◌, List, [], ◌∷◌, ◌++◌, map, refl}
use Rattle.std.proofs.Common.{sym, ap, ◌∙◌, subst, Option, Some, None}
use Rattle.std.specs.List.{AllByRecursion}
use Rattle.std.proofs.lemmas.List.Folds.{list_any-append}
use Rattle.dx_types.specs.declared.range.Range.{Range}
use Rattle.vk_types.specs.declared.command.Work.{Work}
use Rattle.vk_types.specs.declared.command.Cond.{Cond}
use Rattle.vk_types.specs.declared.command.Command as c
use Rattle.vk_types.specs.Memory.{Memory}
use Rattle.vk_types.specs.Hazards.{touches, work_touches, cond_touches, is_touched}
use Rattle.vk_types.specs.Effects.{Meaning, effect, work_effect, work_count, is_skipped, invocations}
use Rattle.vk_types.specs.BarrierCauses.{least_conflict, caused}
use Rattle.core_model.proofs.Listing.Touched.{touched_front, touched_back}
use Rattle.core_model.specs.Script.{Command, Turn, Item, Script, InOrder, at_start, turn_in_order, in_order}
use Rattle.core_model.specs.Chunking.{is_due}
use Rattle.core_model.specs.Renaming.{range_on, work_on, cond_on}
use Rattle.core_model.specs.CoreState.{Core, taken_count, finished_count, open_number}
use Rattle.core_model.specs.Readings.{Reading}
use Rattle.core_model.specs.Owners.{in_ranges, bind_owner}
use Rattle.core_model.specs.Adding.{has_block, placed_at, add_staging, epoch_after, new_command, plays_command}
use Rattle.core_model.specs.AppActs.{TakesTurn}
use Rattle.core_model.specs.Stands.{Stands}
use Rattle.core_model.specs.Worlds.{empty, world_step}
use Rattle.core_model.specs.Lawful.{Fits, IsLawful}
use Rattle.core_model.specs.Invariant.{Totals, Good}
use Rattle.core_model.proofs.Steps.Binding.{still_bound, or_right, bind_allows, bind_since, bind_live}
use Rattle.core_model.proofs.Steps.Alike.{Has, skip_alike, work_alike, count_alike}
use Rattle.core_model.proofs.Steps.Uses.{touches_on, filled_on, touched_buffer, bound_fits, bound_on, bound_named}
use Rattle.core_model.proofs.Steps.Uses.{live_allows, names_more}
use Rattle.core_model.proofs.Steps.Commanding.{commanded_world, opened_command}
use Rattle.core_model.proofs.Listing.MoreListed.{command_entry}
use Rattle.core_model.proofs.Steps.Opened.{Opened, opened, opened_turn, opened_owner, opened_bound}
use Rattle.core_model.proofs.Queries.Counting.{totals_more}
use Rattle.core_model.proofs.Steps.Taking.{left_by, Meets, met, taken_good}

-- A command on blocks has the effect of its work on buffers ---------------------------------------------------------

module _ (meaning : Meaning) (script : Script) (blocks : ℕ → Option ℕ) (w : Work) (skip : Option Cond)
    (number call : ℕ) (memory : Memory) (s : InOrder)
    (stands : Stands script memory blocks s) (has : (r i : ℕ)
    → is_touched (work_touches w ++ cond_touches skip) r i ≡ true → Has script.size blocks stands.own r i) where
  abbrev on_blocks : c.Command
  on_blocks = record { number = number; call = call; work = work_on blocks w; cond = cond_on blocks skip }

  same_skip : is_skipped (cond_on blocks skip) memory ≡ is_skipped skip s.bytes
  same_skip = skip_alike script.size blocks stands.own skip (λ r i h. has r i
      (touched_back (work_touches w) (cond_touches skip) r i h)) memory s.bytes stands.bytes

  of_work : (r i : ℕ) → is_touched (work_touches w) r i ≡ true → Has script.size blocks stands.own r i
  of_work r i h = has r i (touched_front (work_touches w) (cond_touches skip) r i h)

  pub same_bytes : (r b i : ℕ) → blocks r ≡ Some b → i < script.size r
      → effect meaning on_blocks memory b i ≡ cond (is_skipped skip s.bytes) s.bytes (work_effect meaning w s.bytes)
      r i
  same_bytes r b i e l =
      ap (λ t. cond t memory (work_effect meaning (work_on blocks w) memory) b i) same_skip
      ∙ by_skip (is_skipped skip s.bytes)
    where
      by_skip : (t : Bool) → cond t memory (work_effect meaning (work_on blocks w) memory) b i
          ≡ cond t s.bytes (work_effect meaning w s.bytes) r i
      by_skip true = stands.bytes r b i e l
      by_skip false = work_alike script.size blocks stands.own meaning w of_work memory s.bytes stands.bytes r b i e l

  pub same_count : invocations meaning on_blocks memory ≡ cond (is_skipped skip s.bytes) 0
      (work_count meaning w s.bytes)
  same_count = λ i. cond (same_skip i) 0 (count_alike script.size blocks stands.own meaning w of_work memory s.bytes
      stands.bytes i)

-- The item ----------------------------------------------------------------------------------------------------------

module _ (meaning : Meaning) (reading : Reading) (script : Script) (lawful : IsLawful meaning script) (old : Core)
    (call item : ℕ) (ends : Bool) (w : Work) (skip : Option Cond) (bound : List Range)
    (turns : List Turn) (e : old.future ≡ Item call item ends (Command w skip) bound ∷ turns)
    (due : is_due script old.open_chunk.turns old.future ≡ false) (g : Good meaning reading script old) where
  abbrev turn : Turn
  turn = Item call item ends (Command w skip) bound

  abbrev before : InOrder
  before = in_order meaning script old.past at_start

  abbrev blocks_bound : List Range
  blocks_bound = map (range_on old.blocks) bound

  -- the turn is taken and its ranges are bound
  abbrev binding : Core
  binding = record old {
    past = old.past ++ turn ∷ [];
    future = turns;
    owner = λ b. bind_owner blocks_bound b (old.owner b);
    open_chunk = record old.open_chunk {
      turns = old.open_chunk.turns ++ turn ∷ [];
      placed = old.open_chunk.placed ++ placed_at call item None None None ∷ [];
      bound = old.open_chunk.bound ++ blocks_bound;
      staging = add_staging script old.blocks bound old.open_chunk.staging;
    };
  }

  abbrev d : c.Command
  d = new_command binding call (work_on old.blocks w) (cond_on old.blocks skip)

  here : script.turns ≡ old.past ++ turn ∷ turns
  here = sym (ap (λ l. old.past ++ l) (sym e) ∙ g.sound.position)

  m : Meets meaning script old before
  m = met meaning reading script old g

  fits : AllByRecursion (λ r. Fits meaning script old.past r × (r.from < r.to)) bound
  fits = lawful.fits old.past call item ends (Command w skip) bound turns here

  -- what it touches is bound, so it is of a live buffer
  is_bound : (r i : ℕ) → is_touched (work_touches w ++ cond_touches skip) r i ≡ true → in_ranges bound r i ≡ true
  is_bound r i h = lawful.binds old.past call item ends (Command w skip) bound turns here r i h

  has : (r i : ℕ) → is_touched (work_touches w ++ cond_touches skip) r i ≡ true
      → Has script.size old.blocks m.stands.own r i
  has r i h =
      let f = bound_fits meaning script old.past bound fits r i (is_bound r i h) in
      let b = m.stands.has_block r f.0 in
      (b.0, b.1, f.1)

  -- a byte of a block that it touches is bound there
  on_block : (b i : ℕ) → is_touched (touches d) b i ≡ true → (r : ℕ) × (old.blocks r ≡ Some b)
      × (in_ranges blocks_bound b i ≡ true)
  on_block b i h =
      let t = touched_buffer script.size old.blocks m.stands.own (work_touches w ++ cond_touches skip) has b i
      (sym (ap (λ l. is_touched l b i) (touches_on old.blocks w skip)) ∙ h) in
      (t.0, t.1, bound_on old.blocks bound t.0 b i t.1 (is_bound t.0 i t.2))

  bound_opened : Opened meaning script binding
  bound_opened =
      let o = opened meaning reading script old g.sound in
      let taken = opened_turn meaning script old o (old.past ++ turn ∷ []) turns (old.open_chunk.turns ++ turn ∷ [])
      (old.open_chunk.placed ++ placed_at call item None None None ∷ []) old.open_chunk.queries in
      let owned = opened_owner meaning script _ taken (λ b. bind_owner blocks_bound b (old.owner b)) old.board old.pool
      (λ b i chunk l a. bind_allows blocks_bound (taken_count old) (finished_count old) b i chunk (old.owner b) a)
      (λ b. bind_since blocks_bound (finished_count old) b (old.owner b) (g.sound.since b)) in
      opened_bound meaning script _ owned blocks_bound (add_staging script old.blocks bound old.open_chunk.staging)
      old.open_chunk.pages
      (names_more meaning script (left_by meaning old).memory old.blocks old.past m.stands old.open_chunk
      o.names_open [] bound (λ r b is. refl) fits)
      (still_bound script old.blocks bound old.open_chunk.staging old.open_chunk.bound [] o.binds.1)

  abbrev done : Core
  done = plays_command call (work_on old.blocks w) (cond_on old.blocks skip) binding

  done_opened : Opened meaning script done
  done_opened =
      opened_command meaning script binding bound_opened d (least_conflict old.recent d) refl
      (subst (AllByRecursion (λ t. t.range.from < t.range.to)) (sym (touches_on old.blocks w skip))
      (filled_on old.blocks (work_touches w ++ cond_touches skip)
      (lawful.filled old.past call item ends (Command w skip) bound turns here)))
      (λ b i h.
      let t = on_block b i h in
      live_allows (taken_count old) (finished_count old) t.0 b i (open_number old) blocks_bound (old.owner b)
      (g.live t.0 b t.1) t.2)
      (λ b i h.
      list_any-append (λ r. r.block == b) old.open_chunk.bound blocks_bound
      ∙ or_right (has_block b old.open_chunk.bound) (has_block b blocks_bound)
      (bound_named blocks_bound b i (on_block b i h).2))

  -- what is left now
  pub left_now : left_by meaning done
      ≡ world_step meaning (command_entry d (open_number old)
      (epoch_after (caused old.recent d (least_conflict old.recent d)) old.epoch)) (left_by meaning old)
  left_now = commanded_world meaning script binding bound_opened d (least_conflict old.recent d) refl empty

  done_meets : Meets meaning script done (turn_in_order meaning script turn before)
  done_meets =
      let memory = (left_by meaning old).memory in
      record {
        stands = record {
          has_block = m.stands.has_block;
          is_live = m.stands.is_live;
          own = m.stands.own;
          bytes = λ r b i is l.
              ap (λ w. w.memory b i) left_now
              ∙ same_bytes meaning script old.blocks w skip (suc old.commands) call memory before m.stands has r b i
              is l;
        };
        live = λ r b is. bind_live blocks_bound b r (old.owner b) (g.live r b is);
        totals =
            subst (λ f. Totals f (suc old.commands) (turn_in_order meaning script turn before))
            (sym (ap (λ w. w.counts) left_now))
            (totals_more (left_by meaning old).counts old.commands (invocations meaning d memory) before
            (turn_in_order meaning script turn before) m.totals
            (ap (λ n. before.total + n)
            (sym (same_count meaning script old.blocks w skip (suc old.commands) call memory before m.stands
            has))));
      }

  pub command_good : Good meaning reading script done
  command_good = taken_good meaning reading script old done turn turns e due refl refl refl refl g done_opened
      done_meets

pub work_good : (meaning : Meaning) (reading : Reading) (script : Script) → IsLawful meaning script
    → (old : Core) (call item : ℕ) (ends : Bool) (w : Work) (skip : Option Cond) (bound : List Range)
    (turns : List Turn) (new : Core) → old.future ≡ Item call item ends (Command w skip) bound ∷ turns
    → is_due script old.open_chunk.turns old.future ≡ false
    → TakesTurn reading script (Item call item ends (Command w skip) bound) turns old new
    → Good meaning reading script old → Good meaning reading script new
work_good meaning reading script lawful old call item ends w skip bound turns new e due n g =
    subst (Good meaning reading script) (sym n) (command_good meaning reading script lawful old call item ends w
    skip bound turns e due g)
