-- Each item that App takes keeps the invariant and what holds beside it, in a lawful script.
use Rattle.std.proofs.Common.{◌≡◌, ℕ, suc, ◌+◌, ◌<◌, ◌≤◌, Bool, false, ◌||◌, ◌==◌, List, [], ◌∷◌, ◌++◌, length, map}
use Rattle.std.proofs.Common.{refl, sym, ap, ◌∙◌, subst, inl, inr, Option, Some, None, arith}
use Rattle.std.specs.List.{AllByRecursion}
use Rattle.std.proofs.lemmas.Bool.{cases_Bool, eqb-true}
use Rattle.dx_types.specs.declared.range.Range.{Range}
use Rattle.vk_types.specs.declared.command.Cond.{Cond}
use Rattle.vk_types.specs.Memory.{range}
use Rattle.vk_types.specs.Effects.{Meaning}
use Rattle.vk_types.specs.Entries.{Entry}
use Rattle.core_model.specs.Script.{Play, Create, Discard, No_overwrite, Stage, Command, Destroy, Create_shader}
use Rattle.core_model.specs.Script.{Mark_query, Set_state, Turn, Item, Script, updated}
use Rattle.core_model.specs.Chunking.{is_due}
use Rattle.core_model.specs.Renaming.{block_of, range_on, work_on, cond_on}
use Rattle.core_model.specs.CoreState.{Pool, Core, later, taken_count, finished_count, open_number}
use Rattle.core_model.specs.Readings.{Reading}
use Rattle.core_model.specs.Owners.{bind_owner, retired}
use Rattle.core_model.specs.Placing.{Staged}
use Rattle.core_model.specs.Adding.{has_block, with_turn, with_write, with_placed, placed_at, plays_command}
use Rattle.core_model.specs.Adding.{with_bound, with_staging, add_staging, without_block, with_page, staged_range}
use Rattle.core_model.specs.Adding.{staged_command, page_owner}
use Rattle.core_model.specs.AppActs.{TakesTurn}
use Rattle.core_model.specs.Lawful.{resets, Fits, IsLawful}
use Rattle.core_model.specs.Invariant.{IsLive, Good}
use Rattle.core_model.specs.Kept.{IsOfBuffer, Beside, Traced, IsTraced, Kept}
use Rattle.core_model.proofs.Steps.Turning.{shader_good, mark_good}
use Rattle.core_model.proofs.Steps.Binding.{bind_good}
use Rattle.core_model.proofs.Steps.Destroying.{found, destroy_good}
use Rattle.core_model.proofs.Steps.Working.{work_good}
use Rattle.core_model.proofs.Steps.Overwriting.{overwrite_good}
use Rattle.core_model.proofs.Steps.Discarding.{discard_good}
use Rattle.core_model.proofs.Steps.Creating.{create_good}
use Rattle.core_model.proofs.Steps.StagedPages.{live_of_buffer, page_ready}
use Rattle.core_model.proofs.Steps.Staged.{stage_good}
use Rattle.core_model.proofs.Runs.Tracing.{traced_bare, traced_bound, traced_blocks}
use Rattle.core_model.proofs.Runs.TurnsKeepAll.{BesideAnd}
use Rattle.core_model.proofs.Blocks.BoundRanges.{unconcerned, quiet_beside, bound_beside, destroyed_beside}
use Rattle.core_model.proofs.Blocks.StagedBytes.{page_put, staged_beside}
use Rattle.vk_types.specs.declared.op.VkOp.TheVariants as op
use Rattle.core_model.proofs.Blocks.BuffersTakeBlocks.{write_beside, placed_beside, write_traced, has_entry}
use Rattle.core_model.proofs.Blocks.BuffersTakeBlocks.{create_kept, discard_kept}

-- The other items ---------------------------------------------------------------------------------------------------

module _ (meaning : Meaning) (reading : Reading) (script : Script) (lawful : IsLawful meaning script) (old : Core)
    (call item : ℕ) (ends : Bool) (bound : List Range) (turns : List Turn) (new : Core)
    (k : Kept meaning reading script old) where
  -- nothing is bound anew and nothing is taken
  quiet_kept : (play : Play) (rhs base : Core) → ((r : ℕ) → resets r (Item call item ends play bound) ≡ false)
      → new ≡ rhs → (Beside script (record old { past = old.past ++ Item call item ends play bound ∷ [] })
      → Beside script rhs)
      → taken_count rhs ≤ rhs.fence → IsTraced script rhs → BesideAnd script new
  quiet_kept play rhs base quiet n b f tr =
      subst (BesideAnd script) (sym n) (
        b (quiet_beside script old (Item call item ends play bound) quiet k.beside),
        f,
        tr,
      )

  -- the open chunk has the item, and binds no more
  bare_traced : (play : Play) (writes commands : List Entry)
      → Traced script old.blocks (old.past ++ Item call item ends play bound ∷ []) (old.taken ++ later old)
      (old.open_chunk.turns ++ Item call item ends play bound ∷ []) old.open_chunk.bound writes commands
  bare_traced play writes commands =
      traced_bare script old.blocks old.past (old.taken ++ later old) old.open_chunk.turns old.open_chunk.bound
      old.open_chunk.writes old.open_chunk.commands k.traced (Item call item ends play bound) refl writes commands

  place : (play : Play) → old.future ≡ Item call item ends play bound ∷ turns
      → script.turns ≡ old.past ++ Item call item ends play bound ∷ turns
  place play e = sym (ap (λ l. old.past ++ l) (sym e) ∙ k.good.sound.position)

  fits : (play : Play) → old.future ≡ Item call item ends play bound ∷ turns
      → AllByRecursion (λ r. Fits meaning script old.past r × (r.from < r.to)) bound
  fits play e = lawful.fits old.past call item ends play bound turns (place play e)

  -- or it binds these ranges, with others of no buffer
  more_traced : (play : Play) → old.future ≡ Item call item ends play bound ∷ turns → (others : List Range)
      → ((r b : ℕ) → old.blocks r ≡ Some b → has_block b others ≡ false) → (writes commands : List Entry)
      → Traced script old.blocks (old.past ++ Item call item ends play bound ∷ []) (old.taken ++ later old)
      (old.open_chunk.turns ++ Item call item ends play bound ∷ [])
      (old.open_chunk.bound ++ (others ++ map (range_on old.blocks) bound)) writes commands
  more_traced play e others none writes commands =
      traced_bound script old.blocks old.past (old.taken ++ later old) old.open_chunk.turns old.open_chunk.bound
      old.open_chunk.writes old.open_chunk.commands k.traced (Item call item ends play bound) refl meaning _
      k.good.stands (fits play e) others none writes commands

  -- ranges are bound
  bound_kept : (play : Play) → ((r : ℕ) → resets r (Item call item ends play bound) ≡ false)
      → old.future ≡ Item call item ends play bound ∷ turns
      → Beside script (record old {
        past = old.past ++ Item call item ends play bound ∷ [];
        owner = λ c. bind_owner (map (range_on old.blocks) bound) c (old.owner c);
        open_chunk = record old.open_chunk {
          bound = old.open_chunk.bound
              ++ map (range_on old.blocks) bound;
          staging = add_staging script old.blocks bound old.open_chunk.staging;
        };
      })
  bound_kept play quiet e = bound_beside meaning script _ old k.beside k.good.stands k.good.live
      (Item call item ends play bound) quiet (fits play e)

-- the state once bytes are staged
abbrev staged_state : Script → Core → ℕ → ℕ → Bool → List ℕ → Option Range → Option Cond → List Range → List Turn
    → Staged → Pool → Core
staged_state script old call item ends bytes target skip bound turns s pool =
    with_placed (placed_at call item None None (Some (staged_range s (length bytes))))
    (with_staging script bound
    (with_bound (staged_range s (length bytes) ∷ map (range_on old.blocks) bound)
    (staged_command call (staged_range s (length bytes)) target skip
    (with_write call (staged_range s (length bytes)) bytes (with_page s pool
    (with_turn (Item call item ends (Stage bytes target skip) bound) turns old))))))

staged_target : (meaning : Meaning) (script : Script) (old : Core) (call item : ℕ) (ends : Bool) (x : ℕ)
    (xs : List ℕ) (target : Option Range) (skip : Option Cond) (bound : List Range) (turns : List Turn) (s : Staged)
    (pool : Pool)
    → Beside script (record old {
      past = old.past ++ Item call item ends (Stage (x ∷ xs) target skip) bound ∷ [];
      owner = λ c. bind_owner (staged_range s (length (x ∷ xs)) ∷ map (range_on old.blocks) bound) c
          (updated s.block (page_owner (open_number old) old.fence s.added (old.owner s.block)) old.owner c);
      pool = pool;
      open_chunk = record old.open_chunk {
        bound = old.open_chunk.bound ++ (staged_range s (length (x ∷ xs)) ∷ map (range_on old.blocks) bound);
        staging = add_staging script old.blocks bound old.open_chunk.staging;
        pages = old.open_chunk.pages ++ s.added;
      };
    })
    → Beside script (staged_state script old call item ends (x ∷ xs) target skip bound turns s pool)
staged_target meaning script old call item ends x xs None skip bound turns s pool b =
    unconcerned script _ (staged_state script old call item ends (x ∷ xs) None skip bound turns s pool) b
staged_target meaning script old call item ends x xs (Some target) skip bound turns s pool b =
    unconcerned script _ (staged_state script old call item ends (x ∷ xs) (Some target) skip bound turns s pool) b

staged_traced : (script : Script) (old : Core) (call item : ℕ) (ends : Bool) (x : ℕ) (xs : List ℕ)
    (target : Option Range) (skip : Option Cond) (bound : List Range) (turns : List Turn) (s : Staged) (pool : Pool)
    → ((writes commands : List Entry)
    → Traced script old.blocks (old.past ++ Item call item ends (Stage (x ∷ xs) target skip) bound ∷ [])
    (old.taken ++ later old) (old.open_chunk.turns ++ Item call item ends (Stage (x ∷ xs) target skip) bound ∷ [])
    (old.open_chunk.bound ++ (staged_range s (length (x ∷ xs)) ∷ map (range_on old.blocks) bound)) writes commands)
    → IsTraced script (staged_state script old call item ends (x ∷ xs) target skip bound turns s pool)
staged_traced script old call item ends x xs None skip bound turns s pool h = h _ _
staged_traced script old call item ends x xs (Some target) skip bound turns s pool h = h _ _

staged_fence : (old : Core) (call item : ℕ) (ends : Bool) (x : ℕ) (xs : List ℕ) (target : Option Range)
    (skip : Option Cond) (bound : List Range) (turns : List Turn) (script : Script) (s : Staged) (pool : Pool)
    → taken_count old ≤ old.fence
    → (let c = staged_state script old call item ends (x ∷ xs) target skip bound turns s pool in
    taken_count c ≤ c.fence)
staged_fence old call item ends x xs None skip bound turns script s pool f = f
staged_fence old call item ends x xs (Some target) skip bound turns script s pool f = f

-- each item
items_beside : (meaning : Meaning) (reading : Reading) (script : Script) → IsLawful meaning script
    → (old : Core) (call item : ℕ) (ends : Bool) (play : Play) (bound : List Range) (turns : List Turn) (new : Core)
    → old.future ≡ Item call item ends play bound ∷ turns → TakesTurn reading script
    (Item call item ends play bound) turns old new → Kept meaning reading script old → BesideAnd script new
items_beside meaning reading script lawful old call item ends (Create buffer bytes) bound turns new e n k =
    create_kept meaning reading script lawful old call item ends buffer bytes bound turns new n k
items_beside meaning reading script lawful old call item ends (Discard buffer from bytes) bound turns new e n k =
    discard_kept meaning reading script lawful old call item ends buffer from bytes bound turns new e n k
items_beside meaning reading script lawful old call item ends (No_overwrite buffer from bytes) bound turns new e n k =
    let t = Item call item ends (No_overwrite buffer from bytes) bound in
    let r = range (block_of old.blocks buffer) from (from + length bytes) in
    quiet_kept meaning reading script lawful old call item ends bound turns new k (No_overwrite buffer from bytes) _
    old (λ r. refl) n
    (λ b. placed_beside script (placed_at call item None None None) _
    (write_beside script call r bytes (with_turn t turns old) (unconcerned script _ (with_turn t turns old) b)))
    (by bytes)
    (write_traced script call r bytes (with_turn t turns old) (has_entry old.open_chunk.turns t refl)
    (bare_traced meaning reading script lawful old call item ends bound turns new k
    (No_overwrite buffer from bytes) old.open_chunk.writes old.open_chunk.commands))
  where
    by : (l : List ℕ)
        → (let c = with_write call (range (block_of old.blocks buffer) from (from + length l)) l
        (with_turn (Item call item ends (No_overwrite buffer from bytes) bound) turns old) in taken_count c ≤ c.fence)
    by [] = k.fenced
    by (x ∷ xs) = k.fenced
items_beside meaning reading script lawful old call item ends (Stage [] target skip) bound turns new e n k =
    let t = Item call item ends (Stage [] target skip) bound in
    quiet_kept meaning reading script lawful old call item ends bound turns new k (Stage [] target skip) _ old
    (λ r. refl) n
    (λ b. placed_beside script (placed_at call item None None None) _
    (unconcerned script _ (with_turn t turns old) b)) k.fenced
    (bare_traced meaning reading script lawful old call item ends bound turns new k (Stage [] target skip)
    old.open_chunk.writes old.open_chunk.commands)
items_beside meaning reading script lawful old call item ends (Stage (x ∷ xs) target skip) bound turns new e n k =
    let play = Stage (x ∷ xs) target skip in
    let s = n.0 in
    let pool = n.1 in
    let choice = n.2.0 in
    let ready = page_ready choice (length (x ∷ xs)) s old.pool pool n.2.1 (taken_count old) (finished_count old)
    (open_number old) old.fence old.owner k.good.sound.fence k.fenced k.beside.pages.newest k.beside.places.spare
    (k.beside.places.fresh old.pool.next (omega arith)) (k.good.sound.since s.block) (k.beside.places.taken s.block) in
    let page = page_owner (open_number old) old.fence s.added (old.owner s.block) in
    let put = page_put choice (length (x ∷ xs)) s old.pool pool n.2.1 old.board old.owner old.fence
    (open_number old) page old.open_chunk.pages k.beside.places k.beside.pages.newest ready.taken ready.page
    k.beside.pages.opened
    k.beside.pages.apart in
    let b = staged_beside meaning script _ old k.beside k.good.stands k.good.live (Item call item ends play bound)
    (λ r. refl) (fits meaning reading script lawful old call item ends bound turns new k play e)
    (length (x ∷ xs)) s pool page
    ready put in
    subst (BesideAnd script) (sym n.3) (
      staged_target meaning script old call item ends x xs target skip bound turns s pool b,
      staged_fence old call item ends x xs target skip bound turns script s pool k.fenced,
      staged_traced script old call item ends x xs target skip bound turns s pool
          (λ ws cs. more_traced meaning reading script lawful old call item ends bound turns new k play e
          (staged_range s (length (x ∷ xs)) ∷ []) (λ r b is. no_buffer s r b is ready.strange) ws cs),
    )
  where
    no_buffer : (s : Staged) (r b : ℕ) → old.blocks r ≡ Some b → (IsOfBuffer (old.owner s.block) → ⊥)
        → has_block b (staged_range s (length (x ∷ xs)) ∷ []) ≡ false
    no_buffer s r b is out =
        let d : (s.block == b) ≡ false =
        elim (cases_Bool (s.block == b)) [
          | inl t ↦ absurd
              (out (live_of_buffer r (old.owner s.block) (subst (λ b. IsLive r (old.owner b))
              (sym (eqb-true s.block b t)) (k.good.live r b is))))
          | inr f ↦ f
        ] in
        ap (λ c. c || false) d
items_beside meaning reading script lawful old call item ends (Command w skip) bound turns new e n k =
    let play = Command w skip in
    let t = Item call item ends play bound in
    subst (BesideAnd script) (sym n) (
      unconcerned script _ (with_placed (placed_at call item None None None)
          (with_staging script bound (with_bound (map (range_on old.blocks) bound)
          (plays_command call (work_on old.blocks w) (cond_on old.blocks skip) (with_turn t turns old)))))
          (bound_kept meaning reading script lawful old call item ends bound turns new k play (λ r. refl) e),
      k.fenced,
      more_traced meaning reading script lawful old call item ends bound turns new k play e [] (λ r b is. refl) _ _,
    )
items_beside meaning reading script lawful old call item ends (Destroy buffer) bound turns new e n k =
    let t = Item call item ends (Destroy buffer) bound in
    subst (BesideAnd script) (sym n) (
      unconcerned script _ (with_placed (placed_at call item None (old.blocks buffer) None)
          (record (with_turn t turns old) {
            blocks = updated buffer None old.blocks;
            owner = retired (old.blocks buffer) (open_number old) old.owner;
            open_chunk = record (with_turn t turns old).open_chunk {
              staging =
                  without_block (old.blocks buffer) old.open_chunk.staging;
            };
          }))
          (destroyed_beside script old call item ends buffer bound k.beside),
      k.fenced,
      traced_blocks script old.blocks old.past (old.taken ++ later old) old.open_chunk.turns old.open_chunk.bound
          old.open_chunk.writes old.open_chunk.commands k.traced t refl old.is_staging old.owner
          old.open_chunk.staging (updated buffer None old.blocks) old.open_chunk.writes old.open_chunk.commands
          (λ r b st is. inl (found buffer old.blocks r b is).0) k.beside.named k.beside.named_open,
    )
items_beside meaning reading script lawful old call item ends Create_shader bound turns new e n k =
    let t = Item call item ends Create_shader bound in
    quiet_kept meaning reading script lawful old call item ends bound turns new k Create_shader _ old (λ r. refl) n
    (λ b. unconcerned script _ (with_placed (placed_at call item None None None)
    (record (with_turn t turns old) { listing = old.listing ++ op.Pipeline call ∷ [] })) b) k.fenced
    (bare_traced meaning reading script lawful old call item ends bound turns new k Create_shader
    old.open_chunk.writes old.open_chunk.commands)
items_beside meaning reading script lawful old call item ends (Mark_query query begins) bound turns new e n k =
    let t = Item call item ends (Mark_query query begins) bound in
    let c = with_turn t turns old in
    quiet_kept meaning reading script lawful old call item ends bound turns new k (Mark_query query begins) _ old
    (λ r. refl) n
    (λ b. unconcerned script _ (with_placed (placed_at call item None None None)
    (record c {
      open_chunk = record c.open_chunk {
        queries =
            c.open_chunk.queries ++ record { call = call; query = query; begins = begins; before = suc c.commands }
            ∷ [];
      };
    })) b) k.fenced
    (bare_traced meaning reading script lawful old call item ends bound turns new k (Mark_query query begins)
    old.open_chunk.writes old.open_chunk.commands)
items_beside meaning reading script lawful old call item ends Set_state bound turns new e n k =
    let t = Item call item ends Set_state bound in
    subst (BesideAnd script) (sym n) (
      unconcerned script _ (with_placed (placed_at call item None None None)
          (with_staging script bound (with_bound (map (range_on old.blocks) bound) (with_turn t turns old))))
          (bound_kept meaning reading script lawful old call item ends bound turns new k Set_state (λ r. refl) e),
      k.fenced,
      more_traced meaning reading script lawful old call item ends bound turns new k Set_state e [] (λ r b is. refl)
          _ _,
    )

items_good : (meaning : Meaning) (reading : Reading) (script : Script) → IsLawful meaning script
    → (old : Core) (call item : ℕ) (ends : Bool) (play : Play) (bound : List Range) (turns : List Turn) (new : Core)
    → old.future ≡ Item call item ends play bound ∷ turns → is_due script old.open_chunk.turns old.future ≡ false
    → TakesTurn reading script (Item call item ends play bound) turns old new
    → Kept meaning reading script old → Good meaning reading script new
items_good meaning reading script lawful old call item ends (Create buffer bytes) bound turns new e due n k =
    create_good meaning reading script lawful old call item ends buffer bytes bound turns new e due n k
items_good meaning reading script lawful old call item ends (Discard buffer from bytes) bound turns new e due n k =
    discard_good meaning reading script lawful old call item ends buffer from bytes bound turns new e due n k
items_good meaning reading script lawful old call item ends (No_overwrite buffer from bytes) bound turns new e due n
    k = overwrite_good meaning reading script lawful old call item ends buffer from bytes bound turns new e due n k
items_good meaning reading script lawful old call item ends (Stage bytes target skip) bound turns new e due n k =
    stage_good meaning reading script lawful old call item ends bytes target skip bound turns new e due n k
items_good meaning reading script lawful old call item ends (Command w skip) bound turns new e due n k =
    work_good meaning reading script lawful old call item ends w skip bound turns new e due n k.good
items_good meaning reading script lawful old call item ends (Destroy buffer) bound turns new e due n k =
    destroy_good meaning reading script old call item ends buffer bound turns new e due n k.good
items_good meaning reading script lawful old call item ends Create_shader bound turns new e due n k =
    shader_good meaning reading script old call item ends bound turns new e due n k.good
items_good meaning reading script lawful old call item ends (Mark_query query begins) bound turns new e due n k =
    mark_good meaning reading script old call item ends query begins bound turns new e due n k.good
items_good meaning reading script lawful old call item ends Set_state bound turns new e due n k =
    bind_good meaning reading script lawful old call item ends bound turns new e due n k.good

pub items_kept : (meaning : Meaning) (reading : Reading) (script : Script) → IsLawful meaning script
    → (old : Core) (call item : ℕ) (ends : Bool) (play : Play) (bound : List Range) (turns : List Turn) (new : Core)
    → old.future ≡ Item call item ends play bound ∷ turns → is_due script old.open_chunk.turns old.future ≡ false
    → TakesTurn reading script (Item call item ends play bound) turns old new
    → Kept meaning reading script old → Kept meaning reading script new
items_kept meaning reading script lawful old call item ends play bound turns new e due n k =
    let b = items_beside meaning reading script lawful old call item ends play bound turns new e n k in
    record {
      good = items_good meaning reading script lawful old call item ends play bound turns new e due n k;
      beside = b.0;
      fenced = b.1;
      traced = b.2;
    }
