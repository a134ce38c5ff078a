-- Where items are placed, in every state that steps reach: blocks that may be taken, ranges that share no byte, pages
-- in order.
use Rattle.std.proofs.Common.{◌≡◌, ℕ, zero, suc, ◌+◌, ◌≤◌, Bool, true, false, ◌||◌, List, [], ◌∷◌, ◌++◌, length, refl}
use Rattle.std.proofs.Common.{sym, ap, ◌∙◌, subst, inl, inr, Option, Some, None, arith, append_assoc, append-nil}
use Rattle.std.specs.List.{AllByRecursion}
use Rattle.std.proofs.Math.Nat.{le-max_left}
use Rattle.std.proofs.lemmas.Bool.{cases_Bool, eq-eqb, leb-true}
use Rattle.std.proofs.lemmas.List.Folds.{list_any-append}
use Rattle.dx_types.specs.declared.range.Range.{Range}
use Rattle.vk_types.specs.declared.message.Placed.{Placed}
use Rattle.vk_types.specs.Memory.{range}
use Rattle.vk_types.specs.Effects.{Meaning}
use Rattle.base_lemmas.proofs.Lists.{all_map, all_back, all_append}
use Rattle.core_model.specs.Script.{Turn, Item, Script}
use Rattle.core_model.specs.CoreState.{Page, Segment, Owner, Unmade, Home, Returning, Spare, Live, Retired, Paged}
use Rattle.core_model.specs.CoreState.{Dropped, Newest, Pool, Core, open_number, finished_count}
use Rattle.core_model.specs.Readings.{Reading}
use Rattle.core_model.specs.Placing.{PageChoice, Staged, Stages, On_newest, On_spare, On_new, fresh_page}
use Rattle.core_model.specs.Placing.{with_length}
use Rattle.core_model.specs.Adding.{with_turn, placed_at, staged_range}
use Rattle.core_model.specs.TakingPosts.{TakesPosts, with_post, with_fence}
use Rattle.core_model.specs.AppActs.{handed_over}
use Rattle.core_model.specs.Playing.{HasBlock}
use Rattle.core_model.specs.CoreStep.{Event, App, Cs, Pipe, Submit, Accept, Run, Complete, Finish, Come_home}
use Rattle.core_model.specs.CoreStep.{is_of_app, Step}
use Rattle.core_model.specs.Lawful.{IsLawful}
use Rattle.core_model.specs.Invariant.{IsSince, handed}
use Rattle.core_model.specs.Marked.{IsOff, all_messages, IsMarkedBy}
use Rattle.core_model.specs.Kept.{IsPageOf, Kept}
use Rattle.core_model.specs.Succession.{takes, stages_in, is_staged_in, all_places, MayTake, staged_range_of}
use Rattle.core_model.specs.Succession.{staged_ranges}
use Rattle.core_model.proofs.Steps.Binding.{or_left, or_right}
use Rattle.core_model.proofs.Steps.Giving.{IsVacant, stocked, vacant}
use Rattle.core_model.proofs.Blocks.TakenBlocks.{had_newest}
use Rattle.core_model.proofs.Messages.Placements.{places_of, length_places, all_places_append}
use Rattle.core_model.proofs.Blocks.BlockSorts.{IsUnmade, page_or_buffers, unmade_or_buffers, unmade_or_page}
use Rattle.core_model.proofs.Blocks.MarkedBlocks.{Sorts, ends_in, sorts_kinds}
use Rattle.core_model.proofs.Messages.PlacedPages.{PlacedRight, TopRight, quiet_placed, quiet_top, on_newest_placed}
use Rattle.core_model.proofs.Messages.PlacedPages.{on_other_placed}
use Rattle.core_model.proofs.Messages.ItemResults.{Placement, Nowhere, Bound_alone, Taken_new, Taken_for, Given_up}
use Rattle.core_model.proofs.Messages.ItemResults.{Staged_there}
use Rattle.core_model.proofs.Messages.ItemCases.{result_of, result_placed}
use Rattle.core_model.proofs.Messages.ListedBatches.{handed_long}
use Rattle.core_model.proofs.Messages.Scenes.{Kinds, Scene, scene, other_scene, posts_scene, fence_scene, handed_scene}

-- the places of the chunks that were handed over, and those of the open one
messages_last : (pss : List (List Placed)) (ps : List Placed) → all_places (pss ++ ps ∷ []) ≡ all_places pss ++ ps
messages_last pss ps = all_places_append pss (ps ∷ []) ∙ ap (λ l. all_places pss ++ l) (append-nil ps)

or_parts : (a b : Bool) → (a || b) ≡ false → (a ≡ false) × (b ≡ false)
or_parts true b e = absurd (cc e)
or_parts false b e = (refl, e)

-- A block that is taken ---------------------------------------------------------------------------------------------

module _ (meaning : Meaning) (reading : Reading) (script : Script) (old : Core)
    (k : Kept meaning reading script old) (s : Sorts old) where
  abbrev earlier : List (List Placed)
  earlier = places_of (handed old)

  abbrev here : List Placed
  here = old.open_chunk.placed

  unmade_may : (b : ℕ) → IsUnmade (old.owner b) → MayTake earlier here b
  unmade_may b u =
      inl (
        elim (cases_Bool (takes b (all_places earlier ++ here))) [
          | inl t ↦ absurd (unmade_or_buffers (old.owner b) u
              (s.taken b (ap (takes b) (messages_last earlier here) ∙ t)))
          | inr f ↦ f
        ],
        elim (cases_Bool (stages_in b (all_places earlier ++ here))) [
          | inl t ↦ absurd
              (unmade_or_page (old.owner b) u (s.staged b (ap (stages_in b) (messages_last earlier here) ∙ t)))
          | inr f ↦ f
        ],
      )

  marked_may : (b n : ℕ) → n ≤ finished_count old → IsMarkedBy (all_messages old) b n → MayTake earlier here b
  marked_may b n l m =
      elim (ends_in earlier here m.front m.here m.back m.split) [
        | inl w ↦
            let long : length m.front ≡ length earlier = ap length w.0 in
            let a = length_places (handed old) in
            let c = handed_long old in
            let number = m.number in
            absurd (let z : ⊥ = omega (arith, long, a, c, l, number) in z)
        | inr w ↦
            let open_last : takes b ((m.after ++ all_places w.0) ++ here) ≡ false =
            ap (takes b) (append_assoc m.after (all_places w.0) here
            ∙ ap (λ l. m.after ++ l) (sym (messages_last w.0 here)))
            ∙ ap (λ l. takes b (m.after ++ all_places l)) (sym w.2) ∙ m.since in
            inr (
              all_places m.front ++ m.before,
              m.place,
              m.after ++ all_places w.0,
              ap all_places w.1 ∙ all_places_append m.front (m.here ∷ w.0)
                  ∙ ap (λ h. all_places m.front ++ (h ++ all_places w.0)) m.placed
                  ∙ ap (λ l. all_places m.front ++ l) (append_assoc m.before (m.place ∷ m.after) (all_places w.0))
                  ∙ sym (append_assoc (all_places m.front) m.before (m.place ∷ (m.after ++ all_places w.0))),
              m.marked,
              open_last,
            )
      ]

  pub vacant_may : (b : ℕ) → IsVacant (old.owner b) → MayTake earlier here b
  vacant_may b v = by (old.owner b) refl v
    where
      by : (o : Owner) → old.owner b ≡ o → IsVacant o → MayTake earlier here b
      by Unmade e v = unmade_may b (subst IsUnmade (sym e) tt)
      by (Home j) e v = marked_may b j (subst (IsSince (finished_count old)) e (k.good.sound.since b))
          (s.marked b j (subst (IsOff j) (sym e) refl))
      by (Returning j) e v = absurd v
      by Spare e v = absurd v
      by (Live buffer since bound) e v = absurd v
      by (Retired j since bound) e v = absurd v
      by (Paged j since bound) e v = absurd v
      by Dropped e v = absurd v

-- Ranges stand in no block that was taken ---------------------------------------------------------------------------

staged_are_in : (ps : List Placed) → AllByRecursion (λ r. stages_in r.block ps ≡ true) (staged_ranges ps)
staged_are_in [] = tt
staged_are_in (p ∷ ps) =
    all_append (λ r. stages_in r.block (p ∷ ps) ≡ true) (staged_range_of p.staged) (staged_ranges ps)
    (here p.staged refl)
    (all_map (λ r. stages_in r.block ps ≡ true) (λ r. stages_in r.block (p ∷ ps) ≡ true)
    (λ r h. or_right (is_staged_in r.block p.staged) (stages_in r.block ps) h) (staged_ranges ps)
    (staged_are_in ps))
  where
    here : (o : Option Range) → p.staged ≡ o → AllByRecursion (λ r. stages_in r.block (p ∷ ps) ≡ true)
        (staged_range_of o)
    here None e = tt
    here (Some r) e = (
      or_left (is_staged_in r.block p.staged) (stages_in r.block ps) (ap (is_staged_in r.block) e
          ∙ eq-eqb r.block r.block refl),
      tt,
    )

outside_now : (core : Core) → Sorts core
    → AllByRecursion (λ r. takes r.block (all_places (places_of (handed core)) ++ core.open_chunk.placed) ≡ false)
    (staged_ranges core.open_chunk.placed)
outside_now core s =
    let earlier = places_of (handed core) in
    let here = core.open_chunk.placed in
    all_map (λ r. stages_in r.block here ≡ true) (λ r. takes r.block (all_places earlier ++ here) ≡ false)
    (λ r h.
    elim (cases_Bool (takes r.block (all_places earlier ++ here))) [
      | inl t ↦
          absurd (page_or_buffers (core.owner r.block)
          (s.staged r.block (ap (stages_in r.block) (messages_last earlier here)
          ∙ list_any-append (λ p. is_staged_in r.block p.staged) (all_places earlier) here
          ∙ or_right (stages_in r.block (all_places earlier)) (stages_in r.block here) h))
          (s.taken r.block (ap (takes r.block) (messages_last earlier here) ∙ t)))
      | inr f ↦ f
    ]) (staged_ranges here) (staged_are_in here)

-- Chunk by chunk ----------------------------------------------------------------------------------------------------

pub record ChunkPlaced (earlier : List (List Placed)) (s : Segment) : Type 0 where
  pub right : PlacedRight earlier s.pages s.placed
  pub outside : AllByRecursion (λ r. takes r.block (all_places earlier ++ s.placed) ≡ false) (staged_ranges s.placed)

abbrev pub LinePlaced : List (List Placed) → List Segment → Type 0
LinePlaced before [] = Unit {0}
LinePlaced before (s ∷ ss) = ChunkPlaced before s × LinePlaced (before ++ s.placed ∷ []) ss

line_last : (earlier : List (List Placed)) (ss : List Segment) (s : Segment) → LinePlaced earlier ss
    → ChunkPlaced (earlier ++ places_of ss) s → LinePlaced earlier (ss ++ s ∷ [])
line_last earlier [] s h k = (subst (λ l. ChunkPlaced l s) (append-nil earlier) k, tt)
line_last earlier (x ∷ ss) s h k = (
  h.0,
  line_last (earlier ++ x.placed ∷ []) ss s h.1 (subst (λ l. ChunkPlaced l s)
      (sym (append_assoc earlier (x.placed ∷ []) (places_of ss))) k),
)

pub line_there : (earlier : List (List Placed)) (front : List Segment) (s : Segment) (back : List Segment)
    → LinePlaced earlier (front ++ s ∷ back) → ChunkPlaced (earlier ++ places_of front) s
line_there earlier [] s back h = subst (λ l. ChunkPlaced l s) (sym (append-nil earlier)) h.0
line_there earlier (x ∷ front) s back h = subst (λ l. ChunkPlaced l s)
    (append_assoc earlier (x.placed ∷ []) (places_of front)) (line_there (earlier ++ x.placed ∷ []) front s back h.1)

-- Steps -------------------------------------------------------------------------------------------------------------

pub record PlacedCore (core : Core) : Type 0 where
  pub sorts : Sorts core
  pub line : LinePlaced [] (handed core)
  pub opened : PlacedRight (places_of (handed core)) core.open_chunk.pages core.open_chunk.placed
  pub top : TopRight core.pool.newest core.open_chunk.pages core.open_chunk.placed

-- what it says of the chunks and the newest page
abbrev OnScene : Option Newest → Scene → Type 0
OnScene top v = LinePlaced [] v.handed × PlacedRight (places_of v.handed) v.open_chunk.pages v.open_chunk.placed
    × TopRight top v.open_chunk.pages v.open_chunk.placed

placed_by : (old new : Core) → scene new ≡ scene old → new.pool.newest ≡ old.pool.newest → Sorts new
    → PlacedCore old → PlacedCore new
placed_by old new e f s h =
    let x : OnScene new.pool.newest (scene new) = subst (λ v. OnScene new.pool.newest v) (sym e)
    (subst (λ n. OnScene n (scene old)) (sym f) (h.line, h.opened, h.top)) in
    record { sorts = s; line = x.0; opened = x.1; top = x.2 }

other_newest : (meaning : Meaning) (reading : Reading) (script : Script) (old : Core) (e : Event) (new : Core)
    → is_of_app e ≡ false → Step meaning reading script old e new → new.pool.newest ≡ old.pool.newest
other_newest meaning reading script old (App posts) new h p = absurd (cc h)
other_newest meaning reading script old Cs new h p = ap (λ c. c.pool.newest) p.4
other_newest meaning reading script old (Pipe j) new h p = ap (λ c. c.pool.newest) p.2
other_newest meaning reading script old Submit new h p = ap (λ c. c.pool.newest) p.5
other_newest meaning reading script old Accept new h p = ap (λ c. c.pool.newest) p.4
other_newest meaning reading script old (Run j) new h p = ap (λ c. c.pool.newest) p.10
other_newest meaning reading script old Complete new h p = ap (λ c. c.pool.newest) p.5
other_newest meaning reading script old Finish new h p = ap (λ c. c.pool.newest) p.4
other_newest meaning reading script old (Come_home block place) new h p = ap (λ c. c.pool.newest) p.6

posts_newest : (n : ℕ) (old mid : Core) → TakesPosts n old mid → mid.pool.newest ≡ old.pool.newest
posts_newest zero old mid h = ap (λ c. c.pool.newest) h
posts_newest (suc n) old mid h = posts_newest n (with_post h.0 h.1 old) mid h.3

fence_newest : (n : ℕ) (core : Core) → (with_fence n core).pool.newest ≡ core.pool.newest
fence_newest zero core = refl
fence_newest (suc n) core = refl

abbrev ItemPlaced : Core → Placed → List Page → Pool → Type 0
ItemPlaced old p pages pool = PlacedRight (places_of (handed old)) pages (old.open_chunk.placed ++ p ∷ [])
    × TopRight pool.newest pages (old.open_chunk.placed ++ p ∷ [])

module _ (meaning : Meaning) (reading : Reading) (script : Script) (lawful : IsLawful meaning script) (old : Core)
    (t : Turn) (turns : List Turn) (k : Kept meaning reading script old) (h : PlacedCore old) where
  abbrev earlier_messages : List (List Placed)
  earlier_messages = places_of (handed old)

  quiet_item : (p : Placed) → p.staged ≡ None → ((b : ℕ) → p.block ≡ Some b
      → MayTake earlier_messages old.open_chunk.placed b) → (pool : Pool) → pool.newest ≡ old.pool.newest
      → ItemPlaced old p old.open_chunk.pages pool
  quiet_item p none may pool same = (
    quiet_placed earlier_messages old.open_chunk.pages old.open_chunk.placed p none may h.opened,
    subst (λ n. TopRight n old.open_chunk.pages (old.open_chunk.placed ++ p ∷ [])) (sym same)
        (quiet_top earlier_messages old.open_chunk.pages old.open_chunk.placed p none old.pool.newest h.top),
  )

  no_taking : (b : ℕ) → None ≡ Some b → MayTake earlier_messages old.open_chunk.placed b
  no_taking b e = absurd (cc e)

  taken_item : (call item buffer block : ℕ) (mark : Option ℕ) (mid : Core)
      → HasBlock reading script buffer block (with_turn t turns old) mid
      → ItemPlaced old (placed_at call item (Some block) mark None) old.open_chunk.pages mid.pool
  taken_item call item buffer block mark mid has =
      quiet_item (placed_at call item (Some block) mark None) refl
      (λ b e.
      let s : block ≡ b = cc e in
      subst (MayTake earlier_messages old.open_chunk.placed) s
      (vacant_may meaning reading script old k h.sorts block
      (vacant reading script buffer block (with_turn t turns old) mid has lawful.classes
      (stocked old k.beside.places)))) mid.pool
      (had_newest reading script buffer block (with_turn t turns old) mid has)

  -- pages of the open chunk are not those that came back, nor new ones
  others : (b : ℕ) → (IsPageOf (open_number old) (old.owner b) → ⊥)
      → AllByRecursion (λ x. x.block ≡ b → ⊥) old.open_chunk.pages
  others b n = all_map (λ p. IsPageOf (open_number old) (old.owner p.block)) (λ x. x.block ≡ b
      → ⊥) (λ p q e. n (subst (λ b. IsPageOf (open_number old) (old.owner b)) e q)) old.open_chunk.pages
      k.beside.pages.opened

  staged_item : (call item len : ℕ) (g : Staged) (pool : Pool) (choice : PageChoice)
      → Stages choice len g old.pool pool
      → ItemPlaced old (placed_at call item None None (Some (staged_range g len))) (old.open_chunk.pages ++ g.added)
      pool
  staged_item call item len g pool choice (On_newest _ _ n e fits) =
      let p = placed_at call item None None (Some (range n.page.block n.used (n.used + len))) in
      let x = on_newest_placed earlier_messages old.open_chunk.pages old.open_chunk.placed p
      (range n.page.block n.used (n.used + len)) refl refl n len refl (leb-true (n.used + len) n.page.len fits)
      (subst (λ n. TopRight n old.open_chunk.pages old.open_chunk.placed) e h.top) h.opened in (
        subst (λ l. PlacedRight earlier_messages l (old.open_chunk.placed ++ p ∷ []))
            (sym (append-nil old.open_chunk.pages)) x.0,
        subst (λ l. TopRight (Some (record n { used = n.used + len })) l (old.open_chunk.placed ++ p ∷ []))
            (sym (append-nil old.open_chunk.pages)) x.1,
      )
  staged_item call item len g pool choice (On_spare _ _ front q back size e long none) =
      let is : AllByRecursion (λ p. old.owner p.block ≡ Spare) (q ∷ back) =
      all_back (λ p. old.owner p.block ≡ Spare) front (q ∷ back)
      (subst (AllByRecursion (λ p. old.owner p.block ≡ Spare)) e k.beside.places.spare) in
      let same : 0 + len ≡ len = omega arith in
      on_other_placed earlier_messages old.open_chunk.pages old.open_chunk.placed
      (placed_at call item None None (Some (range q.block 0 (0 + len)))) (range q.block 0 (0 + len)) refl refl
      (with_length q size) len (ap (range q.block 0) same) (leb-true len size long)
      (others q.block (λ x. subst (IsPageOf (open_number old)) is.0 x)) h.opened
  staged_item call item len g pool choice (On_new _ _ none) =
      let q = fresh_page old.pool len in
      let same : 0 + len ≡ len = omega arith in
      on_other_placed earlier_messages old.open_chunk.pages old.open_chunk.placed
      (placed_at call item None None (Some (range q.block 0 (0 + len)))) (range q.block 0 (0 + len)) refl refl q
      len (ap (range q.block 0) same) (le-max_left len 1048576)
      (others q.block (λ x. subst (IsPageOf (open_number old)) (k.beside.places.fresh old.pool.next (omega arith))
      x)) h.opened

  item_placed : (p : Placed) (own : ℕ → Owner) (pages : List Page) (pool : Pool)
      → Placement reading script (with_turn t turns old) p own pages pool → ItemPlaced old p pages pool
  item_placed p own pages pool (Nowhere call item) = quiet_item p refl no_taking old.pool refl
  item_placed p own pages pool (Bound_alone call item rs) = quiet_item p refl no_taking old.pool refl
  item_placed p own pages pool (Taken_new call item buffer block since mid has) =
      taken_item call item buffer block None mid has
  item_placed p own pages pool (Taken_for call item buffer block since mid has) =
      taken_item call item buffer block (old.blocks buffer) mid has
  item_placed p own pages pool (Given_up call item buffer) = quiet_item p refl no_taking old.pool refl
  item_placed p own pages pool (Staged_there call item len g _ choice rs s some) =
      staged_item call item len g pool choice s

pub placed_kinds : (meaning : Meaning) (reading : Reading) (script : Script) → IsLawful meaning script
    → Kinds meaning reading script PlacedCore
placed_kinds meaning reading script lawful =
    let s = sorts_kinds meaning reading script lawful in
    record {
      started = record {
        sorts = s.started;
        line = tt;
        opened = record {
          takes = λ front p back b e f. absurd (nothing front p back e);
          apart = tt;
          numbers =
              refl;
          long = tt;
        };
        top = tt;
      };
      others = λ old e new n p k h. placed_by old new (other_scene meaning reading script old e new n p)
          (other_newest meaning reading script old e new n p) (s.others old e new n p k h.sorts) h;
      posts = λ n old mid p k h. placed_by old (with_fence n mid) (fence_scene n mid
          ∙ posts_scene n old mid p) (fence_newest n mid ∙ posts_newest n old mid p) (s.posts n old mid p k h.sorts)
          h;
      hands = λ old due k h.
          let earlier = places_of (handed old) in
          let line = line_last [] (handed old) old.open_chunk h.line
          (record { right = h.opened; outside = outside_now old h.sorts }) in
          let x : OnScene None (scene (handed_over old)) =
          subst (OnScene None) (sym (handed_scene old)) (
            line,
            record {
              takes = λ front p back b e f. absurd (nothing front p back e);
              apart = tt;
              numbers =
                  refl;
              long = tt;
            },
            tt,
          ) in
          record { sorts = s.hands old due k h.sorts; line = x.0; opened = x.1; top = tt };
      turns = λ old t turns n e k h. record {
        sorts = s.turns old t turns n e k h.sorts;
        line = h.line;
        opened =
            h.opened;
        top = h.top;
      };
      reads = λ core call r h. record {
        sorts = s.reads core call r h.sorts;
        line = h.line;
        opened = h.opened;
        top =
            h.top;
      };
      says = λ core said h. record { sorts = s.says core said h.sorts; line = h.line; opened = h.opened; top = h.top };
      ends = λ core h. record { sorts = s.ends core h.sorts; line = h.line; opened = h.opened; top = h.top };
      items = λ old call item ends play bound turns new e due n k h.
          let t = Item call item ends play bound in
          let x = result_of reading script call item play bound (with_turn t turns old) new n in
          let now = item_placed meaning reading script lawful old t turns k h x.placed x.owner x.pages x.pool
          (result_placed reading script call item play bound (with_turn t turns old) new n) in
          record {
            sorts = s.items old call item ends play bound turns new e due n k h.sorts;
            line =
                h.line;
            opened = now.0;
            top = now.1;
          };
    }
  where
    nothing : (front : List Placed) (p : Placed) (back : List Placed) → [] ≡ front ++ p ∷ back → ⊥
    nothing [] p back e = cc e
    nothing (f ∷ front) p back e = cc e
