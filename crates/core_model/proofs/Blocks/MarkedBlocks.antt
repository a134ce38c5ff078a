-- Blocks that items took are buffers' or were, blocks that bytes are staged in are pages or were, and a block that a
-- chunk gave up has a mark of that chunk, with no taking since.
use Rattle.std.proofs.Common.{◌≡◌, ℕ, zero, suc, true, false, cond, ◌==◌, List, [], ◌∷◌, ◌++◌, length}
use Rattle.std.proofs.Common.{refl, sym, ap, ◌∙◌, subst, ◌⊎◌, inl, inr, Option, Some, None, arith}
use Rattle.std.proofs.Common.{append-nil}
use Rattle.std.proofs.lemmas.Bool.{both_ways, cases_Bool, or_cases, eqb-true, eq-eqb}
use Rattle.dx_types.specs.declared.range.Range.{Range}
use Rattle.vk_types.specs.declared.message.Placed.{Placed}
use Rattle.vk_types.specs.Effects.{Meaning}
use Rattle.core_model.specs.Script.{Turn, Item, Script, updated}
use Rattle.core_model.specs.CoreState.{Page, Owner, Unmade, Home, Returning, Spare, Live, Retired, Paged, Dropped}
use Rattle.core_model.specs.CoreState.{Pool, Core, open_number, taken_count, finished_count}
use Rattle.core_model.specs.Readings.{Reading}
use Rattle.core_model.specs.Owners.{nothing_bound, bind_owner, retired, is_block}
use Rattle.core_model.specs.Adding.{with_turn, placed_at, staged_range, page_owner}
use Rattle.core_model.specs.TakingPosts.{TakesPosts, with_post, with_fence}
use Rattle.core_model.specs.AppActs.{handed_over}
use Rattle.core_model.specs.CoreStep.{Event, App, Cs, Pipe, Submit, Accept, Run, Complete, Finish, Come_home}
use Rattle.core_model.specs.CoreStep.{is_of_app, Step}
use Rattle.core_model.specs.Lawful.{IsLawful}
use Rattle.core_model.specs.Invariant.{handed}
use Rattle.core_model.specs.Marked.{IsOff, all_messages, IsMarkedBy}
use Rattle.core_model.specs.Kept.{Kept}
use Rattle.core_model.specs.Succession.{takes, stages_in, is_staged_in, all_places}
use Rattle.core_model.proofs.Steps.Giving.{IsVacant, stocked, vacant}
use Rattle.core_model.proofs.Messages.Placements.{places_of, length_places, places_of_append, all_places_append}
use Rattle.core_model.proofs.Blocks.BlockSorts.{IsBuffers, IsPage, SortKept, same_sort, bind_sort, finish_sort}
use Rattle.core_model.proofs.Blocks.BlockSorts.{return_sort, home_sort, SortGiven, given_sort, SortStaged}
use Rattle.core_model.proofs.Blocks.BlockSorts.{stages_sort}
use Rattle.core_model.proofs.Messages.ItemResults.{Placement, Nowhere, Bound_alone, Taken_new, Taken_for, Given_up}
use Rattle.core_model.proofs.Messages.ItemResults.{Staged_there}
use Rattle.core_model.proofs.Messages.ItemCases.{result_of, result_placed}
use Rattle.core_model.proofs.Messages.ListedBatches.{handed_long}
use Rattle.core_model.proofs.Messages.Scenes.{Kinds, scene, other_scene, posts_scene, handed_scene}
pub use Rattle.core_model.proofs.Blocks.MarkedPlaces.{or_false, ends_in}
use Rattle.core_model.proofs.Blocks.MarkedPlaces.{messages_more, takes_more, stages_more, marked_more, marked_here}
use Rattle.core_model.proofs.Blocks.MarkedPlaces.{marked_next}

pub record Sorts (core : Core) : Type 0 where
  pub taken : (b : ℕ) → takes b (all_places (all_messages core)) ≡ true → IsBuffers (core.owner b)
  pub staged : (b : ℕ) → stages_in b (all_places (all_messages core)) ≡ true → IsPage (core.owner b)
  pub marked : (b n : ℕ) → IsOff n (core.owner b) → IsMarkedBy (all_messages core) b n

-- Steps -------------------------------------------------------------------------------------------------------------

-- owners change, and the places stay
sorts_by : (old new : Core) → all_messages new ≡ all_messages old → ((b : ℕ) → SortKept (old.owner b) (new.owner b))
    → Sorts old → Sorts new
sorts_by old new e k h = record {
  taken = λ b t. (k b).buffers (h.taken b (ap (λ l. takes b (all_places l)) (sym e) ∙ t));
  staged = λ b t. (k b).page (h.staged b (ap (λ l. stages_in b (all_places l)) (sym e) ∙ t));
  marked = λ b n o. subst (λ l. IsMarkedBy l b n) (sym e) (h.marked b n ((k b).off n o));
}

pub same_messages : (old new : Core) → scene new ≡ scene old → all_messages new ≡ all_messages old
same_messages old new e = ap (λ v. places_of v.handed ++ v.open_chunk.placed ∷ []) e

other_owner : (meaning : Meaning) (reading : Reading) (script : Script) (old : Core) (e : Event) (new : Core)
    → is_of_app e ≡ false → Step meaning reading script old e new → (b : ℕ) → SortKept (old.owner b) (new.owner b)
other_owner meaning reading script old (App posts) new h p b = absurd (cc h)
other_owner meaning reading script old Cs new h p b = subst (λ c. SortKept (old.owner b) (c.owner b)) (sym p.4)
    (same_sort (old.owner b))
other_owner meaning reading script old (Pipe j) new h p b = subst (λ c. SortKept (old.owner b) (c.owner b))
    (sym p.2) (same_sort (old.owner b))
other_owner meaning reading script old Submit new h p b = subst (λ c. SortKept (old.owner b) (c.owner b)) (sym p.5)
    (same_sort (old.owner b))
other_owner meaning reading script old Accept new h p b = subst (λ c. SortKept (old.owner b) (c.owner b)) (sym p.4)
    (same_sort (old.owner b))
other_owner meaning reading script old (Run j) new h p b = subst (λ c. SortKept (old.owner b) (c.owner b))
    (sym p.10) (same_sort (old.owner b))
other_owner meaning reading script old Complete new h p b = subst (λ c. SortKept (old.owner b) (c.owner b))
    (sym p.5) (same_sort (old.owner b))
other_owner meaning reading script old Finish new h p b = subst (λ c. SortKept (old.owner b) (c.owner b)) (sym p.4)
    (finish_sort (suc (finished_count old)) b (old.owner b))
other_owner meaning reading script old (Come_home block place) new h p b =
    subst (λ c. SortKept (old.owner b) (c.owner b)) (sym p.6) (home_sort old.owner block p.1 p.2 b)

posts_sorts : (n : ℕ) (old mid : Core) → TakesPosts n old mid → Sorts old → Sorts mid
posts_sorts zero old mid h s = subst Sorts (sym h) s
posts_sorts (suc n) old mid h s =
    let post = with_post h.0 h.1 old in
    posts_sorts n post mid h.3
    (sorts_by old post (same_messages old post (posts_scene 1 old post (h.0, h.1, h.2, refl)))
    (λ b. return_sort (suc (taken_count old)) (old.owner b)) s)

fence_sorts : (n : ℕ) (core : Core) → Sorts core → Sorts (with_fence n core)
fence_sorts zero core s = s
fence_sorts (suc n) core s = record { taken = s.taken; staged = s.staged; marked = s.marked }

hand_sorts : (old : Core) → Sorts old → Sorts (handed_over old)
hand_sorts old s =
    let line : all_messages (handed_over old) ≡ all_messages old ++ [] ∷ [] =
    ap (λ v. places_of v.handed ++ v.open_chunk.placed ∷ []) (handed_scene old)
    ∙ ap (λ l. l ++ [] ∷ []) (places_of_append (handed old) (old.open_chunk ∷ [])) in
    let all : all_places (all_messages (handed_over old)) ≡ all_places (all_messages old) = ap all_places line
    ∙ all_places_append (all_messages old) ([] ∷ []) ∙ append-nil (all_places (all_messages old)) in
    record {
      taken = λ b t. s.taken b (ap (takes b) (sym all) ∙ t);
      staged = λ b t. s.staged b (ap (stages_in b) (sym all) ∙ t);
      marked = λ b n o. subst (λ l. IsMarkedBy l b n) (sym line) (marked_next (all_messages old) b n (s.marked b n o));
    }

-- an item with a place that takes no block, stages no bytes and marks none
module _ (old : Core) (s : Sorts old) (p : Placed) (own : ℕ → Owner) where
  abbrev now : List (List Placed)
  now = places_of (handed old) ++ (old.open_chunk.placed ++ p ∷ []) ∷ []

  abbrev pub SortsNow : Type 0
  SortsNow = ((b : ℕ) → takes b (all_places now) ≡ true → IsBuffers (own b))
      × ((b : ℕ) → stages_in b (all_places now) ≡ true → IsPage (own b))
      × ((b n : ℕ) → IsOff n (own b) → IsMarkedBy now b n)

  more : all_places now ≡ all_places (all_messages old) ++ p ∷ []
  more = messages_more (places_of (handed old)) old.open_chunk.placed p

  taken_now : (b : ℕ) → takes b (all_places now) ≡ true → (takes b (all_places (all_messages old)) ≡ true)
      ⊎ (is_block p.block b ≡ true)
  taken_now b t = or_cases (takes b (all_places (all_messages old))) (is_block p.block b)
      (sym (takes_more b (all_places (all_messages old)) p) ∙ ap (takes b) (sym more) ∙ t)

  staged_now : (b : ℕ) → stages_in b (all_places now) ≡ true → (stages_in b (all_places (all_messages old)) ≡ true)
      ⊎ (is_staged_in b p.staged ≡ true)
  staged_now b t = or_cases (stages_in b (all_places (all_messages old))) (is_staged_in b p.staged)
      (sym (stages_more b (all_places (all_messages old)) p) ∙ ap (stages_in b) (sym more) ∙ t)

  marked_now : (b n : ℕ) → is_block p.block b ≡ false → IsMarkedBy (all_messages old) b n → IsMarkedBy now b n
  marked_now b n other h = marked_more (places_of (handed old)) old.open_chunk.placed p b n other h

  number_now : suc (length (places_of (handed old))) ≡ open_number old
  number_now = let a = handed_long old in let b = length_places (handed old) in omega (arith, a, b)

  pub quiet_now : p.block ≡ None → p.staged ≡ None → ((b : ℕ)
      → SortGiven p.mark (open_number old) b (old.owner b) (own b)) → SortsNow
  quiet_now none unstaged k =
      let free : (b : ℕ) → is_block p.block b ≡ false = λ b. ap (λ o. is_block o b) none in (
        (λ b t. elim (taken_now b t) [
          | inl x ↦ (k b).buffers (s.taken b x)
          | inr x ↦ absurd
              (both_ways (is_block p.block b) (free b) x)
        ]),
        (λ b t. elim (staged_now b t) [
          | inl x ↦ (k b).page (s.staged b x)
          | inr x ↦ absurd
              (both_ways (is_staged_in b p.staged) (ap (is_staged_in b) unstaged) x)
        ]),
        (λ b n o.
            elim ((k b).off n o) [
              | inl x ↦ marked_now b n (free b) (s.marked b n x)
              | inr x ↦ marked_here (places_of (handed old)) old.open_chunk.placed p b n (number_now ∙ sym x.1) x.0
            ]),
      )

-- a block is taken
taken_sorts : (old : Core) (s : Sorts old) (call item block buffer since : ℕ) (mark : Option ℕ) (own : ℕ → Owner)
    → ((b : ℕ) → SortGiven mark (open_number old) b (old.owner b) (own b)) → (IsPage (old.owner block) → ⊥)
    → SortsNow old s (placed_at call item (Some block) mark None) (updated block (Live buffer since nothing_bound) own)
taken_sorts old s call item block buffer since mark own k strange =
    let p = placed_at call item (Some block) mark None in
    let now : ℕ → Owner = updated block (Live buffer since nothing_bound) own in
    let here : (b : ℕ) → (b == block) ≡ true → now b ≡ Live buffer since nothing_bound =
    λ b t. ap (λ c. cond c (Live buffer since nothing_bound) (own b)) t in
    let there : (b : ℕ) → (b == block) ≡ false → now b ≡ own b =
    λ b f. ap (λ c. cond c (Live buffer since nothing_bound) (own b)) f in (
      (λ b t.
          elim (cases_Bool (b == block)) [
            | inl x ↦ subst IsBuffers (sym (here b x)) tt
            | inr f ↦ elim (taken_now old s p now b t) [
              | inl x ↦ subst IsBuffers (sym (there b f)) ((k b).buffers (s.taken b x))
              | inr x ↦ absurd (both_ways (b == block) f x)
            ]
          ]),
      (λ b t.
          elim (staged_now old s p now b t) [
            | inl x ↦ elim (cases_Bool (b == block)) [
              | inl y ↦ absurd (strange (subst (λ b. IsPage (old.owner b)) (eqb-true b block y) (s.staged b x)))
              | inr f ↦ subst IsPage (sym (there b f)) ((k b).page (s.staged b x))
            ]
            | inr x ↦ absurd (cc x)
          ]),
      (λ b n o.
          elim (cases_Bool (b == block)) [
            | inl x ↦ absurd (subst (IsOff n) (here b x) o)
            | inr f ↦ elim ((k b).off n (subst (IsOff n) (there b f) o)) [
              | inl x ↦ marked_now old s p now b n f (s.marked b n x)
              | inr x ↦ marked_here (places_of (handed old)) old.open_chunk.placed p b n (number_now old s p now
                  ∙ sym x.1) x.0
            ]
          ]),
    )

kept_given : (mark : Option ℕ) (chunk b : ℕ) (o : Owner) (n : Owner) → SortKept o n → SortGiven mark chunk b o n
kept_given mark chunk b o n k = record { off = λ m h. inl (k.off m h); buffers = k.buffers; page = k.page }

-- bytes are staged
staged_sorts : (old : Core) (s : Sorts old) (call item len : ℕ) (r : Range) (page : Owner) (rs : List Range)
    → SortStaged (old.owner r.block) page
    → SortsNow old s (placed_at call item None None (Some r)) (λ b. bind_owner rs b (updated r.block page old.owner b))
staged_sorts old s call item len r page rs k =
    let p = placed_at call item None None (Some r) in
    let own : ℕ → Owner = updated r.block page old.owner in
    let now : ℕ → Owner = λ b. bind_owner rs b (own b) in
    let here : (b : ℕ) → (b == r.block) ≡ true → own b ≡ page = λ b t. ap (λ c. cond c page (old.owner b)) t in
    let there : (b : ℕ) → (b == r.block) ≡ false → own b ≡ old.owner b =
    λ b f. ap (λ c. cond c page (old.owner b)) f in (
      (λ b t.
          elim (taken_now old s p now b t) [
            | inl x ↦ (bind_sort rs b (own b)).buffers
                (elim (cases_Bool (b == r.block)) [
                  | inl y ↦ absurd
                      (k.strange (subst (λ b. IsBuffers (old.owner b)) (eqb-true b r.block y) (s.taken b x)))
                  | inr f ↦ subst IsBuffers (sym (there b f)) (s.taken b x)
                ])
            | inr x ↦ absurd (cc x)
          ]),
      (λ b t.
          (bind_sort rs b (own b)).page
          (elim (cases_Bool (b == r.block)) [
            | inl y ↦ subst IsPage (sym (here b y)) k.page
            | inr f ↦ elim (staged_now old s p now b t) [
              | inl x ↦ subst IsPage (sym (there b f)) (s.staged b x)
              | inr x ↦ absurd (both_ways (b == r.block) f (eq-eqb b r.block (sym (eqb-true r.block b x))))
            ]
          ])),
      (λ b n o.
          let was = (bind_sort rs b (own b)).off n o in
          elim (cases_Bool (b == r.block)) [
            | inl y ↦ absurd (k.off n (subst (IsOff n) (here b y) was))
            | inr f ↦ marked_now old s p now b n refl (s.marked b n (subst (IsOff n) (there b f) was))
          ]),
    )

vacant_page : (o : Owner) → IsVacant o → IsPage o → ⊥
vacant_page Unmade v p = p
vacant_page (Home k) v p = p
vacant_page (Returning k) v p = v
vacant_page Spare v p = v
vacant_page (Live buffer since bound) v p = v
vacant_page (Retired k since bound) v p = v
vacant_page (Paged k since bound) v p = v
vacant_page Dropped v p = v

-- an item's place, by where it is placed
item_sorts : (meaning : Meaning) (reading : Reading) (script : Script) → IsLawful meaning script
    → (old : Core) (t : Turn) (turns : List Turn) → Kept meaning reading script old → (s : Sorts old)
    → (p : Placed) (own : ℕ → Owner) (pages : List Page) (pool : Pool)
    → Placement reading script (with_turn t turns old) p own pages pool → SortsNow old s p own
item_sorts meaning reading script lawful old t turns k s p own pages pool (Nowhere call item) =
    quiet_now old s p own refl refl (λ b. kept_given None (open_number old) b (old.owner b) (old.owner b)
    (same_sort (old.owner b)))
item_sorts meaning reading script lawful old t turns k s p own pages pool (Bound_alone call item rs) =
    quiet_now old s p own refl refl (λ b. kept_given None (open_number old) b (old.owner b)
    (bind_owner rs b (old.owner b)) (bind_sort rs b (old.owner b)))
item_sorts meaning reading script lawful old t turns k s p own pages pool
    (Taken_new call item buffer block since mid has) =
    taken_sorts old s call item block buffer since None old.owner
    (λ b. kept_given None (open_number old) b (old.owner b) (old.owner b) (same_sort (old.owner b)))
    (vacant_page (old.owner block) (vacant reading script buffer block (with_turn t turns old) mid has
    lawful.classes (stocked old k.beside.places)))
item_sorts meaning reading script lawful old t turns k s p own pages pool
    (Taken_for call item buffer block since mid has) =
    taken_sorts old s call item block buffer since (old.blocks buffer)
    (retired (old.blocks buffer) (open_number old) old.owner)
    (given_sort (old.blocks buffer) (open_number old) old.owner)
    (vacant_page (old.owner block) (vacant reading script buffer block (with_turn t turns old) mid has
    lawful.classes (stocked old k.beside.places)))
item_sorts meaning reading script lawful old t turns k s p own pages pool (Given_up call item buffer) =
    quiet_now old s p own refl refl (given_sort (old.blocks buffer) (open_number old) old.owner)
item_sorts meaning reading script lawful old t turns k s p own pages pool
    (Staged_there call item len g _ choice rs h some) =
    staged_sorts old s call item len (staged_range g len) (page_owner (open_number old) old.fence g.added
    (old.owner g.block)) rs
    (stages_sort choice len g old.pool pool h (open_number old) old.fence old.owner k.beside.pages.newest
    k.beside.places.spare (k.beside.places.fresh old.pool.next (omega arith)))

pub sorts_kinds : (meaning : Meaning) (reading : Reading) (script : Script) → IsLawful meaning script
    → Kinds meaning reading script Sorts
sorts_kinds meaning reading script lawful = record {
  started = record { taken = λ b t. absurd (cc t); staged = λ b t. absurd (cc t); marked = λ b n o. absurd o };
  others = λ old e new h p k s. sorts_by old new (same_messages old new
      (other_scene meaning reading script old e new h p)) (other_owner meaning reading script old e new h p) s;
  posts = λ n old mid h k s. fence_sorts n mid (posts_sorts n old mid h s);
  hands = λ old due k s. hand_sorts old s;
  turns = λ old t turns n e k s. record { taken = s.taken; staged = s.staged; marked = s.marked };
  reads = λ core call r s. record { taken = s.taken; staged = s.staged; marked = s.marked };
  says = λ core said s. record { taken = s.taken; staged = s.staged; marked = s.marked };
  ends = λ core s. record { taken = s.taken; staged = s.staged; marked = s.marked };
  items = λ old call item ends play bound turns new e due n k s.
      let t = Item call item ends play bound in
      let x = result_of reading script call item play bound (with_turn t turns old) new n in
      let now = item_sorts meaning reading script lawful old t turns k s x.placed x.owner x.pages x.pool
      (result_placed reading script call item play bound (with_turn t turns old) new n) in
      record { taken = now.0; staged = now.1; marked = now.2 };
}
