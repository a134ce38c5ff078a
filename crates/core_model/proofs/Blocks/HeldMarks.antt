-- A block that a chunk marked is retired by it until the chunk is finished; and what a Finish sends home is what its
-- message marks.
use Rattle.std.proofs.Common.{◌≡◌, ℕ, zero, suc, ◌<◌, ◌≤◌, Bool, true, false, cond, ◌||◌, ◌==◌, List, [], ◌∷◌, ◌++◌}
use Rattle.std.proofs.Common.{length, refl, sym, ap, ◌∙◌, subst, inl, inr, Option, Some, arith, append_assoc}
use Rattle.std.proofs.Common.{length-append}
use Rattle.std.specs.List.{list_any}
use Rattle.std.proofs.lemmas.Bool.{cases_Bool, or_cases, eqb-true, eq-eqb}
use Rattle.std.proofs.lemmas.List.Folds.{list_any-append}
use Rattle.dx_types.specs.declared.range.Range.{Range}
use Rattle.vk_types.specs.declared.message.Placed.{Placed}
use Rattle.vk_types.specs.Effects.{Meaning}
use Rattle.core_model.specs.Script.{Turn, Item, Script, updated}
use Rattle.core_model.specs.CoreState.{Page, Owner, Unmade, Home, Returning, Spare, Live, Retired, Paged, Dropped}
use Rattle.core_model.specs.CoreState.{has_class, Pool, Core, open_number, finished_count, taken_count}
use Rattle.core_model.specs.Readings.{Reading}
use Rattle.core_model.specs.Owners.{nothing_bound, bind_owner, retire_owner, retired, is_block, finish_owner}
use Rattle.core_model.specs.Owners.{return_owner}
use Rattle.core_model.specs.Adding.{with_turn, page_owner}
use Rattle.core_model.specs.TakingPosts.{TakesPosts, with_post, with_fence}
use Rattle.core_model.specs.AppActs.{handed_over}
use Rattle.core_model.specs.CoreStep.{Event, App, Cs, Pipe, Submit, Accept, Run, Complete, Finish, Come_home}
use Rattle.core_model.specs.CoreStep.{is_of_app, Step}
use Rattle.core_model.specs.Lawful.{IsLawful}
use Rattle.core_model.specs.Invariant.{IsLive, handed}
use Rattle.core_model.specs.Marked.{all_messages}
use Rattle.core_model.specs.Kept.{Kept}
use Rattle.core_model.proofs.Steps.Giving.{IsVacant, stocked, vacant}
use Rattle.core_model.proofs.Messages.Placements.{places_of, length_places, places_of_append}
use Rattle.core_model.proofs.Blocks.BlockSorts.{IsBuffers, stages_sort, block_is}
use Rattle.core_model.proofs.Blocks.MarkedBlocks.{or_false, ends_in, same_messages}
use Rattle.core_model.proofs.Messages.ItemResults.{Placement, Nowhere, Bound_alone, Taken_new, Taken_for, Given_up}
use Rattle.core_model.proofs.Messages.ItemResults.{Staged_there}
use Rattle.core_model.proofs.Messages.ItemCases.{result_of, result_placed}
use Rattle.core_model.proofs.Messages.ListedBatches.{handed_long}
use Rattle.core_model.proofs.Messages.Scenes.{Kinds, scene, other_scene, posts_scene, handed_scene}

-- a buffer's block that this chunk gave up, and is not finished
abbrev pub IsGivenUp : ℕ → Owner → Type 0
IsGivenUp j Unmade = ⊥
IsGivenUp j (Home k) = ⊥
IsGivenUp j (Returning k) = ⊥
IsGivenUp j Spare = ⊥
IsGivenUp j (Live buffer since bound) = ⊥
IsGivenUp j (Retired k since bound) = k ≡ j
IsGivenUp j (Paged k since bound) = ⊥
IsGivenUp j Dropped = ⊥

abbrev pub marks_in : ℕ → List Placed → Bool
marks_in b ps = list_any (λ p. is_block p.mark b) ps

-- message j marks the block
abbrev pub HasMark : List (List Placed) → ℕ → ℕ → Type 0
HasMark pss b j = (front : List (List Placed)) × (here : List Placed) × (back : List (List Placed))
    × (pss ≡ front ++ here ∷ back) × (suc (length front) ≡ j) × (marks_in b here ≡ true)

abbrev pub Held : Core → Type 0
Held core = (b j : ℕ) → HasMark (all_messages core) b j → finished_count core < j → IsGivenUp j (core.owner b)

-- Owners ------------------------------------------------------------------------------------------------------------

bind_held : (rs : List Range) (b j : ℕ) (o : Owner) → IsGivenUp j o → IsGivenUp j (bind_owner rs b o)
bind_held rs b j Unmade h = h
bind_held rs b j (Home k) h = absurd h
bind_held rs b j (Returning k) h = absurd h
bind_held rs b j Spare h = absurd h
bind_held rs b j (Live buffer since bound) h = absurd h
bind_held rs b j (Retired k since bound) h = h
bind_held rs b j (Paged k since bound) h = absurd h
bind_held rs b j Dropped h = absurd h

return_held : (n j : ℕ) (o : Owner) → IsGivenUp j o → IsGivenUp j (return_owner n o)
return_held n j Unmade h = h
return_held n j (Home k) h = absurd h
return_held n j (Returning k) h = absurd h
return_held n j Spare h = absurd h
return_held n j (Live buffer since bound) h = absurd h
return_held n j (Retired k since bound) h = h
return_held n j (Paged k since bound) h = absurd h
return_held n j Dropped h = absurd h

retire_held : (n j : ℕ) (o : Owner) → IsGivenUp j o → IsGivenUp j (retire_owner n o)
retire_held n j Unmade h = h
retire_held n j (Home k) h = absurd h
retire_held n j (Returning k) h = absurd h
retire_held n j Spare h = absurd h
retire_held n j (Live buffer since bound) h = absurd h
retire_held n j (Retired k since bound) h = h
retire_held n j (Paged k since bound) h = absurd h
retire_held n j Dropped h = absurd h

-- a later chunk's stay as another is finished
finish_held : (n b j : ℕ) (o : Owner) → n < j → IsGivenUp j o → IsGivenUp j (finish_owner n b o)
finish_held n b j Unmade l h = h
finish_held n b j (Home k) l h = absurd h
finish_held n b j (Returning k) l h = absurd h
finish_held n b j Spare l h = absurd h
finish_held n b j (Live buffer since bound) l h = absurd h
finish_held n b j (Paged k since bound) l h = absurd h
finish_held n b j Dropped l h = absurd h
finish_held n b j (Retired k since bound) l h =
    let other : (k == n) ≡ false = elim (cases_Bool (k == n))
    [ inl t ↦ absurd (let e = eqb-true k n t in let z : ⊥ = omega (arith, e, l, h) in z) | inr f ↦ f ] in
    subst (IsGivenUp j)
    (sym (ap (λ c. cond c (cond (has_class b) (Returning k) Dropped) (Retired k since bound)) other)) h

live_retired : (n r : ℕ) (o : Owner) → IsLive r o → IsGivenUp n (retire_owner n o)
live_retired n r Unmade l = l
live_retired n r (Home k) l = absurd l
live_retired n r (Returning k) l = absurd l
live_retired n r Spare l = absurd l
live_retired n r (Live buffer since bound) l = refl
live_retired n r (Retired k since bound) l = absurd l
live_retired n r (Paged k since bound) l = absurd l
live_retired n r Dropped l = absurd l

vacant_held : (j : ℕ) (o : Owner) → IsVacant o → IsGivenUp j o → ⊥
vacant_held j Unmade v h = h
vacant_held j (Home k) v h = h
vacant_held j (Returning k) v h = v
vacant_held j Spare v h = v
vacant_held j (Live buffer since bound) v h = v
vacant_held j (Retired k since bound) v h = v
vacant_held j (Paged k since bound) v h = v
vacant_held j Dropped v h = v

vacant_live : (r : ℕ) (o : Owner) → IsVacant o → IsLive r o → ⊥
vacant_live r Unmade v h = h
vacant_live r (Home k) v h = h
vacant_live r (Returning k) v h = v
vacant_live r Spare v h = v
vacant_live r (Live buffer since bound) v h = v
vacant_live r (Retired k since bound) v h = v
vacant_live r (Paged k since bound) v h = v
vacant_live r Dropped v h = v

held_buffers : (j : ℕ) (o : Owner) → IsGivenUp j o → IsBuffers o
held_buffers j Unmade h = h
held_buffers j (Home k) h = tt
held_buffers j (Returning k) h = tt
held_buffers j Spare h = h
held_buffers j (Live buffer since bound) h = tt
held_buffers j (Retired k since bound) h = tt
held_buffers j (Paged k since bound) h = h
held_buffers j Dropped h = tt

-- Steps -------------------------------------------------------------------------------------------------------------

held_by : (old new : Core) → all_messages new ≡ all_messages old → finished_count old ≤ finished_count new
    → ((b j : ℕ) → finished_count new < j → IsGivenUp j (old.owner b) → IsGivenUp j (new.owner b)) → Held old
    → Held new
held_by old new e l k h b j m n = k b j n (h b j (subst (λ l. HasMark l b j) e m) (omega (arith, l, n)))

-- by a new state that has the same owners and as many finished chunks
held_same : (old new : Core) → scene new ≡ scene old → (q : Core) → new ≡ q → q.owner ≡ old.owner
    → finished_count q ≡ finished_count old → Held old → Held new
held_same old new e q is own same h =
    let f : finished_count new ≡ finished_count old = ap finished_count is ∙ same in
    held_by old new (same_messages old new e) (omega (arith, f))
    (λ b j l g. subst (λ o. IsGivenUp j (o b)) (sym (ap (λ c. c.owner) is ∙ own)) g) h

other_held : (meaning : Meaning) (reading : Reading) (script : Script) (old : Core) (e : Event) (new : Core)
    → is_of_app e ≡ false → Step meaning reading script old e new → Held old → Held new
other_held meaning reading script old (App posts) new n p h = absurd (cc n)
other_held meaning reading script old Cs new n p h = held_same old new
    (other_scene meaning reading script old Cs new n p) _ p.4 refl refl h
other_held meaning reading script old (Pipe j) new n p h = held_same old new
    (other_scene meaning reading script old (Pipe j) new n p) _ p.2 refl refl h
other_held meaning reading script old Submit new n p h = held_same old new
    (other_scene meaning reading script old Submit new n p) _ p.5 refl refl h
other_held meaning reading script old Accept new n p h = held_same old new
    (other_scene meaning reading script old Accept new n p) _ p.4 refl refl h
other_held meaning reading script old (Run j) new n p h = held_same old new
    (other_scene meaning reading script old (Run j) new n p) _ p.10 refl refl h
other_held meaning reading script old Complete new n p h = held_same old new
    (other_scene meaning reading script old Complete new n p) _ p.5 refl refl h
other_held meaning reading script old Finish new n p h =
    let more : length (old.posts ++ p.0 ∷ []) ≡ suc (length old.posts) = let z =
    length-append old.posts (p.0 ∷ []) in omega (arith, z) in
    let f : finished_count new ≡ suc (finished_count old) = ap finished_count p.4 ∙ (omega (arith, more)) in
    held_by old new (same_messages old new (other_scene meaning reading script old Finish new n p)) (omega (arith, f))
    (λ b j l g. subst (λ c. IsGivenUp j (c.owner b)) (sym p.4)
    (finish_held (suc (finished_count old)) b j (old.owner b) (omega (arith, f, l)) g)) h
other_held meaning reading script old (Come_home block place) new n p h =
    let f : finished_count new ≡ finished_count old = ap finished_count p.6 in
    held_by old new (same_messages old new (other_scene meaning reading script old (Come_home block place) new n p))
    (omega (arith, f))
    (λ b j l g. subst (λ c. IsGivenUp j (c.owner b)) (sym p.6)
    (elim (cases_Bool (b == block)) [
      | inl t ↦ absurd (subst (IsGivenUp j) (ap old.owner (eqb-true b block t) ∙ p.2) g)
      | inr f ↦ subst (IsGivenUp j) (sym (ap (λ c. cond c (Home p.1) (old.owner b)) f)) g
    ])) h

posts_held : (n : ℕ) (old mid : Core) → TakesPosts n old mid → Held old → Held mid
posts_held zero old mid p h = subst Held (sym p) h
posts_held (suc n) old mid p h =
    let post = with_post p.0 p.1 old in
    let taken : length (old.taken ++ p.0.segment ∷ []) ≡ suc (length old.taken) = let z =
    length-append old.taken (p.0.segment ∷ []) in omega (arith, z) in
    let posts : length old.posts ≡ suc (length p.1) = ap length p.2 in
    let f : finished_count post ≡ finished_count old = omega (arith, taken, posts) in
    posts_held n post mid p.3
    (held_by old post (same_messages old post (posts_scene 1 old post (p.0, p.1, p.2, refl))) (omega (arith, f))
    (λ b j l g. return_held (suc (taken_count old)) j (old.owner b) g) h)

fence_held : (n : ℕ) (core : Core) → Held core → Held (with_fence n core)
fence_held zero core h = h
fence_held (suc n) core h = h

hand_held : (old : Core) → Held old → Held (handed_over old)
hand_held old h b j m l =
    let line : all_messages (handed_over old) ≡ all_messages old ++ [] ∷ [] =
    ap (λ v. places_of v.handed ++ v.open_chunk.placed ∷ []) (handed_scene old)
    ∙ ap (λ l. l ++ [] ∷ []) (places_of_append (handed old) (old.open_chunk ∷ [])) in
    elim (ends_in (all_messages old) [] m.0 m.1 m.2 (sym line ∙ m.3)) [
      | inl w ↦ absurd (let z : false ≡ true = ap (marks_in b) (sym w.1) ∙ m.5 in cc z)
      | inr w ↦ h b j (m.0, m.1, w.0, w.1, m.4, m.5) l
    ]

-- an item's place
module _ (old : Core) (h : Held old) (p : Placed) (own : ℕ → Owner) (keeps : (b j : ℕ) → finished_count old < j
    → IsGivenUp j (old.owner b) → IsGivenUp j (own b))
    (gives : (b : ℕ) → p.mark ≡ Some b → IsGivenUp (open_number old) (own b)) where
  pub item_held : (b j : ℕ) → HasMark (places_of (handed old) ++ (old.open_chunk.placed ++ p ∷ []) ∷ []) b j
      → finished_count old < j → IsGivenUp j (own b)
  item_held b j m l =
      elim (ends_in (places_of (handed old)) (old.open_chunk.placed ++ p ∷ []) m.0 m.1 m.2 m.3) [
        | inl w ↦
            let number : suc (length (places_of (handed old))) ≡ j = ap (λ l. suc (length l)) (sym w.0) ∙ m.4 in
            let marked : marks_in b (old.open_chunk.placed ++ p ∷ []) ≡ true = ap (marks_in b) (sym w.1) ∙ m.5 in
            let parts : (marks_in b old.open_chunk.placed || is_block p.mark b) ≡ true =
            ap (λ c. marks_in b old.open_chunk.placed || c) (sym (or_false (is_block p.mark b)))
            ∙ sym (list_any-append (λ p. is_block p.mark b) old.open_chunk.placed (p ∷ [])) ∙ marked in
            elim (or_cases (marks_in b old.open_chunk.placed) (is_block p.mark b) parts) [
              | inl x ↦ keeps b j l (h b j (places_of (handed old), old.open_chunk.placed, [], refl, number, x) l)
              | inr x ↦
                  let open_is : open_number old ≡ j = let a = length_places (handed old) in let c =
                  handed_long old in omega (arith, a, c, number) in
                  subst (λ j. IsGivenUp j (own b)) open_is (gives b (block_is p.mark b x))
            ]
        | inr w ↦
            keeps b j l (h b j (
              m.0,
              m.1,
              w.0 ++ old.open_chunk.placed ∷ [],
              ap (λ l. l ++ old.open_chunk.placed ∷ []) w.1
                  ∙ append_assoc m.0 (m.1 ∷ w.0) (old.open_chunk.placed ∷ []),
              m.4,
              m.5,
            ) l)
      ]

retired_held : (old : Core) (mark : Option ℕ) (b j : ℕ) → IsGivenUp j (old.owner b)
    → IsGivenUp j (retired mark (open_number old) old.owner b)
retired_held old mark b j g = by (is_block mark b)
  where
    by : (c : Bool) → IsGivenUp j (cond c (retire_owner (open_number old) (old.owner b)) (old.owner b))
    by true = retire_held (open_number old) j (old.owner b) g
    by false = g

module _ (meaning : Meaning) (reading : Reading) (script : Script) (lawful : IsLawful meaning script) (old : Core)
    (t : Turn) (turns : List Turn) (k : Kept meaning reading script old) (h : Held old) where
  -- a buffer's block that is given up
  given : (buffer b : ℕ) → old.blocks buffer ≡ Some b → IsGivenUp (open_number old)
      (retired (old.blocks buffer) (open_number old) old.owner b)
  given buffer b e =
      let here : is_block (old.blocks buffer) b ≡ true = ap (λ o. is_block o b) e ∙ eq-eqb b b refl in
      subst (IsGivenUp (open_number old))
      (sym (ap (λ c. cond c (retire_owner (open_number old) (old.owner b)) (old.owner b)) here))
      (live_retired (open_number old) buffer (old.owner b) (k.good.live buffer b e))

  item_gives : (p : Placed) (own : ℕ → Owner) (pages : List Page) (pool : Pool)
      → Placement reading script (with_turn t turns old) p own pages pool
      → ((b j : ℕ) → finished_count old < j → IsGivenUp j (old.owner b) → IsGivenUp j (own b))
      × ((b : ℕ) → p.mark ≡ Some b → IsGivenUp (open_number old) (own b))
  item_gives p own pages pool (Nowhere call item) = ((λ b j l g. g), (λ b e. absurd (cc e)))
  item_gives p own pages pool (Bound_alone call item rs) = (
    (λ b j l g. bind_held rs b j (old.owner b) g),
    (λ b e. absurd (cc e)),
  )
  item_gives p own pages pool (Taken_new call item buffer block since mid has) =
      let v = vacant reading script buffer block (with_turn t turns old) mid has lawful.classes
      (stocked old k.beside.places) in (
        (λ b j l g.
            elim (cases_Bool (b == block)) [
              | inl x ↦ absurd (vacant_held j (old.owner block) v
                  (subst (λ b. IsGivenUp j (old.owner b)) (eqb-true b block x) g))
              | inr f ↦ subst (IsGivenUp j) (sym (ap (λ c. cond c (Live buffer since nothing_bound) (old.owner b)) f)) g
            ]),
        (λ b e. absurd (cc e)),
      )
  item_gives p own pages pool (Taken_for call item buffer block since mid has) =
      let v = vacant reading script buffer block (with_turn t turns old) mid has lawful.classes
      (stocked old k.beside.places) in
      let out = retired (old.blocks buffer) (open_number old) old.owner in (
        (λ b j l g.
            elim (cases_Bool (b == block)) [
              | inl x ↦ absurd (vacant_held j (old.owner block) v
                  (subst (λ b. IsGivenUp j (old.owner b)) (eqb-true b block x) g))
              | inr f ↦ subst (IsGivenUp j) (sym (ap (λ c. cond c (Live buffer since nothing_bound) (out b)) f))
                  (retired_held old (old.blocks buffer) b j g)
            ]),
        (λ b e.
            elim (cases_Bool (b == block)) [
              | inl x ↦ absurd (vacant_live buffer (old.owner block) v
                  (subst (λ b. IsLive buffer (old.owner b)) (eqb-true b block x) (k.good.live buffer b e)))
              | inr f ↦ subst (IsGivenUp (open_number old)) (sym
                  (ap (λ c. cond c (Live buffer since nothing_bound) (out b)) f)) (given buffer b e)
            ]),
      )
  item_gives p own pages pool (Given_up call item buffer) =
      ((λ b j l g. retired_held old (old.blocks buffer) b j g), (λ b e. given buffer b e))
  item_gives p own pages pool (Staged_there call item len g _ choice rs s some) =
      let page = page_owner (open_number old) old.fence g.added (old.owner g.block) in
      let sort = stages_sort choice len g old.pool pool s (open_number old) old.fence old.owner
      k.beside.pages.newest k.beside.places.spare (k.beside.places.fresh old.pool.next (omega arith)) in (
        (λ b j l x.
            bind_held rs b j (updated g.block page old.owner b)
            (elim (cases_Bool (b == g.block)) [
              | inl y ↦ absurd
                  (sort.strange (subst (λ b. IsBuffers (old.owner b)) (eqb-true b g.block y)
                  (held_buffers j (old.owner b) x)))
              | inr f ↦ subst (IsGivenUp j) (sym (ap (λ c. cond c page (old.owner b)) f)) x
            ])),
        (λ b e. absurd (cc e)),
      )

pub held_kinds : (meaning : Meaning) (reading : Reading) (script : Script) → IsLawful meaning script
    → Kinds meaning reading script Held
held_kinds meaning reading script lawful = record {
  started = λ b j m l. absurd (none b m.0 m.1 m.2 m.3 m.5);
  others = λ old e new n p k h. other_held meaning reading script old e new n p h;
  posts = λ n old mid p k h. fence_held n mid (posts_held n old mid p h);
  hands = λ old due k h. hand_held old h;
  turns = λ old t turns n e k h. h;
  reads = λ core call r h. h;
  says = λ core said h. h;
  ends = λ core h. h;
  items = λ old call item ends play bound turns new e due n k h.
      let t = Item call item ends play bound in
      let x = result_of reading script call item play bound (with_turn t turns old) new n in
      let g = item_gives meaning reading script lawful old t turns k h x.placed x.owner x.pages x.pool
      (result_placed reading script call item play bound (with_turn t turns old) new n) in
      item_held old h x.placed x.owner g.0 g.1;
}
  where
    none : (b : ℕ) (front : List (List Placed)) (here : List Placed) (back : List (List Placed))
        → [] ∷ [] ≡ front ++ here ∷ back → marks_in b here ≡ true → ⊥
    none b [] here back e m = let s : [] ≡ here = cc e in let z : false ≡ true = ap (marks_in b) s ∙ m in cc z
    none b (f ∷ []) here back e m = cc e
    none b (f ∷ g ∷ front) here back e m = cc e
