-- What an item takes, or stages bytes in, the device doesn't hold: not as App takes it, nor later on, as messages
-- before it come to the device and are completed.
use Rattle.std.proofs.Common.{◌==◌, ◌≡◌, ℕ, zero, suc, ◌≤◌, true, false, ◌||◌, List, [], ◌∷◌, ◌++◌, length, map}
use Rattle.std.proofs.Common.{refl, sym, ap, ◌∙◌, subst, ◌⊎◌, inl, inr, Option, Some, None, arith, append_assoc}
use Rattle.std.proofs.Common.{length-append}
use Rattle.std.specs.List.{AllByRecursion}
use Rattle.std.proofs.lemmas.Bool.{or_cases, eqb-true}
use Rattle.dx_types.specs.declared.range.Range.{Range}
use Rattle.vk_types.specs.declared.message.Placed.{Placed}
use Rattle.vk_types.specs.Effects.{Meaning}
use Rattle.base_lemmas.proofs.Lists.{all_back}
use Rattle.core_model.specs.Script.{Turn, Item, Script}
use Rattle.core_model.specs.CoreState.{Page, Owner, Unmade, Spare}
use Rattle.core_model.specs.CoreState.{Pool, Core, finished_count}
use Rattle.core_model.specs.OtherParts.{is_among}
use Rattle.core_model.specs.Readings.{Reading}
use Rattle.core_model.specs.Placing.{PageChoice, Staged, Stages, On_newest, On_spare, On_new}
use Rattle.core_model.specs.Adding.{with_turn, placed_at, staged_range}
use Rattle.core_model.specs.Owners.{is_block}
use Rattle.core_model.specs.TakingPosts.{TakesPosts, with_post, with_fence}
use Rattle.core_model.specs.AppActs.{handed_over}
use Rattle.core_model.specs.Playing.{HasBlock}
use Rattle.core_model.specs.CoreStep.{Event, App, Cs, Pipe, Submit, Accept, Run, Complete, Finish, Come_home}
use Rattle.core_model.specs.CoreStep.{is_of_app, Step}
use Rattle.core_model.specs.Lawful.{IsLawful}
use Rattle.core_model.specs.Invariant.{handed}
use Rattle.core_model.specs.Marked.{all_messages}
use Rattle.core_model.specs.Kept.{Kept}
use Rattle.core_model.specs.Succession.{takes, stages_in, is_staged_in, staged_range_of, staged_ranges}
use Rattle.core_model.specs.Spine.{has_place, holds_block, TakesUnheld}
use Rattle.core_model.proofs.Steps.Binding.{or_left, or_right}
use Rattle.core_model.proofs.Steps.Giving.{stocked, vacant}
use Rattle.core_model.proofs.Blocks.BlockSorts.{IsUnmade}
use Rattle.core_model.proofs.Blocks.MarkedBlocks.{ends_in, same_messages}
use Rattle.core_model.proofs.Blocks.MarkedPlaces.{takes_more, stages_more}
use Rattle.core_model.proofs.Messages.Placements.{places_of, places_of_append}
use Rattle.core_model.proofs.Messages.PlacedPages.{TopRight}
use Rattle.core_model.proofs.Messages.PlacedLines.{PlacedCore, placed_kinds}
use Rattle.core_model.proofs.Messages.ItemResults.{Placement, Nowhere, Bound_alone, Taken_new, Taken_for, Given_up}
use Rattle.core_model.proofs.Messages.ItemResults.{Staged_there}
use Rattle.core_model.proofs.Messages.ItemCases.{result_of, result_placed}
use Rattle.core_model.proofs.Messages.Scenes.{Kinds, scene, other_scene, posts_scene, fence_scene, handed_scene}
use Rattle.core_model.proofs.Messages.UnheldPlaces.{fewer_hold}
use Rattle.core_model.proofs.Messages.UnheldBlocks.{vacant_unheld, unmade_unheld, spare_unheld}

pub record Unheld (core : Core) : Type 0 where
  pub placed : PlacedCore core
  pub unheld : TakesUnheld (finished_count core) (all_messages core)

more_done : (n m : ℕ) (pss qss : List (List Placed)) → qss ≡ pss → n ≤ m → TakesUnheld n pss → TakesUnheld m qss
more_done n m pss qss e l h front here back split b has =
    fewer_hold b n m front false l (h front here back (sym e ∙ split) b has)

-- Steps -------------------------------------------------------------------------------------------------------------

other_done : (meaning : Meaning) (reading : Reading) (script : Script) (old : Core) (e : Event) (new : Core)
    → is_of_app e ≡ false → Step meaning reading script old e new → finished_count old ≤ finished_count new
other_done meaning reading script old (App posts) new h p = absurd (cc h)
other_done meaning reading script old Cs new h p = subst (λ c. finished_count old ≤ finished_count c) (sym p.4)
    (omega arith)
other_done meaning reading script old (Pipe j) new h p = subst (λ c. finished_count old ≤ finished_count c) (sym p.2)
    (omega arith)
other_done meaning reading script old Submit new h p = subst (λ c. finished_count old ≤ finished_count c) (sym p.5)
    (omega arith)
other_done meaning reading script old Accept new h p = subst (λ c. finished_count old ≤ finished_count c) (sym p.4)
    (omega arith)
other_done meaning reading script old (Run j) new h p = subst (λ c. finished_count old ≤ finished_count c) (sym p.10)
    (omega arith)
other_done meaning reading script old Complete new h p = subst (λ c. finished_count old ≤ finished_count c) (sym p.5)
    (omega arith)
other_done meaning reading script old Finish new h p =
    let l = length-append old.posts (p.0 ∷ []) in
    subst (λ c. finished_count old ≤ finished_count c) (sym p.4) (omega (arith, l))
other_done meaning reading script old (Come_home block place) new h p =
    subst (λ c. finished_count old ≤ finished_count c) (sym p.6) (omega arith)

posts_done : (n : ℕ) (old mid : Core) → TakesPosts n old mid → finished_count mid ≡ finished_count old
posts_done zero old mid h = ap finished_count h
posts_done (suc n) old mid h =
    let l = length-append old.taken (h.0.segment ∷ []) in
    let m : length old.posts ≡ suc (length h.1) = ap length h.2 in
    let one : finished_count (with_post h.0 h.1 old) ≡ finished_count old = omega (arith, l, m) in
    posts_done n (with_post h.0 h.1 old) mid h.3 ∙ one

fence_done : (n : ℕ) (core : Core) → finished_count (with_fence n core) ≡ finished_count core
fence_done zero core = refl
fence_done (suc n) core = refl

same_done : (old new : Core) → scene new ≡ scene old → finished_count old ≤ finished_count new
    → TakesUnheld (finished_count old) (all_messages old) → TakesUnheld (finished_count new) (all_messages new)
same_done old new e l h =
    more_done (finished_count old) (finished_count new) (all_messages old) (all_messages new)
    (same_messages old new e) l h

-- one place more
module _ (done : ℕ) (pss : List (List Placed)) (ps : List Placed) (p : Placed) where
  pub place_more : TakesUnheld done (pss ++ ps ∷ [])
      → ((b : ℕ) → (is_block p.block b || is_staged_in b p.staged) ≡ true → (has_place b ps ≡ true)
      ⊎ (holds_block done pss b ≡ false))
      → TakesUnheld done (pss ++ (ps ++ p ∷ []) ∷ [])
  place_more h now front here back e b has =
      elim (ends_in pss (ps ++ p ∷ []) front here back e) [
        | inl w ↦
            let there : (has_place b ps ≡ true) ⊎ (holds_block done pss b ≡ false) = split b
            (subst (λ l. has_place b l ≡ true) w.1 has) in
            elim there [
              | inl t ↦ ap (λ l. holds_block done l b) w.0 ∙ h pss ps [] refl b t
              | inr n ↦ ap (λ l. holds_block done l b) w.0 ∙ n
            ]
        | inr w ↦ h front here (w.0 ++ ps ∷ []) (ap (λ l. l ++ ps ∷ []) w.1
            ∙ append_assoc front (here ∷ w.0) (ps ∷ [])) b has
      ]
    where
      split : (b : ℕ) → has_place b (ps ++ p ∷ []) ≡ true
          → (has_place b ps ≡ true) ⊎ (holds_block done pss b ≡ false)
      split b has =
          elim (or_cases (takes b (ps ++ p ∷ [])) (stages_in b (ps ++ p ∷ [])) has) [
            | inl t ↦ elim (or_cases (takes b ps) (is_block p.block b) (sym (takes_more b ps p) ∙ t)) [
              | inl x ↦ inl (or_left (takes b ps) (stages_in b ps) x)
              | inr x ↦ now b (or_left (is_block p.block b) (is_staged_in b p.staged) x)
            ]
            | inr t ↦ elim (or_cases (stages_in b ps) (is_staged_in b p.staged) (sym (stages_more b ps p) ∙ t)) [
              | inl x ↦ inl (or_right (takes b ps) (stages_in b ps) x)
              | inr x ↦ now b (or_right (is_block p.block b) (is_staged_in b p.staged) x)
            ]
          ]

module _ (meaning : Meaning) (reading : Reading) (script : Script) (lawful : IsLawful meaning script) (old : Core)
    (t : Turn) (turns : List Turn) (k : Kept meaning reading script old) (h : PlacedCore old) where
  abbrev pub HasNow : Placed → Type 0
  HasNow p = (b : ℕ) → (is_block p.block b || is_staged_in b p.staged) ≡ true
      → (has_place b old.open_chunk.placed ≡ true)
      ⊎ (holds_block (finished_count old) (places_of (handed old)) b ≡ false)

  quiet : (p : Placed) → p.block ≡ None → p.staged ≡ None → HasNow p
  quiet p n m b e =
      let z : false ≡ true = sym (λ i. is_block (n i) b || is_staged_in b (m i)) ∙ e in
      absurd (cc z)

  taken : (call item buffer block : ℕ) (mark : Option ℕ) (mid : Core)
      → HasBlock reading script buffer block (with_turn t turns old) mid
      → HasNow (placed_at call item (Some block) mark None)
  taken call item buffer block mark mid has b e =
      elim (or_cases (b == block) false e) [
        | inl x ↦ inr (
            ap (holds_block (finished_count old) (places_of (handed old))) (eqb-true b block x)
            ∙ vacant_unheld meaning reading script old k h block
            (vacant reading script buffer block (with_turn t turns old) mid has lawful.classes
            (stocked old k.beside.places)))
        | inr x ↦ absurd (cc x)
      ]

  among_staged : (b : ℕ) (ps : List Placed) → is_among b (map (λ r. r.block) (staged_ranges ps)) ≡ true
      → stages_in b ps ≡ true
  among_staged b [] e = absurd (cc e)
  among_staged b (q ∷ ps) e = at (among_staged b ps) q.staged refl
    where
      at : (is_among b (map (λ r. r.block) (staged_ranges ps)) ≡ true → stages_in b ps ≡ true)
          → (o : Option Range) → q.staged ≡ o → stages_in b (q ∷ ps) ≡ true
      at rec None f =
          or_right (is_staged_in b q.staged) (stages_in b ps)
          (rec (ap (λ o. is_among b (map (λ r. r.block) (staged_range_of o ++ staged_ranges ps))) (sym f) ∙ e))
      at rec (Some r) f =
          elim (or_cases (r.block == b) (is_among b (map (λ r. r.block) (staged_ranges ps)))
          (ap (λ o. is_among b (map (λ r. r.block) (staged_range_of o ++ staged_ranges ps))) (sym f) ∙ e)) [
            | inl x ↦ or_left (is_staged_in b q.staged) (stages_in b ps) (ap (is_staged_in b) f ∙ x)
            | inr x ↦ or_right (is_staged_in b q.staged) (stages_in b ps) (rec x)
          ]

  staged : (call item len : ℕ) (g : Staged) (pool : Pool) (choice : PageChoice)
      → Stages choice len g old.pool pool → HasNow (placed_at call item None None (Some (staged_range g len)))
  staged call item len g pool choice (On_newest _ _ n e fits) b x =
      let top = subst (λ n. TopRight n old.open_chunk.pages old.open_chunk.placed) e h.top in
      inl (or_right (takes b old.open_chunk.placed) (stages_in b old.open_chunk.placed)
      (subst (λ b. stages_in b old.open_chunk.placed ≡ true) (eqb-true n.page.block b x)
      (among_staged n.page.block old.open_chunk.placed top.0)))
  staged call item len g pool choice (On_spare _ _ front q back size e long none) b x =
      let is : AllByRecursion (λ p. old.owner p.block ≡ Spare) (q ∷ back) =
      all_back (λ p. old.owner p.block ≡ Spare) front (q ∷ back)
      (subst (AllByRecursion (λ p. old.owner p.block ≡ Spare)) e k.beside.places.spare) in
      inr (spare_unheld meaning reading script old k h b (ap old.owner (sym (eqb-true q.block b x)) ∙ is.0))
  staged call item len g pool choice (On_new _ _ none) b x =
      let unmade : old.owner b ≡ Unmade =
      ap old.owner (sym (eqb-true old.pool.next b x)) ∙ k.beside.places.fresh old.pool.next (omega arith) in
      inr (unmade_unheld meaning reading script old k h b (subst IsUnmade (sym unmade) tt))

  pub item_has : (p : Placed) (own : ℕ → Owner) (pages : List Page) (pool : Pool)
      → Placement reading script (with_turn t turns old) p own pages pool → HasNow p
  item_has p own pages pool (Nowhere call item) = quiet p refl refl
  item_has p own pages pool (Bound_alone call item rs) = quiet p refl refl
  item_has p own pages pool (Taken_new call item buffer block since mid has) = taken call item buffer block None mid has
  item_has p own pages pool (Taken_for call item buffer block since mid has) =
      taken call item buffer block (old.blocks buffer) mid has
  item_has p own pages pool (Given_up call item buffer) = quiet p refl refl
  item_has p own pages pool (Staged_there call item len g _ choice rs s some) = staged call item len g pool choice s

pub unheld_kinds : (meaning : Meaning) (reading : Reading) (script : Script) → IsLawful meaning script
    → Kinds meaning reading script Unheld
unheld_kinds meaning reading script lawful =
    let s = placed_kinds meaning reading script lawful in
    record {
      started = record {
        placed = s.started;
        unheld = λ front here back e b has. absurd (first front here back e b has);
      };
      others = λ old e new n p k h. record {
        placed = s.others old e new n p k h.placed;
        unheld = same_done old new (other_scene meaning reading script old e new n p)
            (other_done meaning reading script old e new n p) h.unheld;
      };
      posts = λ n old mid p k h.
          let done = fence_done n mid ∙ posts_done n old mid p in
          record {
            placed = s.posts n old mid p k h.placed;
            unheld = same_done old (with_fence n mid) (fence_scene n mid ∙ posts_scene n old mid p)
                (omega (arith, done)) h.unheld;
          };
      hands = λ old due k h.
          let line : all_messages (handed_over old) ≡ all_messages old ++ [] ∷ [] =
          ap (λ v. places_of v.handed ++ v.open_chunk.placed ∷ []) (handed_scene old)
          ∙ ap (λ l. l ++ [] ∷ []) (places_of_append (handed old) (old.open_chunk ∷ [])) in
          record {
            placed = s.hands old due k h.placed;
            unheld = λ front here back e b has.
                elim (ends_in (all_messages old) [] front here back (sym line ∙ e)) [
                  | inl w ↦ absurd (let z : false ≡ true = ap (has_place b) (sym w.1) ∙ has in cc z)
                  | inr w ↦ h.unheld front here w.0 w.1 b has
                ];
          };
      turns = λ old t turns n e k h. record { placed = s.turns old t turns n e k h.placed; unheld = h.unheld };
      reads = λ core call r h. record { placed = s.reads core call r h.placed; unheld = h.unheld };
      says = λ core said h. record { placed = s.says core said h.placed; unheld = h.unheld };
      ends = λ core h. record { placed = s.ends core h.placed; unheld = h.unheld };
      items = λ old call item ends play bound turns new e due n k h.
          let t = Item call item ends play bound in
          let x = result_of reading script call item play bound (with_turn t turns old) new n in
          record {
            placed = s.items old call item ends play bound turns new e due n k h.placed;
            unheld = place_more (finished_count old) (places_of (handed old)) old.open_chunk.placed x.placed h.unheld
                (item_has meaning reading script lawful old t turns k h.placed x.placed x.owner x.pages x.pool
                (result_placed reading script call item play bound (with_turn t turns old) new n));
          };
    }
  where
    first : (front : List (List Placed)) (here : List Placed) (back : List (List Placed))
        → [] ∷ [] ≡ front ++ here ∷ back
        → (b : ℕ) → has_place b here ≡ true → ⊥
    first [] here back e b has =
        let same : [] ≡ here = cc e in
        let z : false ≡ true = ap (has_place b) same ∙ has in
        cc z
    first (f ∷ []) here back e b has = cc e
    first (f ∷ g ∷ front) here back e b has = cc e
