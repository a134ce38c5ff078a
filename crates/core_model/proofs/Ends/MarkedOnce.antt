-- No chunk marks a block twice: a block that the open chunk gave up is no buffer's until it came home.
use Rattle.std.proofs.Common.{◌≡◌, ℕ, suc, true, List, [], ◌∷◌, ◌++◌, length, map, refl, sym, ap, ◌∙◌, subst, Option}
use Rattle.std.proofs.Common.{Some, None, arith, append-nil}
use Rattle.std.specs.List.{AllByRecursion}
use Rattle.std.proofs.lemmas.Bool.{eq-eqb}
use Rattle.vk_types.specs.declared.message.Placed.{Placed}
use Rattle.base_lemmas.specs.Lists.{Pairwise}
use Rattle.vk_types.specs.Effects.{Meaning}
use Rattle.base_lemmas.proofs.Lists.{all_append, all_front, all_back}
use Rattle.core_model.specs.Script.{Item, Script}
use Rattle.core_model.specs.CoreState.{Owner, Unmade, Home, Returning, Spare, Live, Retired, Paged, Dropped, Page}
use Rattle.core_model.specs.CoreState.{Pool, Core, somes, open_number}
use Rattle.core_model.specs.Readings.{Reading}
use Rattle.core_model.specs.Owners.{is_block}
use Rattle.core_model.specs.Adding.{with_turn}
use Rattle.core_model.specs.TakingPosts.{with_fence}
use Rattle.core_model.specs.AppActs.{handed_over}
use Rattle.core_model.specs.Lawful.{IsLawful}
use Rattle.core_model.specs.Invariant.{IsLive, handed}
use Rattle.core_model.specs.Kept.{Kept}
use Rattle.core_model.specs.Marked.{all_messages}
use Rattle.core_model.proofs.Steps.Binding.{or_left, or_right}
use Rattle.core_model.proofs.Messages.Placements.{places_of, length_places, places_of_append}
use Rattle.core_model.proofs.Messages.ItemResults.{Placement, Nowhere, Bound_alone, Taken_new, Taken_for, Given_up}
use Rattle.core_model.proofs.Messages.ItemResults.{Staged_there}
use Rattle.core_model.proofs.Messages.ItemCases.{result_of, result_placed}
use Rattle.core_model.proofs.Messages.ListedBatches.{handed_long}
use Rattle.core_model.proofs.Messages.Scenes.{Kinds, other_scene, posts_scene, fence_scene, handed_scene}
use Rattle.core_model.proofs.Blocks.MarkedBlocks.{same_messages}
use Rattle.core_model.proofs.Blocks.HeldMarks.{IsGivenUp, marks_in, Held, held_kinds}

abbrev pub Differs : ℕ → ℕ → Type 0
Differs a b = a ≡ b → ⊥

-- the marks of places
abbrev pub marks_at : List Placed → List ℕ
marks_at ps = somes (map (λ p. p.mark) ps)

abbrev pub Once : Core → Type 0
Once core = AllByRecursion (λ ps. Pairwise Differs (marks_at ps)) (all_messages core)

marks_last : (ps : List Placed) (p : Placed) → marks_at (ps ++ p ∷ []) ≡ marks_at ps ++ somes (p.mark ∷ [])
marks_last [] p = refl
marks_last (q ∷ ps) p = by q.mark (marks_last ps p)
  where
    by : (o : Option ℕ) → marks_at (ps ++ p ∷ []) ≡ marks_at ps ++ somes (p.mark ∷ [])
        → somes (o ∷ map (λ p. p.mark) (ps ++ p ∷ [])) ≡ somes (o ∷ map (λ p. p.mark) ps) ++ somes (p.mark ∷ [])
    by None e = e
    by (Some n) e = ap (λ l. n ∷ l) e

-- a mark more, which is none of those before it
pair_last : (xs : List ℕ) (x : ℕ) → Pairwise Differs xs → AllByRecursion (λ y. y ≡ x → ⊥) xs
    → Pairwise Differs (xs ++ x ∷ [])
pair_last [] x h k = (tt, tt)
pair_last (y ∷ ys) x h k = (all_append (Differs y) ys (x ∷ []) h.0 (k.0, tt), pair_last ys x h.1 k.1)

-- each mark of places is marked there
none_marked : (b : ℕ) (ps : List Placed) → (marks_in b ps ≡ true → ⊥) → AllByRecursion (λ y. y ≡ b → ⊥) (marks_at ps)
none_marked b [] h = tt
none_marked b (p ∷ ps) h = by p.mark refl (none_marked b ps (λ k. h (or_right (is_block p.mark b) (marks_in b ps) k)))
  where
    by : (o : Option ℕ) → p.mark ≡ o → AllByRecursion (λ y. y ≡ b → ⊥) (marks_at ps)
        → AllByRecursion (λ y. y ≡ b → ⊥) (somes (o ∷ map (λ p. p.mark) ps))
    by None e r = r
    by (Some n) e r = (
      (λ same. h (or_left (is_block p.mark b) (marks_in b ps) (ap (λ o. is_block o b) e
          ∙ eq-eqb b n (sym same)))),
      r,
    )

live_given : (r j : ℕ) (o : Owner) → IsLive r o → IsGivenUp j o → ⊥
live_given r j Unmade l g = g
live_given r j (Home k) l g = g
live_given r j (Returning k) l g = g
live_given r j Spare l g = g
live_given r j (Live buffer since bound) l g = g
live_given r j (Retired k since bound) l g = l
live_given r j (Paged k since bound) l g = g
live_given r j Dropped l g = g

-- what an item gives up is a live buffer's block
gives_live : (reading : Reading) (script : Script) (old : Core) (p : Placed) (own : ℕ
    → Owner) (pages : List Page) (pool : Pool) → Placement reading script old p own pages pool
    → (b : ℕ) → p.mark ≡ Some b → (r : ℕ) × (old.blocks r ≡ Some b)
gives_live reading script old p own pages pool (Nowhere call item) b e = absurd (cc e)
gives_live reading script old p own pages pool (Bound_alone call item rs) b e = absurd (cc e)
gives_live reading script old p own pages pool (Taken_new call item buffer block since mid has) b e = absurd (cc e)
gives_live reading script old p own pages pool (Taken_for call item buffer block since mid has) b e = (buffer, e)
gives_live reading script old p own pages pool (Given_up call item buffer) b e = (buffer, e)
gives_live reading script old p own pages pool (Staged_there call item len s _ choice rs st some) b e = absurd (cc e)

module _ (meaning : Meaning) (reading : Reading) (script : Script) (old : Core)
    (k : Kept meaning reading script old) (held : Held old) where
  -- the open chunk did not mark a buffer's block
  not_marked : (r b : ℕ) → old.blocks r ≡ Some b → marks_in b old.open_chunk.placed ≡ true → ⊥
  not_marked r b is m =
      let number : suc (length (places_of (handed old))) ≡ open_number old = let a = length_places (handed old) in
      let c = handed_long old in omega (arith, a, c) in
      let given = held b (open_number old) (places_of (handed old), old.open_chunk.placed, [], refl, number, m)
      (omega arith) in
      live_given r (open_number old) (old.owner b) (k.good.live r b is) given

  item_once : (p : Placed) → ((b : ℕ) → p.mark ≡ Some b → (r : ℕ) × (old.blocks r ≡ Some b)) → Once old
      → AllByRecursion (λ ps. Pairwise Differs (marks_at ps))
      (places_of (handed old) ++ (old.open_chunk.placed ++ p ∷ []) ∷ [])
  item_once p gives h =
      let P : List Placed → Type 0 = λ ps. Pairwise Differs (marks_at ps) in
      let was = (all_back P (places_of (handed old)) (old.open_chunk.placed ∷ []) h).0 in
      all_append P (places_of (handed old)) ((old.open_chunk.placed ++ p ∷ []) ∷ [])
      (all_front P (places_of (handed old)) (old.open_chunk.placed ∷ []) h)
      (subst (Pairwise Differs) (sym (marks_last old.open_chunk.placed p)) (by p.mark refl was), tt)
    where
      by : (o : Option ℕ) → p.mark ≡ o → Pairwise Differs (marks_at old.open_chunk.placed)
          → Pairwise Differs (marks_at old.open_chunk.placed ++ somes (o ∷ []))
      by None e w = subst (Pairwise Differs) (sym (append-nil (marks_at old.open_chunk.placed))) w
      by (Some b) e w = pair_last (marks_at old.open_chunk.placed) b w
          (none_marked b old.open_chunk.placed (λ m. let g = gives b e in not_marked g.0 b g.1 m))

abbrev pub HeldOnce : Core → Type 0
HeldOnce core = Held core × Once core

once_by : (old new : Core) → all_messages new ≡ all_messages old → Once old → Once new
once_by old new e h = subst (AllByRecursion (λ ps. Pairwise Differs (marks_at ps))) (sym e) h

pub once_kinds : (meaning : Meaning) (reading : Reading) (script : Script) → IsLawful meaning script
    → Kinds meaning reading script HeldOnce
once_kinds meaning reading script lawful =
    let held = held_kinds meaning reading script lawful in
    record {
      started = (held.started, (tt, tt));
      others = λ old e new n p k h. (
        held.others old e new n p k h.0,
        once_by old new (same_messages old new (other_scene meaning reading script old e new n p)) h.1,
      );
      posts = λ n old mid p k h. (
        held.posts n old mid p k h.0,
        once_by old (with_fence n mid) (same_messages old (with_fence n mid) (fence_scene n mid
            ∙ posts_scene n old mid p)) h.1,
      );
      hands = λ old due k h. (
        held.hands old due k h.0,
        (let line : all_messages (handed_over old) ≡ all_messages old ++ [] ∷ [] =
            ap (λ v. places_of v.handed ++ v.open_chunk.placed ∷ []) (handed_scene old)
            ∙ ap (λ l. l ++ [] ∷ []) (places_of_append (handed old) (old.open_chunk ∷ [])) in
            subst (AllByRecursion (λ ps. Pairwise Differs (marks_at ps))) (sym line)
            (all_append (λ ps. Pairwise Differs (marks_at ps)) (all_messages old) ([] ∷ []) h.1 (tt, tt))),
      );
      turns = λ old t turns n e k h. (held.turns old t turns n e k h.0, h.1);
      reads = λ core call r h. (held.reads core call r h.0, h.1);
      says = λ core said h. (held.says core said h.0, h.1);
      ends = λ core h. (held.ends core h.0, h.1);
      items = λ old call item ends play bound turns new e due n k h.
          let t = Item call item ends play bound in
          let x = result_of reading script call item play bound (with_turn t turns old) new n in (
            held.items old call item ends play bound turns new e due n k h.0,
            item_once meaning reading script old k h.0 x.placed
                (gives_live reading script (with_turn t turns old) x.placed x.owner x.pages x.pool
                (result_placed reading script call item play bound (with_turn t turns old) new n)) h.1,
          );
    }
