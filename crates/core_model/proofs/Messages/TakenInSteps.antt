-- What an App step takes: a block of no live buffer, and a block or page that no command touches which is not finished.
use Rattle.std.proofs.Common.{◌≡◌, ℕ, zero, suc, false, List, [], ◌∷◌, ◌++◌, length, refl, sym, ap, ◌∙◌}
use Rattle.std.proofs.Common.{subst, ◌⊎◌, inl, inr, Option, Some, None, arith, length-append}
use Rattle.dx_types.specs.declared.range.Range.{Range}
use Rattle.vk_types.specs.declared.message.Placed.{Placed}
use Rattle.vk_types.specs.Effects.{Meaning}
use Rattle.core_model.specs.Script.{Bytes, Count, Constant, Turn, Refused, Passed, Flushed, Asked, Item, Script}
use Rattle.core_model.specs.CoreState.{Page, Owner, Unmade, Home, Returning, Spare, Live, Retired, Paged, Dropped}
use Rattle.core_model.specs.CoreState.{Pool, Core}
use Rattle.core_model.specs.Renaming.{range_on}
use Rattle.core_model.specs.Readings.{Reading}
use Rattle.core_model.specs.Placing.{PageChoice, Staged, Stages, On_newest, On_spare, On_new, with_length}
use Rattle.core_model.specs.Adding.{with_turn}
use Rattle.core_model.specs.TakingPosts.{TakesPosts, with_post, with_fence}
use Rattle.core_model.specs.AppActs.{TakesTurn, Acts, with_read}
use Rattle.core_model.specs.Playing.{HasBlock}
use Rattle.core_model.specs.CoreStep.{App, Step}
use Rattle.core_model.specs.Stands.{may_touch, IsFree}
use Rattle.core_model.specs.Lawful.{IsLawful}
use Rattle.core_model.specs.Kept.{Kept}
use Rattle.core_model.proofs.Steps.Idle.{free_is_idle, made_is_idle}
use Rattle.core_model.proofs.Steps.Giving.{IsVacant, vacant_lives, stocked, vacant}
use Rattle.core_model.proofs.Runs.RunsKeepAll.{page_idle}
use Rattle.core_model.proofs.Runs.StepsKeepAll.{posts_kept}
use Rattle.core_model.proofs.Messages.ItemResults.{Placement, Nowhere, Bound_alone, Taken_new, Taken_for, Given_up}
use Rattle.core_model.proofs.Messages.ItemResults.{Staged_there}
use Rattle.core_model.proofs.Messages.ItemCases.{result_of, result_is, result_placed}

no_more : {A : Type 0} (xs : List A) (x : A) → xs ≡ xs ++ x ∷ [] → ⊥
no_more xs x e =
    let long : length xs ≡ length (xs ++ x ∷ []) = ap length e in
    let more = length-append xs (x ∷ []) in
    let z : ⊥ = omega (arith, long, more) in
    z

last_alike : {A : Type 0} (xs : List A) (x y : A) → xs ++ x ∷ [] ≡ xs ++ y ∷ [] → x ≡ y
last_alike [] x y e = cc e
last_alike (z ∷ xs) x y e = let rest : xs ++ x ∷ [] ≡ xs ++ y ∷ [] = cc e in last_alike xs x y rest

added_alike : (xs ys : List Page) (y : Page) → xs ++ ys ≡ xs ++ y ∷ [] → ys ≡ y ∷ []
added_alike [] ys y e = e
added_alike (x ∷ xs) ys y e = let rest : xs ++ ys ≡ xs ++ y ∷ [] = cc e in added_alike xs ys y rest

-- a step that takes a place more, or a page more, by one item
abbrev pub TakesPlace : Core → Placed → Core → Type 0
TakesPlace old p new = new.open_chunk.placed ≡ old.open_chunk.placed ++ p ∷ []

abbrev pub TakesPage : Core → Page → Core → Type 0
TakesPage old p new = new.open_chunk.pages ≡ old.open_chunk.pages ++ p ∷ []

module _ (meaning : Meaning) (reading : Reading) (script : Script) (lawful : IsLawful meaning script) where
  -- what is known of a block that is taken
  abbrev pub IsTakenRight : Core → ℕ → Type 0
  IsTakenRight old b = (may_touch old b ≡ false) × ((r : ℕ) → old.blocks r ≡ Some b → ⊥)

  module _ (old : Core) (k : Kept meaning reading script old) where
    vacant_right : (b : ℕ) → IsVacant (old.owner b) → IsTakenRight old b
    vacant_right b v = (
      by (old.owner b) refl v,
      λ r is. vacant_lives r (old.owner b) v (k.good.live r b is),
    )
      where
        by : (o : Owner) → old.owner b ≡ o → IsVacant o → may_touch old b ≡ false
        by Unmade e v = made_is_idle meaning reading script old k.good b e
        by (Home j) e v = free_is_idle meaning reading script old k.good b (subst IsFree (sym e) tt)
        by (Returning j) e v = absurd v
        by Spare e v = absurd v
        by (Live buffer since bound) e v = absurd v
        by (Retired j since bound) e v = absurd v
        by (Paged j since bound) e v = absurd v
        by Dropped e v = absurd v

    module _ (t : Turn) (turns : List Turn) where
      taken_right : (buffer block : ℕ) (mid : Core) → HasBlock reading script buffer block (with_turn t turns old) mid
          → (b : ℕ) → Some block ≡ Some b → IsTakenRight old b
      taken_right buffer block mid has b e =
          let same : block ≡ b = cc e in
          vacant_right b (subst (λ b. IsVacant (old.owner b)) same (vacant reading script buffer block
          (with_turn t turns old) mid has lawful.classes (stocked old k.beside.places)))

      item_right : (p : Placed) (own : ℕ → Owner) (pages : List Page) (pool : Pool)
          → Placement reading script (with_turn t turns old) p own pages pool
          → (b : ℕ) → p.block ≡ Some b → IsTakenRight old b
      item_right p own pages pool (Nowhere call item) b e = absurd (cc e)
      item_right p own pages pool (Bound_alone call item rs) b e = absurd (cc e)
      item_right p own pages pool (Taken_new call item buffer block since mid has) b e = taken_right buffer block mid
          has b e
      item_right p own pages pool (Taken_for call item buffer block since mid has) b e = taken_right buffer block mid
          has b e
      item_right p own pages pool (Given_up call item buffer) b e = absurd (cc e)
      item_right p own pages pool (Staged_there call item len s _ choice rs h some) b e = absurd (cc e)

      page_right : (p : Placed) (own : ℕ → Owner) (pages : List Page) (pool : Pool)
          → Placement reading script (with_turn t turns old) p own pages pool
          → (q : Page) → pages ≡ old.open_chunk.pages ++ q ∷ [] → may_touch old q.block ≡ false
      page_right p own pages pool (Nowhere call item) q e = absurd (no_more old.open_chunk.pages q e)
      page_right p own pages pool (Bound_alone call item rs) q e = absurd (no_more old.open_chunk.pages q e)
      page_right p own pages pool (Taken_new call item buffer block since mid has) q e =
          absurd (no_more old.open_chunk.pages q e)
      page_right p own pages pool (Taken_for call item buffer block since mid has) q e =
          absurd (no_more old.open_chunk.pages q e)
      page_right p own pages pool (Given_up call item buffer) q e = absurd (no_more old.open_chunk.pages q e)
      page_right p own pages pool (Staged_there call item len s _ choice rs h some) q e =
          let one = added_alike old.open_chunk.pages s.added q e in
          ap (may_touch old) (sym (at choice len s pool h q one))
          ∙ page_idle meaning reading script old choice len s pool k h q one
        where
          at : (choice : PageChoice) (len : ℕ) (s : Staged) (pool : Pool) → Stages choice len s old.pool pool
              → (q : Page) → s.added ≡ q ∷ [] → s.block ≡ q.block
          at choice len s pool (On_newest _ _ n is fits) q e = absurd (cc e)
          at choice len s pool (On_spare _ _ front x back size is long none) q e =
              let same : with_length x size ≡ q = cc e in ap (λ x. x.block) same
          at choice len s pool (On_new _ _ none) q e = let same = last_alike [] _ q e in ap (λ x. x.block) same

      -- a turn takes nothing, or what its item takes
      abbrev Took : Core → Type 0
      Took new = ((new.open_chunk.placed ≡ old.open_chunk.placed) × (new.open_chunk.pages ≡ old.open_chunk.pages))
          ⊎ ((p : Placed) × (own : ℕ → Owner) × (pages : List Page) × (pool : Pool)
          × Placement reading script (with_turn t turns old) p own pages pool
          × TakesPlace old p new × (new.open_chunk.pages ≡ pages))

      took_right : (new : Core) → Took new
          → ((p : Placed) → TakesPlace old p new → (b : ℕ) → p.block ≡ Some b → IsTakenRight old b)
          × ((q : Page) → TakesPage old q new → may_touch old q.block ≡ false)
      took_right new (inl same) = (
        λ p e b is. absurd (no_more old.open_chunk.placed p (sym same.0 ∙ e)),
        λ q e. absurd (no_more old.open_chunk.pages q (sym same.1 ∙ e)),
      )
      took_right new (inr x) = (
        λ p e b is.
            let same : x.0 ≡ p = last_alike old.open_chunk.placed x.0 p (sym x.5 ∙ e) in
            item_right x.0 x.1 x.2 x.3 x.4 b (ap (λ p. p.block) same ∙ is),
        λ q e. page_right x.0 x.1 x.2 x.3 x.4 q (sym x.6 ∙ e),
      )

    read_same : (call : ℕ) (r : Range) (used : Option ℕ) (core : Core)
        → ((with_read call r used core).open_chunk.placed ≡ core.open_chunk.placed)
        × ((with_read call r used core).open_chunk.pages ≡ core.open_chunk.pages)
    read_same call r None core = (refl, refl)
    read_same call r (Some used) core = (refl, refl)

    turn_took : (t : Turn) (turns : List Turn) (new : Core) → TakesTurn reading script t turns old new
        → Took t turns new
    turn_took (Refused call) turns new n = inl (ap (λ c. c.open_chunk.placed) n, ap (λ c. c.open_chunk.pages) n)
    turn_took (Passed call) turns new n = inl (ap (λ c. c.open_chunk.placed) n, ap (λ c. c.open_chunk.pages) n)
    turn_took (Flushed call) turns new n = inl (ap (λ c. c.open_chunk.placed) n, ap (λ c. c.open_chunk.pages) n)
    turn_took (Asked call (Bytes source) used may_pend) turns new (inl n) =
        let t = Asked call (Bytes source) used may_pend in
        let same = read_same call (range_on old.blocks source) used (with_turn t turns old) in
        inl (ap (λ c. c.open_chunk.placed) n.1 ∙ same.0, ap (λ c. c.open_chunk.pages) n.1 ∙ same.1)
    turn_took (Asked call (Count query) used may_pend) turns new (inl n) =
        inl (ap (λ c. c.open_chunk.placed) n.1, ap (λ c. c.open_chunk.pages) n.1)
    turn_took (Asked call (Constant value) used may_pend) turns new (inl n) =
        inl (ap (λ c. c.open_chunk.placed) n.1, ap (λ c. c.open_chunk.pages) n.1)
    turn_took (Asked call ask used may_pend) turns new (inr n) =
        inl (ap (λ c. c.open_chunk.placed) n.2, ap (λ c. c.open_chunk.pages) n.2)
    turn_took (Item call item ends play bound) turns new n =
        let taken = with_turn (Item call item ends play bound) turns old in
        let x = result_of reading script call item play bound taken new n in
        let is = result_is reading script call item play bound taken new n in
        inr (
          x.placed,
          x.owner,
          x.pages,
          x.pool,
          result_placed reading script call item play bound taken new n,
          ap (λ c. c.open_chunk.placed) is,
          ap (λ c. c.open_chunk.pages) is,
        )

    acts_right : (new : Core) → Acts reading script old new
        → ((p : Placed) → TakesPlace old p new → (b : ℕ) → p.block ≡ Some b → IsTakenRight old b)
        × ((q : Page) → TakesPage old q new → may_touch old q.block ≡ false)
    acts_right new a =
        elim a.1 [
          | inl h ↦ (
            λ p e b is. absurd (nothing old.open_chunk.placed p (sym (ap (λ c. c.open_chunk.placed) h.2) ∙ e)),
            λ q e. absurd (nothing old.open_chunk.pages q (sym (ap (λ c. c.open_chunk.pages) h.2) ∙ e)),
          )
          | inr b ↦ elim b [
            | inl h ↦ took_right h.1 h.2 new (turn_took h.1 h.2 new h.4)
            | inr h ↦ (
              λ p e b is. absurd (no_more old.open_chunk.placed p (sym (ap (λ c. c.open_chunk.placed) h.3) ∙ e)),
              λ q e. absurd (no_more old.open_chunk.pages q (sym (ap (λ c. c.open_chunk.pages) h.3) ∙ e)),
            )
          ]
        ]
      where
        nothing : {A : Type 0} (xs : List A) (x : A) → [] ≡ xs ++ x ∷ [] → ⊥
        nothing [] x e = cc e
        nothing (y ∷ xs) x e = cc e

  -- taking posts changes nothing that is said of blocks to take
  record SameBlocks (old new : Core) : Type 0 where
    placed : new.open_chunk.placed ≡ old.open_chunk.placed
    pages : new.open_chunk.pages ≡ old.open_chunk.pages
    blocks : new.blocks ≡ old.blocks
    touch : (b : ℕ) → may_touch new b ≡ may_touch old b

  posts_same : (n : ℕ) (old mid : Core) → TakesPosts n old mid → SameBlocks old mid
  posts_same zero old mid h = record {
    placed = ap (λ c. c.open_chunk.placed) h;
    pages = ap (λ c. c.open_chunk.pages) h;
    blocks = ap (λ c. c.blocks) h;
    touch = λ b. ap (λ c. may_touch c b) h;
  }
  posts_same (suc n) old mid h =
      let s = posts_same n (with_post h.0 h.1 old) mid h.3 in
      record { placed = s.placed; pages = s.pages; blocks = s.blocks; touch = s.touch }

  fence_same : (n : ℕ) (core : Core) → SameBlocks core (with_fence n core)
  fence_same zero core = record { placed = refl; pages = refl; blocks = refl; touch = λ b. refl }
  fence_same (suc n) core = record { placed = refl; pages = refl; blocks = refl; touch = λ b. refl }

  pub step_right : (old : Core) (n : ℕ) (new : Core) → Kept meaning reading script old
      → Step meaning reading script old (App n) new
      → ((p : Placed) → TakesPlace old p new → (b : ℕ) → p.block ≡ Some b → IsTakenRight old b)
      × ((q : Page) → TakesPage old q new → may_touch old q.block ≡ false)
  step_right old n new k s =
      let mid = with_fence n s.2 in
      let a = posts_same n old s.2 s.3 in
      let f = fence_same n s.2 in
      let placed : mid.open_chunk.placed ≡ old.open_chunk.placed = f.placed ∙ a.placed in
      let pages : mid.open_chunk.pages ≡ old.open_chunk.pages = f.pages ∙ a.pages in
      let blocks : mid.blocks ≡ old.blocks = f.blocks ∙ a.blocks in
      elim s.4 [
        | inl acts ↦
            let r = acts_right mid (posts_kept meaning reading script n old s.2 s.3 k) new acts in (
              λ p e b is.
                  let x = r.0 p (e ∙ ap (λ l. l ++ p ∷ []) (sym placed)) b is in
                  (sym (f.touch b ∙ a.touch b) ∙ x.0, λ r live. x.1 r (ap (λ m. m r) blocks ∙ live)),
              λ q e.
                  sym (f.touch q.block ∙ a.touch q.block) ∙ r.1 q (e ∙ ap (λ l. l ++ q ∷ []) (sym pages)),
            )
        | inr h ↦ (
          λ p e b is. absurd (no_more old.open_chunk.placed p (sym (ap (λ c. c.open_chunk.placed) h.2 ∙ placed) ∙ e)),
          λ q e. absurd (no_more old.open_chunk.pages q (sym (ap (λ c. c.open_chunk.pages) h.2 ∙ pages) ∙ e)),
        )
      ]
