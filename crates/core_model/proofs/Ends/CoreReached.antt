-- What holds of the core that is stepped, between its steps: beside the invariants, no block is on its way home.
use Rattle.std.proofs.Common.{◌≡◌, ℕ, zero, suc, Bool, true, false, cond, ◌||◌, ◌==◌, List, [], ◌∷◌, refl, sym, ap}
use Rattle.std.proofs.Common.{◌∙◌, subst, inl, inr, ◌⊎◌, Some, None}
use Rattle.std.proofs.lemmas.Bool.{cases_Bool, eqb-true, eq-eqb}
use Rattle.vk_types.specs.Effects.{Meaning}
use Rattle.dx_types.specs.declared.range.Range.{Range}
use Rattle.core_model.specs.Script.{Ask, Bytes, Count, Constant, Turn, Refused, Passed, Flushed, Asked, Item, Script}
use Rattle.core_model.specs.CoreState.{Page, Owner, Unmade, Home, Returning, Spare, Live, Retired, Paged, Dropped}
use Rattle.core_model.specs.CoreState.{has_class, Pool, Core, start, finished_count, taken_count, open_number, marks}
use Rattle.core_model.specs.Readings.{First_choices}
use Rattle.core_model.specs.Owners.{nothing_bound, is_block, bind_owner, retire_owner, retired, finish_owner}
use Rattle.core_model.specs.Owners.{return_owner}
use Rattle.core_model.specs.Adding.{page_owner, with_turn}
use Rattle.core_model.specs.AppActs.{TakesTurn, Acts, answer}
use Rattle.core_model.specs.TakingPosts.{TakesPosts, with_post, with_fence}
use Rattle.core_model.specs.CoreStep.{Event, App, Cs, Pipe, Submit, Accept, Run, Complete, Finish, Come_home, Step}
use Rattle.core_model.specs.CoreStep.{AllComeHome, CoreStep}
use Rattle.core_model.specs.OtherParts.{is_among}
use Rattle.core_model.specs.Succession.{only_class}
use Rattle.core_model.specs.Lawful.{IsLawful}
use Rattle.core_model.specs.Marked.{IsReturning}
use Rattle.core_model.proofs.Blocks.MarkedBlocks.{Sorts, sorts_kinds}
use Rattle.core_model.proofs.Blocks.HomeComing.{homes}
use Rattle.core_model.proofs.Messages.ItemResults.{Placement, Nowhere, Bound_alone, Taken_new, Taken_for, Given_up}
use Rattle.core_model.proofs.Messages.ItemResults.{Staged_there}
use Rattle.core_model.proofs.Messages.ItemCases.{result_of, result_is, result_placed}
use Rattle.core_model.proofs.Messages.Scenes.{scene, scene_kinds, step_keeps}
use Rattle.core_model.proofs.Runs.RunsKeepAll.{Holds, step_kept}
use Rattle.core_model.proofs.Runs.StepsKeepAll.{start_kept}
use Rattle.core_model.proofs.Queries.QueryMoves.{start_queries}
use Rattle.core_model.proofs.Blocks.ClassSteps.{start_classes}
use Rattle.core_model.proofs.Ends.Progress.{Progress, progress_kinds}
use Rattle.core_model.proofs.Ends.MarkedOnce.{HeldOnce, once_kinds}
use Rattle.core_model.proofs.Ends.NeededShaders.{AreNeeded, needed_kinds}

abbrev pub OnWay : Owner → Type 0
OnWay Unmade = ⊥
OnWay (Home k) = ⊥
OnWay (Returning k) = Unit {0}
OnWay Spare = ⊥
OnWay (Live buffer since bound) = ⊥
OnWay (Retired k since bound) = ⊥
OnWay (Paged k since bound) = ⊥
OnWay Dropped = ⊥

-- no block comes on its way that was not
abbrev NoMore : (ℕ → Owner) → (ℕ → Owner) → Type 0
NoMore old new = (b : ℕ) → OnWay (new b) → OnWay (old b)

bind_way : (rs : List Range) (b : ℕ) (o : Owner) → OnWay (bind_owner rs b o) → OnWay o
bind_way rs b Unmade h = h
bind_way rs b (Home k) h = h
bind_way rs b (Returning k) h = h
bind_way rs b Spare h = h
bind_way rs b (Live buffer since bound) h = h
bind_way rs b (Retired k since bound) h = h
bind_way rs b (Paged k since bound) h = h
bind_way rs b Dropped h = h

return_way : (n : ℕ) (o : Owner) → OnWay (return_owner n o) → OnWay o
return_way n Unmade h = h
return_way n (Home k) h = h
return_way n (Returning k) h = h
return_way n Spare h = h
return_way n (Live buffer since bound) h = h
return_way n (Retired k since bound) h = h
return_way n Dropped h = h
return_way n (Paged k since bound) h = by (k == n) h
  where
    by : (c : Bool) → OnWay (cond c Spare (Paged k since bound)) → ⊥
    by true h = h
    by false h = h

retire_way : (n : ℕ) (o : Owner) → OnWay (retire_owner n o) → OnWay o
retire_way n Unmade h = h
retire_way n (Home k) h = h
retire_way n (Returning k) h = h
retire_way n Spare h = h
retire_way n (Live buffer since bound) h = h
retire_way n (Retired k since bound) h = h
retire_way n (Paged k since bound) h = h
retire_way n Dropped h = h

retired_way : (mark : _) (n : ℕ) (owner : ℕ → Owner) → NoMore owner (retired mark n owner)
retired_way mark n owner b h = by (is_block mark b) h
  where
    by : (c : Bool) → OnWay (cond c (retire_owner n (owner b)) (owner b)) → OnWay (owner b)
    by true h = retire_way n (owner b) h
    by false h = h

updated_way : (block : ℕ) (x : Owner) (owner : ℕ → Owner) → (OnWay x → OnWay (owner block))
    → NoMore owner (λ b. cond (b == block) x (owner b))
updated_way block x owner f b h = by (b == block) refl h
  where
    by : (c : Bool) → (b == block) ≡ c → OnWay (cond c x (owner b)) → OnWay (owner b)
    by true e h = subst (λ b. OnWay (owner b)) (sym (eqb-true b block e)) (f h)
    by false e h = h

page_way : (chunk fence : ℕ) (ps : List Page) (o : Owner) → OnWay (page_owner chunk fence ps o) → OnWay o
page_way chunk fence [] o h = h
page_way chunk fence (p ∷ ps) o h = absurd h

item_way : (script : Script) (old : Core) (p : _) (own : ℕ → Owner) (pages : List Page) (pool : Pool)
    → Placement First_choices script old p own pages pool → NoMore old.owner own
item_way script old p own pages pool (Nowhere call item) b h = h
item_way script old p own pages pool (Bound_alone call item rs) b h = bind_way rs b (old.owner b) h
item_way script old p own pages pool (Taken_new call item buffer block since mid has) b h =
    updated_way block (Live buffer since nothing_bound) old.owner (λ z. absurd z) b h
item_way script old p own pages pool (Taken_for call item buffer block since mid has) b h =
    retired_way (old.blocks buffer) (open_number old) old.owner b
    (updated_way block (Live buffer since nothing_bound)
    (retired (old.blocks buffer) (open_number old) old.owner) (λ z. absurd z) b h)
item_way script old p own pages pool (Given_up call item buffer) b h =
    retired_way (old.blocks buffer) (open_number old) old.owner b h
item_way script old p own pages pool (Staged_there call item len s _ choice rs st some) b h =
    updated_way s.block (page_owner (open_number old) old.fence s.added (old.owner s.block)) old.owner
    (page_way (open_number old) old.fence s.added (old.owner s.block)) b (bind_way rs b _ h)

-- App ---------------------------------------------------------------------------------------------------------------

posts_way : (n : ℕ) (old mid : Core) → TakesPosts n old mid → NoMore old.owner mid.owner
posts_way zero old mid p b h = subst (λ c. OnWay (c.owner b)) p h
posts_way (suc n) old mid p b h = return_way (suc (taken_count old)) (old.owner b)
    (posts_way n (with_post p.0 p.1 old) mid p.3 b h)

fence_way : (n : ℕ) (core : Core) → (with_fence n core).owner ≡ core.owner
fence_way zero core = refl
fence_way (suc n) core = refl

answer_way : (call : ℕ) (ask : Ask) (used : _) (core : Core) → (answer call ask used core).owner ≡ core.owner
answer_way call (Bytes source) None core = refl
answer_way call (Bytes source) (Some used) core = refl
answer_way call (Count query) used core = refl
answer_way call (Constant value) used core = refl

module _ (meaning : Meaning) (script : Script) where
  turn_way : (old : Core) (t : Turn) (turns : List Turn) (new : Core)
      → TakesTurn First_choices script t turns old new → NoMore old.owner new.owner
  turn_way old (Refused call) turns new n b h = subst (λ c. OnWay (c.owner b)) n h
  turn_way old (Passed call) turns new n b h = subst (λ c. OnWay (c.owner b)) n h
  turn_way old (Flushed call) turns new n b h = subst (λ c. OnWay (c.owner b)) n h
  turn_way old (Asked call ask used may_pend) turns new (inl n) b h =
      subst (λ own. OnWay (own b)) (answer_way call ask used (with_turn (Asked call ask used may_pend) turns old))
      (subst (λ c. OnWay (c.owner b)) n.1 h)
  turn_way old (Asked call ask used may_pend) turns new (inr n) b h = subst (λ c. OnWay (c.owner b)) n.2 h
  turn_way old (Item call item ends play bound) turns new n b h =
      let t = Item call item ends play bound in
      let taken = with_turn t turns old in
      let x = result_of First_choices script call item play bound taken new n in
      item_way script taken x.placed x.owner x.pages x.pool (result_placed First_choices script call item play bound
      taken new n) b
      (subst (λ c. OnWay (c.owner b)) (result_is First_choices script call item play bound taken new n) h)

  act_way : (old new : Core) → Acts First_choices script old new → NoMore old.owner new.owner
  act_way old new a b h = elim a.1 [
    | inl x ↦ subst (λ c. OnWay (c.owner b)) x.2 h
    | inr x ↦ elim x [
      | inl y ↦ turn_way old y.1 y.2 new y.4 b h
      | inr y ↦ subst (λ c. OnWay (c.owner b)) y.3 h
    ]
  ]

  app_way : (n : ℕ) (old new : Core) → Step meaning First_choices script old (App n) new → NoMore old.owner new.owner
  app_way n old new p b h =
      posts_way n old p.2 p.3 b (subst (λ own. OnWay (own b)) (fence_way n p.2) (elim p.4 [
        | inl a ↦ act_way (with_fence n p.2) new a b h
        | inr a ↦ subst (λ c. OnWay (c.owner b)) a.2 h
      ]))

  -- Homes -----------------------------------------------------------------------------------------------------------

  -- blocks that come home are not on their way any more, and none comes on its way
  home_way : (bs : List ℕ) (old new : Core) → AllComeHome meaning script bs old new → (b : ℕ) → OnWay (new.owner b)
      → OnWay (old.owner b) × (is_among b (only_class bs) ≡ false)
  home_way [] old new h b w = (subst (λ c. OnWay (c.owner b)) h w, refl)
  home_way (c ∷ bs) old new (inl h) b w = let r = home_way bs old new h.1 b w in
      (r.0, ap (λ x. is_among b (cond x (c ∷ only_class bs) (only_class bs))) h.0 ∙ r.1)
  home_way (c ∷ bs) old new (inr h) b w =
      let r = home_way bs h.6 new h.8 b w in
      let now : OnWay (cond (b == c) (Home h.7.1) (old.owner b)) = subst (λ k. OnWay (k.owner b)) h.7.6 r.0 in
      by (b == c) refl r.1 now
    where
      by : (x : Bool) → (b == c) ≡ x → is_among b (only_class bs) ≡ false
          → OnWay (cond x (Home h.7.1) (old.owner b)) → OnWay (old.owner b)
          × (is_among b (only_class (c ∷ bs)) ≡ false)
      by true e n w = absurd w
      by false e n w =
          let other : (c == b) ≡ false = elim (cases_Bool (c == b)) [
            | inl t ↦ absurd (let z : true ≡ false = sym (eq-eqb b c (sym (eqb-true c b t)))
                ∙ e in cc z)
            | inr f ↦ f
          ] in (
            w,
            ap (λ x. is_among b (cond x (c ∷ only_class bs) (only_class bs))) h.0
                ∙ ap (λ x. x || is_among b (only_class bs)) other ∙ n,
          )

  finish_way : (n b : ℕ) (o : Owner) → OnWay (finish_owner n b o) → OnWay o ⊎ IsReturning n (finish_owner n b o)
  finish_way n b Unmade h = inl h
  finish_way n b (Home k) h = inl h
  finish_way n b (Returning k) h = inl h
  finish_way n b Spare h = inl h
  finish_way n b (Live buffer since bound) h = inl h
  finish_way n b (Paged k since bound) h = inl h
  finish_way n b Dropped h = inl h
  finish_way n b (Retired k since bound) h = by (k == n) refl (has_class b) h
    where
      by : (c : Bool) → (k == n) ≡ c → (d : Bool)
          → OnWay (cond c (cond d (Returning k) Dropped) (Retired k since bound)) → ⊥
          ⊎ IsReturning n (cond c (cond d (Returning k) Dropped) (Retired k since bound))
      by true e true h = inr (eqb-true k n e)
      by true e false h = absurd h
      by false e d h = absurd h

-- What holds --------------------------------------------------------------------------------------------------------

module _ (meaning : Meaning) (script : Script) (lawful : IsLawful meaning script) where
  -- by each step with the choices of the core
  pub record Based (core : Core) : Type 0 where
    pub holds : Holds meaning First_choices script lawful core
    pub progress : Progress core
    pub sorts : Sorts core
    pub held : HeldOnce core
    pub needed : AreNeeded (scene core)

  pub based_start : Based (start script)
  based_start = record {
    holds = (start_kept meaning First_choices script, start_queries meaning script, start_classes script);
    progress = (progress_kinds meaning First_choices script).started;
    sorts = (sorts_kinds meaning First_choices script lawful).started;
    held = (once_kinds meaning First_choices script lawful).started;
    needed = (needed_kinds meaning First_choices script lawful).started;
  }

  pub based_step : (old : Core) (e : Event) (new : Core) → Step meaning First_choices script old e new → Based old
      → Based new
  based_step old e new s b = record {
    holds = step_kept meaning First_choices script lawful old e new s b.holds;
    progress = step_keeps meaning First_choices script Progress (progress_kinds meaning First_choices script) old e
        new s b.holds.0 b.progress;
    sorts = step_keeps meaning First_choices script Sorts (sorts_kinds meaning First_choices script lawful) old e
        new s b.holds.0 b.sorts;
    held = step_keeps meaning First_choices script HeldOnce (once_kinds meaning First_choices script lawful) old e
        new s b.holds.0 b.held;
    needed = step_keeps meaning First_choices script (λ c. AreNeeded (scene c))
        (scene_kinds meaning First_choices script AreNeeded (needed_kinds meaning First_choices script lawful)) old
        e new s b.holds.0 b.needed;
  }

  based_home : (bs : List ℕ) (old new : Core) → AllComeHome meaning script bs old new → Based old → Based new
  based_home [] old new h b = subst Based (sym h) b
  based_home (c ∷ bs) old new (inl h) b = based_home bs old new h.1 b
  based_home (c ∷ bs) old new (inr h) b = based_home bs h.6 new h.8 (based_step old (Come_home c h.2) h.6 h.7 b)

  pub record Ready (core : Core) : Type 0 where
    pub based : Based core
    pub none_away : (b : ℕ) → OnWay (core.owner b) → ⊥

  pub ready_start : Ready (start script)
  ready_start = record { based = based_start; none_away = λ b h. h }

  -- a step that leaves nothing on its way
  plain_step : (old : Core) (e : Event) (new : Core) → Step meaning First_choices script old e new
      → NoMore old.owner new.owner → Ready old → Ready new
  plain_step old e new s way r = record {
    based = based_step old e new s r.based;
    none_away =
        λ b h. r.none_away b (way b h);
  }

  pub ready_step : (old : Core) (e : Event) (new : Core) → CoreStep meaning script old e new → Ready old → Ready new
  ready_step old (App n) new p r = plain_step old (App n) new p.1 (app_way meaning script n old new p.1) r
  ready_step old Cs new p r = plain_step old Cs new p.1 (λ b h. subst (λ c. OnWay (c.owner b)) p.1.4 h) r
  ready_step old (Pipe j) new p r = plain_step old (Pipe j) new p.1 (λ b h. subst (λ c. OnWay (c.owner b)) p.1.2 h) r
  ready_step old Submit new p r = plain_step old Submit new p.1 (λ b h. subst (λ c. OnWay (c.owner b)) p.1.5 h) r
  ready_step old Accept new p r = plain_step old Accept new p.1 (λ b h. subst (λ c. OnWay (c.owner b)) p.1.4 h) r
  ready_step old (Run j) new p r = plain_step old (Run j) new p.1 (λ b h. subst (λ c. OnWay (c.owner b)) p.1.10 h) r
  ready_step old Complete new p r = plain_step old Complete new p.1 (λ b h. subst (λ c. OnWay (c.owner b)) p.1.5 h) r
  ready_step old Finish new p r =
      let mid = p.1.0 in
      let s = p.1.1 in
      let m = p.1.2 in
      let n = suc (finished_count old) in
      record {
        based = based_home (marks m.segment) mid new p.1.5 (based_step old Finish mid s r.based);
        none_away = λ b h.
            let w = home_way meaning script (marks m.segment) mid new p.1.5 b h in
            elim (finish_way meaning script n b (old.owner b) (subst (λ c. OnWay (c.owner b)) s.4 w.0)) [
              | inl x ↦ r.none_away b x
              | inr x ↦
                  let back : IsReturning n (mid.owner b) = subst (λ c. IsReturning n (c.owner b)) (sym s.4) x in
                  let marked = (homes meaning First_choices script old m p.1.3 p.1.4 mid s r.based.holds.0
                  r.based.sorts r.based.held.0 b).0 back in
                  let z : true ≡ false = sym marked ∙ w.1 in cc z
            ];
      }
  ready_step old (Come_home block place) new p r = absurd p.1
