-- The invariant holds in every state that a run reaches, by any choices; and the blocks that App takes.
use Rattle.std.proofs.Common.{◌≡◌, ℕ, false, List, [], ◌∷◌, refl, sym, ap, ◌∙◌, subst, inl, inr, Some, arith, cond}
use Rattle.std.proofs.Common.{◌==◌, ◌<◌}
use Rattle.std.specs.List.{AllByRecursion}
use Rattle.std.proofs.lemmas.Bool.{cases_Bool, eqb-true}
use Rattle.vk_types.specs.Effects.{Meaning}
use Rattle.base_lemmas.proofs.Lists.{all_back}
use Rattle.core_model.specs.Script.{Ask, Bytes, Count, Constant, Turn, Refused, Passed, Flushed, Asked, Item, Script}
use Rattle.core_model.specs.Chunking.{is_due}
use Rattle.core_model.specs.CoreState.{Unmade, Spare, Page}
use Rattle.core_model.specs.CoreState.{Pool, Core, start, Said, Bytes_said, Value_said, Still_said, Refused_said}
use Rattle.core_model.specs.CoreState.{End_said}
use Rattle.core_model.specs.Readings.{Reading, Any_choices}
use Rattle.core_model.specs.TakingPosts.{with_fence}
use Rattle.core_model.specs.AppActs.{TakesTurn, Acts}
use Rattle.core_model.specs.CoreStep.{Event, App, Cs, Pipe, Submit, Accept, Run, Complete, Finish, Come_home}
use Rattle.core_model.specs.CoreStep.{is_of_app, Step, Chain}
use Rattle.core_model.specs.Placing.{PageChoice, Staged, Stages, On_newest, On_spare, On_new}
use Rattle.core_model.specs.Stands.{may_touch, IsFree}
use Rattle.core_model.specs.Lawful.{IsLawful}
use Rattle.core_model.specs.Invariant.{IsAsked, IsRight}
use Rattle.core_model.specs.Kept.{Kept}
use Rattle.core_model.specs.Queries.{QueriesRight}
use Rattle.core_model.specs.ClassBlocks.{ClassesRight, HasBlockFor}
use Rattle.core_model.proofs.Steps.Idle.{free_is_idle, made_is_idle}
use Rattle.core_model.proofs.Runs.StepsKeepAll.{posts_kept, hand_over_kept, others_kept, start_kept}
use Rattle.core_model.proofs.Runs.TurnsKeepAll.{plain_kept, constant_kept, end_kept}
use Rattle.core_model.proofs.Runs.ItemsKeepAll.{items_kept}
use Rattle.core_model.proofs.Steps.ReadingBack.{asked_bytes_kept}
use Rattle.core_model.proofs.Queries.QueryMoves.{start_queries, posts_queries, hand_over_queries, others_queries}
use Rattle.core_model.proofs.Queries.QueriesKept.{turn_queries, end_queries, count_kept}
use Rattle.core_model.proofs.Blocks.ClassSteps.{start_classes, posts_classes, hand_over_classes, end_classes}
use Rattle.core_model.proofs.Blocks.ClassSteps.{others_classes}
use Rattle.core_model.proofs.Blocks.ClassItems.{turn_classes}
use Rattle.core_model.proofs.Blocks.BlocksEnough.{block_enough}
use Rattle.core_model.proofs.Runs.Choices.{run_free}
use Rattle.core_model.specs.Runs.{IsRun, pending_in}

module _ (meaning : Meaning) (reading : Reading) (script : Script) (lawful : IsLawful meaning script) where
  -- the invariant, what holds of queries, and where the blocks of classes are
  abbrev pub Holds : Core → Type 0
  Holds core = Kept meaning reading script core × QueriesRight meaning script core × ClassesRight script core

  turn_kept : (old : Core) (t : Turn) (turns : List Turn) (new : Core) → old.future ≡ t ∷ turns
      → is_due script old.open_chunk.turns old.future ≡ false → TakesTurn reading script t turns old new
      → QueriesRight meaning script old → Kept meaning reading script old → Kept meaning reading script new
  turn_kept old (Refused call) turns new e due n q k = plain_kept meaning reading script old (Refused call) turns
      new refl e due n k
  turn_kept old (Passed call) turns new e due n q k = plain_kept meaning reading script old (Passed call) turns new
      refl e due n k
  turn_kept old (Flushed call) turns new e due n q k = plain_kept meaning reading script old (Flushed call) turns
      new refl e due n k
  turn_kept old (Asked call (Bytes source) used may_pend) turns new e due n q k =
      asked_bytes_kept meaning reading script lawful old call source used may_pend turns new e due n k
  turn_kept old (Asked call (Count query) used may_pend) turns new e due n q k =
      count_kept meaning reading script lawful old call query used may_pend turns new e due n q k
  turn_kept old (Asked call (Constant value) used may_pend) turns new e due n q k =
      constant_kept meaning reading script old call value used may_pend turns new e due n k
  turn_kept old (Item call item ends play bound) turns new e due n q k =
      items_kept meaning reading script lawful old call item ends play bound turns new e due n k

  acts_kept : (old new : Core) → Acts reading script old new → Holds old → Holds new
  acts_kept old new a k =
      elim a.1 [
        | inl h ↦ subst Holds (sym h.2) (
          hand_over_kept meaning reading script old h.0 h.1 k.0,
          hand_over_queries meaning script old k.1,
          hand_over_classes script old k.2,
        )
        | inr b ↦ elim b [
          | inl h ↦ let now = turn_kept old h.1 h.2 new h.3 h.0 h.4 k.1 k.0 in (
            now,
            turn_queries meaning reading script lawful old h.1 h.2 new h.3 h.0 h.4 k.0 now k.1,
            turn_classes meaning reading script lawful old h.1 h.2 new h.3 h.4 k.0 k.2,
          )
          | inr h ↦ subst Holds (sym h.3) (
            end_kept meaning reading script old k.0,
            end_queries meaning script old k.1,
            end_classes script old End_said k.2,
          )
        ]
      ]

  others_hold : (old : Core) (e : Event) (new : Core) → is_of_app e ≡ false → Step meaning reading script old e new
      → Holds old → Holds new
  others_hold old e new h p k = (
    others_kept meaning reading script old e new h p k.0,
    others_queries meaning reading script old e new h p k.0 k.1,
    others_classes meaning reading script old e new h p k.2,
  )

  -- each step keeps it
  pub step_kept : (old : Core) (e : Event) (new : Core) → Step meaning reading script old e new → Holds old → Holds new
  step_kept old (App n) new p k =
      let mid : Holds (with_fence n p.2) = (
        posts_kept meaning reading script n old p.2 p.3 k.0,
        posts_queries meaning reading script lawful n old p.2 p.3 k.0 k.1,
        posts_classes script n old p.2 p.3 k.2,
      )
      in
      elim p.4 [
        | inl a ↦ acts_kept (with_fence n p.2) new a mid
        | inr h ↦ subst Holds (sym h.2) mid
      ]
  step_kept old Cs new p k = others_hold old Cs new refl p k
  step_kept old (Pipe j) new p k = others_hold old (Pipe j) new refl p k
  step_kept old Submit new p k = others_hold old Submit new refl p k
  step_kept old Accept new p k = others_hold old Accept new refl p k
  step_kept old (Run j) new p k = others_hold old (Run j) new refl p k
  step_kept old Complete new p k = others_hold old Complete new refl p k
  step_kept old Finish new p k = others_hold old Finish new refl p k
  step_kept old (Come_home block place) new p k = others_hold old (Come_home block place) new refl p k

  pub chain_kept : (events : List Event) (old new : Core) → Chain meaning reading script old events new → Holds old
      → Holds new
  chain_kept [] old new h k = subst Holds (sym h) k
  chain_kept (e ∷ es) old new h k = chain_kept es h.0 new h.2 (step_kept old e h.0 h.1 k)

-- each state that a chain of steps reaches
reached : (meaning : Meaning) (reading : Reading) (script : Script) → IsLawful meaning script
    → (events : List Event) (new : Core)
    → Chain meaning reading script (start script) events new → Kept meaning reading script new
    × QueriesRight meaning script new × ClassesRight script new
reached meaning reading script lawful events new h = chain_kept meaning reading script lawful events (start script)
    new h (start_kept meaning reading script, start_queries meaning script, start_classes script)

pub reached_kept : (meaning : Meaning) (reading : Reading) (script : Script) → IsLawful meaning script
    → (events : List Event) (new : Core)
    → Chain meaning reading script (start script) events new → Kept meaning reading script new
reached_kept meaning reading script lawful events new h = (reached meaning reading script lawful events new h).0

pub reached_queries : (meaning : Meaning) (reading : Reading) (script : Script) → IsLawful meaning script
    → (events : List Event) (new : Core)
    → Chain meaning reading script (start script) events new → QueriesRight meaning script new
reached_queries meaning reading script lawful events new h = (reached meaning reading script lawful events new h).1

pub reached_classes : (meaning : Meaning) (reading : Reading) (script : Script) → IsLawful meaning script
    → (events : List Event) (new : Core)
    → Chain meaning reading script (start script) events new → ClassesRight script new
reached_classes meaning reading script lawful events new h = (reached meaning reading script lawful events new h).2

-- so App has a block, or one comes home
pub reached_blocks : (meaning : Meaning) (reading : Reading) (script : Script) → IsLawful meaning script
    → (events : List Event) (new : Core)
    → Chain meaning reading script (start script) events new → is_due script new.open_chunk.turns new.future ≡ false
    → (class : ℕ) → class < 8 → HasBlockFor new class
reached_blocks meaning reading script lawful events new h due class less =
    let r = reached meaning reading script lawful events new h in
    block_enough meaning reading script lawful new r.0 r.2 due class less

-- and the end of each run of the core that is stepped
pub run_kept : (meaning : Meaning) (script : Script) → IsLawful meaning script → (schedule : List ℕ) (new : Core)
    → IsRun meaning script schedule new → Kept meaning Any_choices script new
run_kept meaning script lawful schedule new h = let f = run_free meaning script schedule new h in
    reached_kept meaning Any_choices script lawful f.0 new f.1

-- Pages that are taken ----------------------------------------------------------------------------------------------

-- no command that is not finished touches a page that the open chunk takes: it came back, or is new
taken_page : (meaning : Meaning) (reading : Reading) (script : Script) (old : Core)
    → Kept meaning reading script old → (choice : PageChoice) (len : ℕ) (s : Staged) (before after : Pool)
    → Stages choice len s before after
    → AllByRecursion (λ q. old.owner q.block ≡ Spare) before.spare → old.owner before.next ≡ Unmade → (p : Page)
    → s.added ≡ p ∷ [] → may_touch old s.block ≡ false
taken_page meaning reading script old k choice len s before after (On_newest _ _ n is fits) spare fresh p e =
    absurd (cc e)
taken_page meaning reading script old k choice len s before after (On_spare _ _ front q back size is long none) spare
    fresh p e =
    let was : AllByRecursion (λ q. old.owner q.block ≡ Spare) (q ∷ back) =
    all_back (λ q. old.owner q.block ≡ Spare) front (q ∷ back)
    (subst (AllByRecursion (λ q. old.owner q.block ≡ Spare)) is spare) in
    free_is_idle meaning reading script old k.good q.block (subst IsFree (sym was.0) tt)
taken_page meaning reading script old k choice len s before after (On_new _ _ none) spare fresh p e =
    made_is_idle meaning reading script old k.good before.next fresh

pub page_idle : (meaning : Meaning) (reading : Reading) (script : Script) (old : Core) (choice : PageChoice)
    (len : ℕ) (s : Staged) (pool : Pool) → Kept meaning reading script old
    → Stages choice len s old.pool pool → (p : Page) → s.added ≡ p ∷ [] → may_touch old s.block ≡ false
page_idle meaning reading script old choice len s pool k h p e =
    taken_page meaning reading script old k choice len s old.pool pool h k.beside.places.spare
    (k.beside.places.fresh old.pool.next (omega arith)) p e

-- a call that is pending in a run has a use that is not finished
pub pending_right : (meaning : Meaning) (script : Script) (rs : List Said)
    → AllByRecursion (IsRight meaning script) rs → (n d : ℕ) → pending_in rs n ≡ Some d
    → (ask : Ask) × (used : ℕ) × IsAsked script n ask (Some used) × (d < used)
pending_right meaning script [] h n d e = absurd (cc e)
pending_right meaning script (Bytes_said call bytes ∷ rs) h n d e = pending_right meaning script rs h.1 n d e
pending_right meaning script (Value_said call value ∷ rs) h n d e = pending_right meaning script rs h.1 n d e
pending_right meaning script (Still_said call used finished ∷ rs) h n d e =
    elim (cases_Bool (call == n)) [
      | inl t ↦
          let is : Some finished ≡ Some d = sym (ap (λ c. cond c (Some finished) (pending_in rs n)) t) ∙ e in
          let same : finished ≡ d = cc is in
          let right = h.0 in (
            right.0,
            used,
            subst (λ n. IsAsked script n right.0 (Some used)) (eqb-true call n t) right.1,
            (let l = right.2 in omega (arith, l, same)),
          )
      | inr f ↦ pending_right meaning script rs h.1 n d (sym (ap (λ c. cond c (Some finished) (pending_in rs n)) f) ∙ e)
    ]
pending_right meaning script (Refused_said call ∷ rs) h n d e = pending_right meaning script rs h.1 n d e
pending_right meaning script (End_said ∷ rs) h n d e = pending_right meaning script rs h.1 n d e
