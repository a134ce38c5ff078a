-- Where nothing is on its way App can act. So some part is enabled until the end.
use Rattle.std.proofs.Common.{◌≡◌, ℕ, zero, suc, ◌<◌, ◌≤◌, Bool, true, false, ◌||◌, nat_lt, List, [], ◌∷◌, ◌++◌}
use Rattle.std.proofs.Common.{length, refl, sym, ap, ◌∙◌, subst, inl, inr, ◌⊎◌, Option, Some, None, slice_get, arith}
use Rattle.std.proofs.Common.{append-nil}
use Rattle.std.specs.List.{AllByRecursion}
use Rattle.std.proofs.lemmas.Bool.{cases_Bool, le-leb}
use Rattle.vk_types.specs.Effects.{Meaning}
use Rattle.core_model.specs.Script.{Ask, Bytes, Count, Constant, Turn, Refused, Passed, Flushed, Asked, Item, Script}
use Rattle.core_model.specs.Chunking.{call_of, is_entry, is_due}
use Rattle.core_model.specs.CoreState.{Segment, Owner, Unmade, Home, Returning, Spare, Live, Retired, Paged, Dropped}
use Rattle.core_model.specs.CoreState.{Core, later, last_finished, done, End_said, of_messages, of_running}
use Rattle.core_model.specs.CoreState.{finished_count}
use Rattle.core_model.specs.Readings.{First_choices}
use Rattle.core_model.specs.Placing.{New_block, first_home}
use Rattle.core_model.specs.Adding.{with_turn, with_reply}
use Rattle.core_model.specs.AppActs.{is_finished, TakesTurn, handed_over}
use Rattle.core_model.specs.Kept.{Kept}
use Rattle.core_model.specs.Lawful.{ClassFits, UsesRightly, IsLawful}
use Rattle.core_model.specs.Invariant.{handed}
use Rattle.core_model.specs.ClassBlocks.{On_way, Gone, stand}
use Rattle.core_model.proofs.Blocks.BlocksEnough.{block_enough}
use Rattle.core_model.proofs.Runs.LastUses.{is_bare}
use Rattle.core_model.proofs.Ends.CoreReached.{OnWay, Ready}
use Rattle.core_model.proofs.Ends.Progress.{IsAbove}
use Rattle.core_model.proofs.Ends.LastTurns.{items_finished, binding_below, end_below, item_below}
use Rattle.core_model.proofs.Ends.AppDecides.{Lacks, play_goes, CanAct}

-- nothing is on its way
pub record AtRest (core : Core) : Type 0 where
  pub posts : core.posts ≡ []
  pub completions : core.completions ≡ []
  pub accepted : core.accepted ≡ []
  pub submissions : core.submissions ≡ []
  pub batches : core.batches ≡ []
  pub chunks : core.chunks ≡ []

pub behind_none : (core : Core) → AtRest core → (rest : List Segment)
    → of_messages core.posts ++ (of_messages core.completions
    ++ (of_running core.accepted ++ (core.submissions ++ (core.batches ++ rest)))) ≡ rest
behind_none core r rest =
    ap (λ l. of_messages l ++ (of_messages core.completions ++
    (of_running core.accepted ++ (core.submissions ++ (core.batches ++ rest))))) r.posts
    ∙ ap (λ l. of_messages l ++ (of_running core.accepted ++ (core.submissions ++ (core.batches ++ rest))))
    r.completions
    ∙ ap (λ l. of_running l ++ (core.submissions ++ (core.batches ++ rest))) r.accepted
    ∙ ap (λ l. l ++ (core.batches ++ rest)) r.submissions ∙ ap (λ l. l ++ rest) r.batches

pub later_none : (core : Core) → AtRest core → later core ≡ []
later_none core r = behind_none core r core.chunks ∙ r.chunks

handed_taken : (core : Core) → AtRest core → handed core ≡ core.taken
handed_taken core r = ap (λ l. core.taken ++ l) (later_none core r) ∙ append-nil core.taken

-- the home of a block is no new one
no_home : (at : ℕ) (ps : List (Option ℕ)) (j b : ℕ) → slice_get ps j ≡ Some (Some b) → first_home at ps ≡ New_block → ⊥
no_home at [] j b e f = cc e
no_home at (None ∷ ps) zero b e f = cc e
no_home at (None ∷ ps) (suc j) b e f = no_home (suc at) ps j b e f
no_home at (Some x ∷ ps) j b e f = cc f

on_way : (o : Owner) → stand o ≡ On_way → OnWay o
on_way Unmade e = absurd (cc e)
on_way (Home k) e = absurd (cc e)
on_way (Returning k) e = tt
on_way Spare e = absurd (cc e)
on_way (Live buffer since bound) e = absurd (cc e)
on_way (Retired k since bound) e = absurd (cc e)
on_way (Paged k since bound) e = absurd (cc e)
on_way Dropped e = absurd (cc e)

gone_above : (f k : ℕ) (o : Owner) → stand o ≡ Gone k → IsAbove f o → f < k
gone_above f k Unmade e h = absurd (cc e)
gone_above f k (Home j) e h = absurd (cc e)
gone_above f k (Returning j) e h = absurd (cc e)
gone_above f k Spare e h = absurd (cc e)
gone_above f k (Live buffer since bound) e h = absurd (cc e)
gone_above f k (Retired j since bound) e h = let s : j ≡ k = cc e in omega (arith, s, h)
gone_above f k (Paged j since bound) e h = absurd (cc e)
gone_above f k Dropped e h = absurd (cc e)

some_of : (o : Option ℕ) → (o ≡ None) ⊎ ((u : ℕ) × (o ≡ Some u))
some_of None = inl refl
some_of (Some u) = inr (u, refl)

second : (a b : Bool) → (a || b) ≡ false → b ≡ false
second true b h = absurd (cc h)
second false b h = h

module _ (meaning : Meaning) (script : Script) (lawful : IsLawful meaning script) (core : Core)
    (k : Kept meaning First_choices script core) (rest : AtRest core) where
  -- what is asked for is finished
  pub asked_finished : (call : ℕ) (ask : Ask) (used : Option ℕ) (may_pend : Bool) (turns : List Turn)
      → core.future ≡ Asked call ask used may_pend ∷ turns → is_due script core.open_chunk.turns core.future ≡ false
      → is_finished used (done core) ≡ true
  asked_finished call ask used may_pend turns e due =
      let bare = is_bare meaning First_choices script lawful core k call ask used may_pend turns e due in
      let next : (t : Turn) (ts : List Turn) → core.future ≡ t ∷ ts → is_entry t ≡ false =
      λ t ts f. let z : Asked call ask used may_pend ∷ turns ≡ t ∷ ts = sym e
      ∙ f in let s : Asked call ask used may_pend ≡ t = cc z in ap is_entry (sym s) in
      let all = subst (λ ss. AllByRecursion (λ t. is_entry t ≡ true → call_of t ≤ last_finished ss) core.past)
      (handed_taken core rest) (items_finished meaning First_choices script lawful core k bare next) in
      let here : script.turns ≡ core.past ++ Asked call ask used may_pend ∷ turns =
      sym (ap (λ l. core.past ++ l) (sym e) ∙ k.good.sound.position) in
      let below : (u : ℕ) → used ≡ Some u → u ≤ done core = by ask
      (lawful.uses core.past call ask used may_pend turns here) all in
      elim (some_of used) [
        | inl n ↦ ap (λ o. is_finished o (done core)) n
        | inr s ↦ ap (λ o. is_finished o (done core)) s.1 ∙ le-leb s.0 (done core) (below s.0 s.1)
      ]
    where
      by : (ask : Ask) → UsesRightly core.past call ask used
          → AllByRecursion (λ t. is_entry t ≡ true → call_of t ≤ last_finished core.taken) core.past → (u : ℕ)
          → used ≡ Some u → u ≤ done core
      by (Bytes source) uses all u s = binding_below (done core) source.block core.past None all
          (λ v n. absurd (cc n)) u (sym uses ∙ s)
      by (Count query) uses all u s = end_below (done core) query core.past None all (λ v n. absurd (cc n)) u
          (sym uses ∙ s)
      by (Constant value) uses all u s =
          let z : Some uses.0 ≡ Some u = sym uses.1 ∙ s in
          let same : uses.0 ≡ u = cc z in
          subst (λ v. v ≤ done core) same (item_below (done core) uses.0 core.past all uses.3)

module _ (meaning : Meaning) (script : Script) (lawful : IsLawful meaning script) (core : Core)
    (r : Ready meaning script lawful core) (rest : AtRest core) where
  -- each buffer can have a block
  has_block : (buffer : ℕ) → is_due script core.open_chunk.turns core.future ≡ false → Lacks script buffer core → ⊥
  has_block buffer due l =
      let k = r.based.holds.0 in
      let fits : ClassFits script buffer (Some l.0) = subst (ClassFits script buffer) l.1 (lawful.classes buffer) in
      elim (block_enough meaning First_choices script lawful core k r.based.holds.2 due l.0 fits.0) [
        | inl made ↦ let many = l.3 in omega (arith, made, many)
        | inr x ↦ elim x [
          | inl home ↦ no_home 0 (core.board.places l.0) home.0 home.1 home.2 l.2
          | inr y ↦ elim y.2 [
            | inl way ↦ r.none_away y.0 (on_way (core.owner y.0) way)
            | inr gone ↦
                let above = gone_above (finished_count core) gone.0 (core.owner y.0) gone.1
                (r.based.progress.above y.0) in
                let below = gone.2 in
                let c : length core.completions ≡ 0 = ap length rest.completions in
                let a : length core.accepted ≡ 0 = ap length rest.accepted in
                let s : length core.submissions ≡ 0 = ap length rest.submissions in
                let b : length core.batches ≡ 0 = ap length rest.batches in
                let h : length core.chunks ≡ 0 = ap length rest.chunks in
                omega (arith, above, below, c, a, s, b, h)
          ]
        ]
      ]

  pub acts_at_rest : core.ended ≡ false → CanAct script core
  acts_at_rest goes_on = elim (cases_Bool (is_due script core.open_chunk.turns core.future)) [
    | inl due ↦ (handed_over core, (goes_on, inl (due, ap (λ l. nat_lt (length l) 4) rest.chunks, refl)))
    | inr due ↦ by core.future refl due
  ]
    where
      takes : (t : Turn) (turns : List Turn) → core.future ≡ t ∷ turns
          → is_due script core.open_chunk.turns core.future ≡ false → (new : Core)
          × TakesTurn First_choices script t turns core new
      takes (Refused call) turns e due = (_, refl)
      takes (Passed call) turns e due = (_, refl)
      takes (Flushed call) turns e due = (_, refl)
      takes (Asked call ask used may_pend) turns e due = (
        _,
        inl (
          asked_finished meaning script lawful core r.based.holds.0 rest call ask used may_pend turns e due,
          refl,
        ),
      )
      takes (Item call item ends play bound) turns e due = play_goes script call item play bound
          (with_turn (Item call item ends play bound) turns core) (λ buffer l. has_block buffer due l)

      by : (future : List Turn) → core.future ≡ future → is_due script core.open_chunk.turns core.future ≡ false
          → CanAct script core
      by (t ∷ turns) e due = let n = takes t turns e due in (n.0, (goes_on, inr (inl (due, t, turns, e, n.1))))
      by [] e due =
          let all : last_finished (handed core) ≤ done core =
          subst (λ ss. last_finished ss ≤ done core) (sym (handed_taken core rest)) (omega arith) in
          (with_reply End_said (record core { ended = true }), (goes_on, inr (inr (due, e, all, refl))))
