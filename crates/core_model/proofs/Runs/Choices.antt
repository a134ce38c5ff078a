-- A step with the choices of the core that is stepped is a step with free choices.
use Rattle.std.proofs.Common.{◌≡◌, ℕ, zero, suc, ◌+◌, true, false, cond, nat_le, List, [], ◌∷◌, ◌++◌, length, refl}
use Rattle.std.proofs.Common.{sym, ap, ◌∙◌, subst, inl, inr, ◌⊎◌, Option, Some, None, slice_get, arith, append_assoc}
use Rattle.std.proofs.Common.{length-append}
use Rattle.std.specs.List.{AllByRecursion}
use Rattle.std.proofs.lemmas.Bool.{both_ways, cases_Bool}
use Rattle.dx_types.specs.declared.range.Range.{Range}
use Rattle.vk_types.specs.Effects.{Meaning}
use Rattle.core_model.specs.Script.{Play, Create, Discard, No_overwrite, Stage, Command, Destroy, Create_shader}
use Rattle.core_model.specs.Script.{Mark_query, Set_state, Turn, Refused, Passed, Flushed, Asked, Item, Script}
use Rattle.core_model.specs.CoreState.{Page, Pool, Board, Core, start}
use Rattle.core_model.specs.Readings.{Reading, Any_choices, First_choices, In_threads, chooses_first}
use Rattle.core_model.specs.Readings.{keeps_pages}
use Rattle.core_model.specs.Placing.{BlockChoice, At_home, New_block, Takes, From_home, New_made, first_home, Staged}
use Rattle.core_model.specs.Placing.{PageChoice, Newest_page, Spare_page, newest_fits, Stages, On_newest, On_spare}
use Rattle.core_model.specs.Placing.{On_new, first_long, first_page, with_length, KeepsLength, StagesBytes}
use Rattle.core_model.specs.Playing.{HasBlock, Own, Of_class, Plays}
use Rattle.core_model.specs.AppActs.{TakesTurn, Acts}
use Rattle.core_model.specs.CoreStep.{Event, App, Cs, Pipe, Submit, Accept, Run, Complete, Finish, Come_home}
use Rattle.core_model.specs.CoreStep.{AppSteps, Step, Chain, AllComeHome, FirstStep, CoreStep}
use Rattle.core_model.specs.Runs.{Actor, Follows, FirstEnabled, settling, Settles, At_end, Settling, IsRun}
use Rattle.core_model.specs.Free.{is_home, FreeSteps, FreeRun}
use Rattle.core_model.proofs.Steps.Segments.{get_middle}

-- From any choices to free ones -------------------------------------------------------------------------------------

module _ (reading free : Reading) (f : chooses_first free ≡ false)
    (g : keeps_pages free ≡ true → keeps_pages reading ≡ true) where
  never : {A : Type 0} → chooses_first free ≡ true → A
  never h = absurd (both_ways (chooses_first free) f h)

  block_free : (script : Script) (buffer block : ℕ) (old new : Core) → HasBlock reading script buffer block old new
      → HasBlock free script buffer block old new
  block_free script buffer block old new (Own _ _ _ _ none) = Own free script buffer old none
  block_free script buffer block old new (Of_class _ _ _ class _ _ board is t) =
      Of_class free script buffer class block old board is (t.0, t.1, λ h. never h)

  play_free : (script : Script) (call item : ℕ) (play : Play) (bound : List Range) (old new : Core)
      → Plays reading script call item play bound old new → Plays free script call item play bound old new
  play_free script call item (Create buffer bytes) bound old new p =
      (p.0, p.1, block_free script buffer p.0 old p.1 p.2, p.3)
  play_free script call item (Discard buffer from bytes) bound old new p =
      (p.0, p.1, block_free script buffer p.0 old p.1 p.2, p.3)
  play_free script call item (No_overwrite buffer from bytes) bound old new p = p
  play_free script call item (Stage [] target skip) bound old new p = p
  play_free script call item (Stage (b ∷ bs) target skip) bound old new p =
      (p.0, p.1, (p.2.0, p.2.1, (λ h. never h), λ h. p.2.3 (g h)), p.3)
  play_free script call item (Command w skip) bound old new p = p
  play_free script call item (Destroy buffer) bound old new p = p
  play_free script call item Create_shader bound old new p = p
  play_free script call item (Mark_query query begins) bound old new p = p
  play_free script call item Set_state bound old new p = p

  turn_free : (script : Script) (turn : Turn) (turns : List Turn) (old new : Core)
      → TakesTurn reading script turn turns old new → TakesTurn free script turn turns old new
  turn_free script (Refused call) turns old new p = p
  turn_free script (Passed call) turns old new p = p
  turn_free script (Flushed call) turns old new p = p
  turn_free script (Asked call ask used may_pend) turns old new p = p
  turn_free script (Item call item ends play bound) turns old new p = play_free script call item play bound _ new p

-- Where there is a choice, there is the first one -------------------------------------------------------------------

-- the lowest place with a block, or there is none
abbrev FindsHome : ℕ → List (Option ℕ) → BlockChoice → Type 0
FindsHome at ps choice =
    ((k : ℕ) × (b : ℕ) × (choice ≡ At_home (at + k)) × (slice_get ps k ≡ Some (Some b)))
    ⊎ ((choice ≡ New_block) × ((k b : ℕ) → slice_get ps k ≡ Some (Some b) → ⊥))

finds_home : (at : ℕ) (ps : List (Option ℕ)) → FindsHome at ps (first_home at ps)
finds_home at [] = inr (refl, λ k b e. cc e)
finds_home at (None ∷ ps) =
    elim (finds_home (suc at) ps) [
      | inl h ↦ inl (suc h.0, h.1, h.2 ∙ ap At_home (let z : suc at + h.0 ≡ at + suc h.0 = omega arith in z), h.3)
      | inr n ↦ inr (n.0, none_here n.1)
    ]
  where
    none_here : ((k b : ℕ) → slice_get ps k ≡ Some (Some b) → ⊥) → (k b : ℕ)
        → slice_get (None ∷ ps) k ≡ Some (Some b) → ⊥
    none_here n zero b e = cc e
    none_here n (suc k) b e = n k b e
finds_home at (Some b ∷ ps) = inl (0, b, ap At_home (let z : at ≡ at + 0 = omega arith in z), refl)

-- a block taken by this choice
abbrev TakesBy : BlockChoice → ℕ → Board → Type 0
TakesBy choice class old = (block : ℕ) × (new : Board) × Takes choice class block old new

takes_first : (choice : BlockChoice) (class block : ℕ) (old new : Board) → Takes choice class block old new
    → TakesBy (first_home 0 (old.places class)) class old
takes_first choice class block old new t =
    elim (finds_home 0 (old.places class)) [
      | inl h ↦ subst (λ c. TakesBy c class old) (sym (h.2 ∙ ap At_home (let z : 0 + h.0 ≡ h.0 = omega arith in z)))
          (h.1, _, From_home class h.1 h.0 old h.3)
      | inr n ↦ subst (λ c. TakesBy c class old) (sym n.0) (made choice class block old new t n.1)
    ]
  where
    made : (choice : BlockChoice) (class block : ℕ) (old new : Board) → Takes choice class block old new
        → ((k b : ℕ) → slice_get (old.places class) k ≡ Some (Some b) → ⊥) → TakesBy New_block class old
    made choice class block old new (From_home _ _ place _ e) none = absurd (none place block e)
    made choice class block old new (New_made _ _ l) none = (_, _, New_made class old l)

-- bytes staged by this choice
abbrev StagesBy : PageChoice → ℕ → Pool → Type 0
StagesBy choice len old = (s : Staged) × (new : Pool) × Stages choice len s old new × KeepsLength choice s old

finds_long : (len : ℕ) (old : Pool) → newest_fits len old.newest ≡ false → (front ps : List Page)
    → old.spare ≡ front ++ ps → StagesBy (first_long (length front) len ps) len old
finds_long len old n front [] e = (_, _, On_new len old n, tt)
finds_long len old n front (p ∷ ps) e =
    elim (cases_Bool (nat_le len p.len)) [
      | inl fits ↦ subst (λ c. StagesBy c len old)
          (sym (ap (λ b. cond b (Spare_page (length front)) (first_long (suc (length front)) len ps)) fits)) (
            _,
            _,
            On_spare len old front p ps p.len e fits n,
            (
              ap (λ l. slice_get l (length front)) e ∙ get_middle front p ps,
              tt,
            ),
          )
      | inr short ↦
          let more : length (front ++ p ∷ []) ≡ suc (length front) = omega (arith, length-append front (p ∷ [])) in
          subst (λ c. StagesBy c len old)
          (ap (λ at. first_long at len ps) more
          ∙ sym (ap (λ b. cond b (Spare_page (length front)) (first_long (suc (length front)) len ps)) short))
          (finds_long len old n (front ++ p ∷ []) ps (e ∙ sym (append_assoc front (p ∷ []) ps)))
    ]

stages_first : (choice : PageChoice) (len : ℕ) (s : Staged) (old new : Pool) → Stages choice len s old new
    → StagesBy (first_page len old) len old
stages_first choice len s old new (On_newest _ _ n e fits) =
    subst (λ c. StagesBy c len old)
    (sym (ap (λ o. cond (newest_fits len o) Newest_page (first_long 0 len old.spare)) e
    ∙ ap (λ b. cond b Newest_page (first_long 0 len old.spare)) fits))
    (_, _, On_newest len old n e fits, tt)
stages_first choice len s old new (On_spare _ _ front p back size e l n) =
    subst (λ c. StagesBy c len old) (sym (ap (λ b. cond b Newest_page (first_long 0 len old.spare)) n))
    (finds_long len old n [] old.spare refl)
stages_first choice len s old new (On_new _ _ n) =
    subst (λ c. StagesBy c len old) (sym (ap (λ b. cond b Newest_page (first_long 0 len old.spare)) n))
    (finds_long len old n [] old.spare refl)

module _ (reading : Reading) where
  block_first : (script : Script) (buffer block : ℕ) (old new : Core) → HasBlock reading script buffer block old new
      → (b : ℕ) × (mid : Core) × HasBlock First_choices script buffer b old mid
  block_first script buffer block old new (Own _ _ _ _ none) = (_, _, Own First_choices script buffer old none)
  block_first script buffer block old new (Of_class _ _ _ class _ _ board is t) =
      let first = takes_first t.0 class block old.board board t.1 in
      (first.0, _, Of_class First_choices script buffer class first.0 old first.1 is (_, first.2, λ h. refl))

  play_first : (script : Script) (call item : ℕ) (play : Play) (bound : List Range) (old new : Core)
      → Plays reading script call item play bound old new
      → (other : Core) × Plays First_choices script call item play bound old other
  play_first script call item (Create buffer bytes) bound old new p = let b =
      block_first script buffer p.0 old p.1 p.2 in (_, (b.0, b.1, b.2, refl))
  play_first script call item (Discard buffer from bytes) bound old new p = let b =
      block_first script buffer p.0 old p.1 p.2 in (_, (b.0, b.1, b.2, refl))
  play_first script call item (No_overwrite buffer from bytes) bound old new p = (new, p)
  play_first script call item (Stage [] target skip) bound old new p = (new, p)
  play_first script call item (Stage (b ∷ bs) target skip) bound old new p =
      let s = stages_first p.2.0 (length (b ∷ bs)) p.0 old.pool p.1 p.2.1 in
      (_, (s.0, s.1, (_, s.2, (λ h. refl), λ h. s.3), refl))
  play_first script call item (Command w skip) bound old new p = (new, p)
  play_first script call item (Destroy buffer) bound old new p = (new, p)
  play_first script call item Create_shader bound old new p = (new, p)
  play_first script call item (Mark_query query begins) bound old new p = (new, p)
  play_first script call item Set_state bound old new p = (new, p)

  turn_first : (script : Script) (turn : Turn) (turns : List Turn) (old new : Core)
      → TakesTurn reading script turn turns old new
      → (other : Core) × TakesTurn First_choices script turn turns old other
  turn_first script (Refused call) turns old new p = (new, p)
  turn_first script (Passed call) turns old new p = (new, p)
  turn_first script (Flushed call) turns old new p = (new, p)
  turn_first script (Asked call ask used may_pend) turns old new p = (new, p)
  turn_first script (Item call item ends play bound) turns old new p = play_first script call item play bound _ new p

-- Acts and steps ----------------------------------------------------------------------------------------------------

acts_free : (script : Script) (old new : Core) → Acts First_choices script old new → Acts Any_choices script old new
acts_free script old new (e, inl h) = (e, inl h)
acts_free script old new (e, inr (inl t)) =
    (e, inr (inl (t.0, t.1, t.2, t.3, turn_free First_choices Any_choices refl (λ h. refl) script t.1 t.2 old new t.4)))
acts_free script old new (e, inr (inr z)) = (e, inr (inr z))

-- what can be done by some choice can be done by the first
acts_first : (script : Script) (old new : Core) → Acts Any_choices script old new → (other : Core)
    × Acts First_choices script old other
acts_first script old new (e, inl h) = (new, (e, inl h))
acts_first script old new (e, inr (inl t)) = let o = turn_first Any_choices script t.1 t.2 old new t.4 in
    (o.0, (e, inr (inl (t.0, t.1, t.2, t.3, o.1))))
acts_first script old new (e, inr (inr z)) = (new, (e, inr (inr z)))

app_free : (script : Script) (n : ℕ) (old new : Core) → AppSteps First_choices script n old new
    → AppSteps Any_choices script n old new
app_free script n old new (e, all, mid, takes, inl a) = (
  e,
  (λ h. absurd (cc h)),
  mid,
  takes,
  inl (acts_free script _ new a),
)
app_free script n old new (e, all, mid, takes, inr b) = (
  e,
  (λ h. absurd (cc h)),
  mid,
  takes,
  inr (
    b.0,
    (λ other a. let o = acts_first script _ other a in b.1 o.0 o.1),
    b.2,
  ),
)

pub step_free : (meaning : Meaning) (script : Script) (old : Core) (e : Event) (new : Core)
    → Step meaning First_choices script old e new → Step meaning Any_choices script old e new
step_free meaning script old (App n) new p = app_free script n old new p
step_free meaning script old Cs new p = p
step_free meaning script old (Pipe j) new p = p
step_free meaning script old Submit new p = p
step_free meaning script old Accept new p = p
step_free meaning script old (Run j) new p = p
step_free meaning script old Complete new p = p
step_free meaning script old Finish new p = p
step_free meaning script old (Come_home block place) new p = p

-- Runs --------------------------------------------------------------------------------------------------------------

-- steps with free choices, the last of which bring blocks home
abbrev pub Homes : Meaning → Script → Core → Core → Type 0
Homes meaning script old new = (homes : List Event) × AllByRecursion (λ e. is_home e ≡ true) homes
    × Chain meaning Any_choices script old homes new

come_home : (meaning : Meaning) (script : Script) (bs : List ℕ) (old new : Core)
    → AllComeHome meaning script bs old new → Homes meaning script old new
come_home meaning script [] old new e = ([], tt, e)
come_home meaning script (b ∷ bs) old new (inl p) = come_home meaning script bs old new p.1
come_home meaning script (b ∷ bs) old new (inr p) =
    let h = come_home meaning script bs p.6 new p.8 in
    (Come_home b p.2 ∷ h.0, (refl, h.1), (p.6, p.7, h.2))

one_step : (meaning : Meaning) (script : Script) (old : Core) (e : Event) (new : Core)
    → Step meaning First_choices script old e new → FreeSteps meaning script old e new
one_step meaning script old e new p = ([], tt, (new, step_free meaning script old e new p, refl))

first_free : (meaning : Meaning) (script : Script) (old : Core) (e : Event) (new : Core)
    → FirstStep meaning script old e new → FreeSteps meaning script old e new
first_free meaning script old (App n) new p = one_step meaning script old (App n) new p
first_free meaning script old Cs new p = one_step meaning script old Cs new p
first_free meaning script old (Pipe j) new p = one_step meaning script old (Pipe j) new p
first_free meaning script old Submit new p = one_step meaning script old Submit new p
first_free meaning script old Accept new p = one_step meaning script old Accept new p
first_free meaning script old (Run j) new p = one_step meaning script old (Run j) new p
first_free meaning script old Complete new p = one_step meaning script old Complete new p
first_free meaning script old Finish new p =
    let h = come_home meaning script _ p.0 new p.5 in
    (h.0, h.1, (p.0, step_free meaning script old Finish p.0 p.1, h.2))
first_free meaning script old (Come_home block place) new p = absurd p

pub core_free : (meaning : Meaning) (script : Script) (old : Core) (e : Event) (new : Core)
    → CoreStep meaning script old e new → FreeSteps meaning script old e new
core_free meaning script old e new p = first_free meaning script old e new p.1

chain_append : (meaning : Meaning) (reading : Reading) (script : Script) (xs ys : List Event) (old mid new : Core)
    → Chain meaning reading script old xs mid → Chain meaning reading script mid ys new
    → Chain meaning reading script old (xs ++ ys) new
chain_append meaning reading script [] ys old mid new e c = subst (λ o. Chain meaning reading script o ys new) e c
chain_append meaning reading script (x ∷ xs) ys old mid new a c =
    (a.0, a.1, chain_append meaning reading script xs ys a.0 mid new a.2 c)

free_then : (meaning : Meaning) (script : Script) (old mid new : Core) → FreeRun meaning script old mid
    → FreeRun meaning script mid new → FreeRun meaning script old new
free_then meaning script old mid new a b =
    (a.0 ++ b.0, chain_append meaning Any_choices script a.0 b.0 old mid new a.1 b.1)

core_run : (meaning : Meaning) (script : Script) (old : Core) (e : Event) (new : Core)
    → CoreStep meaning script old e new → FreeRun meaning script old new
core_run meaning script old e new p = let f = core_free meaning script old e new p in (e ∷ f.0, f.2)

follows_free : (meaning : Meaning) (script : Script) (bytes : List ℕ) (old new : Core)
    → Follows meaning script old bytes new → FreeRun meaning script old new
follows_free meaning script [] old new e = ([], e)
follows_free meaning script (byte ∷ bytes) old new (mid, inl s, f) =
    free_then meaning script old mid new (core_run meaning script old _ mid s)
    (follows_free meaning script bytes mid new f)
follows_free meaning script (byte ∷ bytes) old new (mid, inr s, f) =
    subst (λ o. FreeRun meaning script o new) s.1 (follows_free meaning script bytes mid new f)

enabled_free : (meaning : Meaning) (script : Script) (actors : List Actor) (old new : Core)
    → FirstEnabled meaning script old actors new → FreeRun meaning script old new
enabled_free meaning script [] old new p = absurd p
enabled_free meaning script (a ∷ actors) old new (inl s) = core_run meaning script old _ new s
enabled_free meaning script (a ∷ actors) old new (inr s) = enabled_free meaning script actors old new s.1

settles_free : (meaning : Meaning) (script : Script) (old new : Core) → Settles meaning script old new
    → FreeRun meaning script old new
settles_free meaning script old new (At_end _ e) = ([], refl)
settles_free meaning script old new (Settling _ mid _ first more) =
    free_then meaning script old mid new (enabled_free meaning script settling old mid first)
    (settles_free meaning script mid new more)

-- a run of the core that is stepped is a run with free choices
pub run_free : (meaning : Meaning) (script : Script) (schedule : List ℕ) (new : Core)
    → IsRun meaning script schedule new → FreeRun meaning script (start script) new
run_free meaning script schedule new r =
    free_then meaning script (start script) r.0 new (follows_free meaning script schedule (start script) r.0 r.1)
    (settles_free meaning script r.0 new r.2)

-- In threads --------------------------------------------------------------------------------------------------------

-- a page that came back may be as long as suffices
pub any_length : (len long : ℕ) (pool : Pool) (front : List Page) (p : Page) (back : List Page)
    → pool.spare ≡ front ++ p ∷ back → nat_le len long ≡ true → newest_fits len pool.newest ≡ false
    → StagesBytes In_threads len (record { block = p.block; at = 0; added = with_length p long ∷ [] }) pool
    (record pool { spare = front ++ back; newest = Some (record { page = with_length p long; used = len }) })
any_length len long pool front p back e l n = (
  Spare_page (length front),
  On_spare len pool front p back long e l n,
  (λ h. absurd (cc h)),
  λ h. absurd (cc h),
)
