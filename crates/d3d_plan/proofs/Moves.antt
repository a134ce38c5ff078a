-- The open and the live lists after a call.
use Rattle.std.proofs.Common.{◌≡◌, ℕ, zero, suc, ◌<◌, Bool, true, false, not, List, [], ◌∷◌, ◌++◌, length, Some, refl, ap, ◌∙◌, arith}
use Rattle.std.specs.Prelude.{◌==◌, slice_index_or, slice_set, if◌then◌else◌}
use Rattle.std.proofs.lemmas.Bool.{eqb-true}
use Rattle.std.proofs.lemmas.Bool.Decides.{nat_tests}
use Rattle.dx_types.specs.declared.refusal.Refusal.TheVariants.{TooMuchMemory, WrongContext}
use Rattle.call_log.specs.Call as calls
use Rattle.call_log.specs.Call.{Call}
use Rattle.call_log.specs.View.{call_view}
use Rattle.call_log.specs.declared.call.Call as code_call
use Rattle.call_log.specs.declared.call.Call.TheVariants as codes
use Rattle.base_lemmas.specs.IdMap.{get}
use Rattle.d3d_model.specs.Binding.{Bindings, default_bindings}
use Rattle.d3d_model.specs.D3dState.{Context, Numbered, Objects, bindings_of, calls_of_list, context_of, default_context, with_bindings}
use Rattle.d3d_model.specs.Effect.{deeds_at, deeds_by, effect_at, executed, list_start, objects_after, played, played_all, queries_after, recorded_on}
use Rattle.d3d_model.specs.Stream.{set_by}
use Rattle.d3d_model.specs.Verdict.{Place, OnDevice, OnImmediate, OnEach, OnDeferred, call_checks, is_too_long, is_wrong_at, place_of}
use Rattle.d3d_model.proofs.Checked.{all_passed}
use Rattle.d3d_model.proofs.Listed.{contexts_if, lists_if}
use Rattle.d3d_checks.specs.Accepted.{Accepted}
use Rattle.d3d_checks.proofs.Passes.{stands_on}
use Rattle.d3d_effects.specs.Bound.{is_execution}
use Rattle.d3d_state.specs.Contexts.{contexts_of}
use Rattle.d3d_state.specs.Meaning.{objects_of}
use Rattle.d3d_state.specs.declared.objects.Objects as code
use Rattle.d3d_lists.specs.Recorded.{recorded_by}
use Rattle.d3d_plan.specs.Keeping.{is_of_list}
use Rattle.d3d_plan.specs.Planned.{listed_by, parts_in}

-- ---- what is recorded

set_recorded : (xs : List Context) (b : Bindings) (y : ℕ)
    → (slice_index_or (slice_set xs 0 (record { bindings = b; recorded = (slice_index_or xs 0 default_context).recorded })) y default_context).recorded ≡ (slice_index_or xs y default_context).recorded
set_recorded [] b y = refl
set_recorded (x ∷ xs) b zero = refl
set_recorded (x ∷ xs) b (suc y) = refl

recorded_with : (o : Objects) (b : Bindings) (y : ℕ) → (context_of (with_bindings o 0 b) y).recorded ≡ (context_of o y).recorded
recorded_with o b y = set_recorded o.contexts b y

recorded_played : (n : ℕ) (o : Objects) (cs : List Numbered) (y : ℕ) → (context_of (played_all n o cs) y).recorded ≡ (context_of o y).recorded
recorded_played n o [] y = refl
recorded_played n o (c ∷ cs) y =
    recorded_played n (played n o c.call) cs y
    ∙ recorded_with (record o { queries = queries_after n o.queries c.call }) (set_by o (bindings_of o 0) c.call) y

lists_played : (n : ℕ) (o : Objects) (cs : List Numbered) → (played_all n o cs).lists ≡ o.lists
lists_played n o [] = refl
lists_played n o (c ∷ cs) = lists_played n (played n o c.call) cs

-- a list that is executed leaves all lists as they were
pub recorded_executed : (n : ℕ) (o : Objects) (list flag y : ℕ) → (context_of (executed n o list flag) y).recorded ≡ (context_of o y).recorded
recorded_executed n o list flag y =
    recorded_with (played_all n (list_start o) (calls_of_list o list)) (if flag == 1 then bindings_of o 0 else default_bindings) y
    ∙ recorded_played n (list_start o) (calls_of_list o list) y ∙ recorded_with o default_bindings y

pub lists_executed : (n : ℕ) (o : Objects) (list flag : ℕ) → (executed n o list flag).lists ≡ o.lists
lists_executed n o list flag = lists_played n (list_start o) (calls_of_list o list)

-- a call of the immediate context that is about no list records nothing
pub recorded_here : (n : ℕ) (o : Objects) (c : Call) → is_of_list c ≡ false → (y : ℕ) → (context_of (objects_after n o 0 c) y).recorded ≡ (context_of o y).recorded
recorded_here n o (calls.Buffer id size usage bind misc stride bytes) e y = refl
recorded_here n o (calls.View view res kind form components first count) e y = refl
recorded_here n o (calls.CreateShader id words) e y = refl
recorded_here n o (calls.Query id sort) e y = refl
recorded_here n o (calls.Destroy class id) e y =
    ap (λ (cs : List Context). (slice_index_or cs y default_context).recorded) (contexts_if (class == 1) (class == 2) (class == 3) (class == 4) o id)
recorded_here n o (calls.MapRead res flag offset len) e y = refl
recorded_here n o (calls.GetData query flag) e y = refl
recorded_here n o calls.Flush e y = refl
recorded_here n o (calls.FinishList list) e y = absurd cc
recorded_here n o (calls.ExecuteList list flag) e y = absurd cc
recorded_here n o c e y = recorded_with (record o { queries = queries_after n o.queries c }) (set_by o (bindings_of o 0) c) y

-- and makes no list live
pub listed_here : (n : ℕ) (o : Objects) (c : Call) → is_of_list c ≡ false → (l : ℕ) (cs : List Numbered) → get (objects_after n o 0 c).lists l ≡ Some cs → get o.lists l ≡ Some cs
listed_here n o (calls.Buffer id size usage bind misc stride bytes) e l cs is = is
listed_here n o (calls.View view res kind form components first count) e l cs is = is
listed_here n o (calls.CreateShader id words) e l cs is = is
listed_here n o (calls.Query id sort) e l cs is = is
listed_here n o (calls.Destroy class id) e l cs is = lists_if (class == 1) (class == 2) (class == 3) (class == 4) o id l cs is
listed_here n o (calls.MapRead res flag offset len) e l cs is = is
listed_here n o (calls.GetData query flag) e l cs is = is
listed_here n o calls.Flush e l cs is = is
listed_here n o (calls.FinishList list) e l cs is = absurd cc
listed_here n o (calls.ExecuteList list flag) e l cs is = absurd cc
listed_here n o c e l cs is = is

-- ---- a call without a list

pub none_listed : (o : Objects) (x : ℕ) (c : Call) → is_of_list c ≡ false → listed_by o x c ≡ []
none_listed o x (calls.FinishList list) e = absurd cc
none_listed o x (calls.ExecuteList list flag) e = absurd cc
none_listed o x _ e = refl

pub no_parts : (o : Objects) (x : ℕ) (c : Call) → is_of_list c ≡ false → parts_in o x c ≡ []
no_parts o x (calls.FinishList list) e = absurd cc
no_parts o x (calls.ExecuteList list flag) e = absurd cc
no_parts o x _ e = refl

pub of_no_list : (c : code_call.Call) → ((list : ℕ) → c ≡ codes.FinishList list → ⊥) → ((list flag : ℕ) → c ≡ codes.ExecuteList list flag → ⊥) → is_of_list (call_view c) ≡ false
of_no_list (codes.FinishList list) finish execute = absurd (finish list refl)
of_no_list (codes.ExecuteList list flag) finish execute = absurd (execute list flag refl)
of_no_list _ finish execute = refl

-- ---- where an accepted call stands

pub is_right : (o : Objects) (x : ℕ) (c : Call) → Accepted o x c → is_wrong_at (place_of c) x ≡ false
is_right o x c a = (all_passed ((is_wrong_at (place_of c) x, WrongContext) ∷ (call_checks o a.past x c ++ (is_too_long o x (place_of c), TooMuchMemory) ∷ [])) a.passes).0

not_false : (b : Bool) → not b ≡ false → b ≡ true
not_false true e = refl
not_false false e = absurd cc

-- a list is executed on the immediate context
pub executes_here : (o : Objects) (x list flag : ℕ) → Accepted o x (calls.ExecuteList list flag) → x ≡ 0
executes_here o x list flag a = eqb-true x 0 (not_false (x == 0) (is_right o x (calls.ExecuteList list flag) a))

not_finish : (c : Call) → is_of_list c ≡ false → place_of c ≡ OnDeferred → ⊥
not_finish (calls.FinishList list) e is = cc
not_finish _ e is = cc

on_each : (p : Place) (x : ℕ) → is_wrong_at p x ≡ false → (x ≡ 0 → ⊥) → (p ≡ OnDeferred → ⊥) → p ≡ OnEach
on_each OnDevice x right apart not = absurd (apart (eqb-true x 0 (not_false (x == 0) right)))
on_each OnImmediate x right apart not = absurd (apart (eqb-true x 0 (not_false (x == 0) right)))
on_each OnEach x right apart not = refl
on_each OnDeferred x right apart not = absurd (not refl)

differs : (a b : ℕ) → (a ≡ b → ⊥) → a == b ≡ false
differs a b apart = grind (arith, nat_tests)

records : (o : Objects) (x : ℕ) (c : Call) → Accepted o x c → (x ≡ 0 → ⊥) → is_of_list c ≡ false → place_of c ≡ OnEach
records o x c a apart e = on_each (place_of c) x (is_right o x c a) apart (not_finish c e)

-- a call on a deferred context is recorded
pub recorded_there : (n : ℕ) (o : Objects) (x : ℕ) (c : Call) → Accepted o x c → (x ≡ 0 → ⊥) → is_of_list c ≡ false → objects_after n o x c ≡ recorded_on n o x c
recorded_there n o x c a apart e =
    ap (λ (p : Place). effect_at p n o x c) (records o x c a apart e) ∙ ap (λ (b : Bool). if b then played n o c else recorded_on n o x c) (differs x 0 apart)

pub no_deeds_there : (o : Objects) (x : ℕ) (c : Call) → Accepted o x c → (x ≡ 0 → ⊥) → is_of_list c ≡ false → deeds_by o x c ≡ []
no_deeds_there o x c a apart e =
    ap (λ (p : Place). deeds_at p o x c) (records o x c a apart e) ∙ ap (λ (b : Bool). if b then deeds_at OnEach o 0 c else []) (differs x 0 apart)

-- ---- the contexts

length_contexts : (bs : List Bindings) (ls : List (List Numbered)) → length (contexts_of bs ls) ≡ length bs
unfolding contexts_of
length_contexts [] ls = refl
length_contexts (b ∷ bs) [] = ap suc (length_contexts bs [])
length_contexts (b ∷ bs) (cs ∷ ls) = ap suc (length_contexts bs ls)

-- there are 17
pub all_contexts : (objects : code.Objects) → length (objects_of objects).contexts ≡ 17
all_contexts objects = length_contexts objects.settings.bindings (recorded_by objects.recorder) ∙ objects.settings.all

-- a call that is about no list executes none
pub no_execution : (c : Call) → is_of_list c ≡ false → is_execution c ≡ false
no_execution (calls.ExecuteList list flag) e = absurd cc
no_execution _ e = refl

-- an accepted call stands on one of the contexts
pub within : (o : Objects) (x : ℕ) (c : Call) → Accepted o x c → x < 17
within o x c a = stands_on (place_of c) x (is_right o x c a)
