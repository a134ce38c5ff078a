-- A dispatch has a shader that is set: where it is called, and in a list, whose calls set what they set wherever the
-- list is executed.
use Rattle.std.proofs.Common.{◌≡◌, ℕ, zero, suc, ◌==◌, Bool, true, false, not, ◌||◌, List, [], ◌∷◌, ◌++◌, Option}
use Rattle.std.proofs.Common.{Some, None, refl, sym, ap, ◌∙◌, subst, inl, inr}
use Rattle.std.specs.Prelude.{⊤, slice_get, slice_set, slice_index_or, nat_lt, if◌then◌else◌}
use Rattle.std.specs.List.{AllByRecursion}
use Rattle.std.proofs.lemmas.Bool.{cases_Bool}
use Rattle.dx_types.specs.declared.refusal.Refusal.{Refusal}
use Rattle.dx_types.specs.declared.refusal.Refusal.TheVariants.{WrongContext, TooMuchMemory}
use Rattle.call_log.specs.Call as calls
use Rattle.call_log.specs.Call.{Call, Issued}
use Rattle.base_lemmas.specs.IdMap.{get, remove, empty}
use Rattle.d3d_model.specs.Check.{is_named}
use Rattle.d3d_model.specs.Binding.{Bindings, default_bindings}
use Rattle.d3d_model.specs.D3dState.{Objects, Numbered, Context, default_context, context_of, bindings_of, calls_if}
use Rattle.d3d_model.specs.D3dState.{calls_of_list}
use Rattle.d3d_model.specs.Past.{Past}
use Rattle.d3d_model.specs.Stream.{set_by}
use Rattle.d3d_model.specs.Verdict.{Place, OnDevice, OnImmediate, OnEach, OnDeferred, place_of, is_wrong_at}
use Rattle.d3d_model.specs.Verdict.{is_too_long, call_checks, verdict, has_shader}
use Rattle.d3d_model.specs.Effect.{list_of, made_by, played, played_all, list_start, executed, recorded_on, finished}
use Rattle.d3d_model.specs.Effect.{immediate_effect, effect_at}
use Rattle.d3d_model.specs.InOrder.{State, unless_refused, verdict_in, after_call, after_calls}
use Rattle.base_lemmas.proofs.Maps.{get-empty}
use Rattle.d3d_model.proofs.Checked.{Passed, all_passed}
use Rattle.d3d_model.proofs.Listed.{own_checks}
use Rattle.log_script.proofs.Owed.BufferMakers.{one_removed}
use Rattle.log_script.proofs.Owed.FittingLogs.{found_none}
use Rattle.log_script.proofs.Owed.FittingStates.{inserted}
use Rattle.log_script.proofs.Owed.StayingFit.{all_set, all_at, all_replicate}

-- ---- what a call sets

abbrev pub shader_after : ℕ → Call → ℕ
shader_after shader (calls.SetShader id) = id
shader_after shader calls.ClearState = 0
shader_after shader _ = shader

abbrev pub is_dispatch : Call → Bool
is_dispatch (calls.Dispatch x y z) = true
is_dispatch (calls.DispatchIndirect res offset) = true
is_dispatch _ = false

-- a shader is set where a call dispatches
abbrev pub HasShader : ℕ → Call → Type 0
HasShader shader c = is_dispatch c ≡ true → is_named shader ≡ true

-- each dispatch of these calls has one, where the first call meets this one
abbrev pub HaveShaders : ℕ → List Numbered → Type 0
HaveShaders shader [] = ⊤
HaveShaders shader (c ∷ cs) = HasShader shader c.call × HaveShaders (shader_after shader c.call) cs

abbrev pub shader_behind : ℕ → List Numbered → ℕ
shader_behind shader [] = shader
shader_behind shader (c ∷ cs) = shader_behind (shader_after shader c.call) cs

pub set_shader_is : (o : Objects) (b : Bindings) (c : Call) → (set_by o b c).shader ≡ shader_after b.shader c
set_shader_is o b (calls.SetShader id) = refl
set_shader_is o b calls.ClearState = refl
set_shader_is o b (calls.SetConstant slot res) = refl
set_shader_is o b (calls.SetSrv slot view) = refl
set_shader_is o b (calls.SetUav slot view) = refl
set_shader_is o b (calls.SetPredication kind id offset value) = refl
set_shader_is o b _ = refl

one_more : (shader : ℕ) (cs : List Numbered) (c : Numbered) → HaveShaders shader cs
    → HasShader (shader_behind shader cs) c.call → HaveShaders shader (cs ++ c ∷ [])
one_more shader [] c h k = (k, tt)
one_more shader (d ∷ cs) c h k = (h.0, one_more (shader_after shader d.call) cs c h.1 k)

behind_one : (shader : ℕ) (cs : List Numbered) (c : Numbered)
    → shader_behind shader (cs ++ c ∷ []) ≡ shader_after (shader_behind shader cs) c.call
behind_one shader [] c = refl
behind_one shader (d ∷ cs) c = behind_one (shader_after shader d.call) cs c

-- ---- deferred contexts and lists

-- what is set on a deferred context is what the calls of its open list set
pub record IsShaded (c : Context) : Type 0 where
  pub set : c.bindings.shader ≡ shader_behind 0 c.recorded
  pub calls : HaveShaders 0 c.recorded

abbrev deferred : List Context → List Context
deferred [] = []
deferred (c ∷ cs) = cs

abbrev AllShaded : List Context → Type 0
AllShaded cs = AllByRecursion IsShaded (deferred cs)

abbrev ListsShaded : Objects → Type 0
ListsShaded o = (l : ℕ) (cs : List Numbered) → get o.lists l ≡ Some cs → HaveShaders 0 cs

default_shaded : IsShaded default_context
default_shaded = record { set = refl; calls = tt }

at_zero : (cs : List Context) (c : Context) → AllShaded cs → AllShaded (slice_set cs 0 c)
at_zero [] c h = h
at_zero (d ∷ cs) c h = h

at_other : (cs : List Context) (x : ℕ) (c : Context) → (x == 0) ≡ false → IsShaded c → AllShaded cs
    → AllShaded (slice_set cs x c)
at_other [] x c e s h = h
at_other (d ∷ cs) zero c e s h = absurd cc
at_other (d ∷ cs) (suc x) c e s h = all_set IsShaded cs x c s h

shaded_at : (o : Objects) (x : ℕ) → (x == 0) ≡ false → AllShaded o.contexts → IsShaded (context_of o x)
shaded_at o x e h = by o.contexts x e h
  where
    by : (cs : List Context) (x : ℕ) → (x == 0) ≡ false → AllShaded cs → IsShaded (slice_index_or cs x default_context)
    by [] x e h = default_shaded
    by (d ∷ cs) zero e h = absurd cc
    by (d ∷ cs) (suc x) e h = all_at IsShaded cs x default_context default_shaded h

pub record StateShaded (o : Objects) : Type 0 where
  pub contexts : AllShaded o.contexts
  pub lists : ListsShaded o

-- ---- after a call

-- a list's calls are played on context 0 alone
played_shaded : (n : ℕ) (o : Objects) (cs : List Numbered) → AllShaded o.contexts
    → AllShaded (played_all n o cs).contexts
played_shaded n o [] h = h
played_shaded n o (c ∷ cs) h = played_shaded n (played n o c.call) cs
    (at_zero o.contexts (record {
      bindings = set_by o (bindings_of o 0) c.call;
      recorded =
          (context_of o 0).recorded;
    }) h)

lists_same : (n : ℕ) (o : Objects) (cs : List Numbered) → (played_all n o cs).lists ≡ o.lists
lists_same n o [] = refl
lists_same n o (c ∷ cs) = lists_same n (played n o c.call) cs

executed_shaded : (n : ℕ) (o : Objects) (list flag : ℕ) → StateShaded o → StateShaded (executed n o list flag)
executed_shaded n o list flag h =
    let start : Objects = list_start o in
    let o' : Objects = played_all n start (calls_of_list o list) in
    record {
      contexts = at_zero o'.contexts _ (played_shaded n start (calls_of_list o list)
          (at_zero o.contexts (record { bindings = default_bindings; recorded = (context_of o 0).recorded })
          h.contexts));
      lists = λ l cs e. h.lists l cs (sym (ap (λ m. get m l) (lists_same n start (calls_of_list o list))) ∙ e);
    }

recorded_shaded : (n : ℕ) (o : Objects) (x : ℕ) (c : Call) → (x == 0) ≡ false → HasShader (bindings_of o x).shader c
    → StateShaded o → StateShaded (recorded_on n o x c)
recorded_shaded n o x c e has h =
    let was = shaded_at o x e h.contexts in
    let call : Numbered = record { number = n; call = c } in
    record {
      contexts = at_other o.contexts x (record {
        bindings = set_by o (bindings_of o x) c;
        recorded =
            (context_of o x).recorded ++ call ∷ [];
      }) e
          (record {
            set = set_shader_is o (bindings_of o x) c ∙ ap (λ s. shader_after s c) was.set
                ∙ sym (behind_one 0 (context_of o x).recorded call);
            calls = one_more 0 (context_of o x).recorded call was.calls (λ d. sym (ap is_named was.set) ∙ has d);
          }) h.contexts;
      lists = h.lists;
    }

finished_shaded : (o : Objects) (x list : ℕ) → (x == 0) ≡ false → StateShaded o → StateShaded (finished o x list)
finished_shaded o x list e h = record {
  contexts = at_other o.contexts x default_context e default_shaded h.contexts;
  lists = λ l cs is. elim (inserted o.lists list (context_of o x).recorded l cs is) [
    | inl f ↦ subst (HaveShaders 0) f (shaded_at o x e h.contexts).calls
    | inr f ↦ h.lists l cs f
  ];
}

destroyed_shaded : (t1 t2 t3 t4 : Bool) (o : Objects) (id : ℕ) → StateShaded o
    → StateShaded (if t1 then record o { buffers = remove o.buffers id } else if t2 then record o {
      views =
          remove o.views id;
    } else if t3 then record o { shaders = remove o.shaders id } else if t4 then record o
    { queries = remove o.queries id } else record o { lists = remove o.lists id })
destroyed_shaded true t2 t3 t4 o id h = record { contexts = h.contexts; lists = h.lists }
destroyed_shaded false true t3 t4 o id h = record { contexts = h.contexts; lists = h.lists }
destroyed_shaded false false true t4 o id h = record { contexts = h.contexts; lists = h.lists }
destroyed_shaded false false false true o id h = record { contexts = h.contexts; lists = h.lists }
destroyed_shaded false false false false o id h = record {
  contexts = h.contexts;
  lists =
      λ l cs e. h.lists l cs (one_removed o.lists id l cs e);
}

made_shaded : (n : ℕ) (o : Objects) (c : Call) → StateShaded o → StateShaded (made_by n o c)
made_shaded n o (calls.Buffer id size usage bind misc stride bytes) h =
    record { contexts = h.contexts; lists = h.lists }
made_shaded n o (calls.View view res kind form components first count) h =
    record { contexts = h.contexts; lists = h.lists }
made_shaded n o (calls.CreateShader id words) h = record { contexts = h.contexts; lists = h.lists }
made_shaded n o (calls.Query id sort) h = record { contexts = h.contexts; lists = h.lists }
made_shaded n o (calls.Destroy class id) h = destroyed_shaded (class == 1) (class == 2) (class == 3) (class == 4) o id h
made_shaded n o _ h = h

immediate_shaded : (n : ℕ) (o : Objects) (c : Call) → StateShaded o → StateShaded (immediate_effect n o c)
immediate_shaded n o (calls.ExecuteList list flag) h = executed_shaded n o list flag h
immediate_shaded n o _ h = h

-- a dispatch that is accepted has a shader
not_false : (b : Bool) → not b ≡ false → b ≡ true
not_false true e = refl
not_false false e = absurd cc

pub accepted_shaded : (o : Objects) (past : Past) (x : ℕ) (c : Call) → Passed (call_checks o past x c)
    → HasShader (bindings_of o x).shader c
accepted_shaded o past x (calls.Dispatch gx gy gz) p d = not_false (has_shader o x) p.0
accepted_shaded o past x (calls.DispatchIndirect res offset) p d = not_false (has_shader o x) p.1.1.1.0
accepted_shaded o past x _ p d = absurd cc

effect_shaded : (p : Place) (n : ℕ) (o : Objects) (past : Past) (x : ℕ) (c : Call)
    → ((x == 0) ≡ true → p ≡ OnDeferred → ⊥) → Passed (call_checks o past x c) → StateShaded o
    → StateShaded (effect_at p n o x c)
effect_shaded OnDevice n o past x c w q h = made_shaded n o c h
effect_shaded OnImmediate n o past x c w q h = immediate_shaded n o c h
effect_shaded OnEach n o past x c w q h = elim (x == 0) as (λ b. (x == 0) ≡ b
    → StateShaded (if b then played n o c else recorded_on n o x c)) [
      | true ↦ λ e. record {
        contexts =
            at_zero o.contexts (record {
              bindings = set_by o (bindings_of o 0) c;
              recorded =
                  (context_of o 0).recorded;
            })
            h.contexts;
        lists = h.lists;
      }
      | false ↦ λ e. recorded_shaded n o x c e (accepted_shaded o past x c q) h
    ] refl
effect_shaded OnDeferred n o past x c w q h = elim (cases_Bool (x == 0)) [
  | inl e ↦ absurd (w e refl)
  | inr e ↦ finished_shaded o x (list_of c) e h
]

-- a FinishList comes on a deferred context
not_immediate : (o : Objects) (past : Past) (x : ℕ) (c : Call)
    → verdict o past (record { context = x; call = c }) ≡ None → (x == 0) ≡ true → place_of c ≡ OnDeferred → ⊥
not_immediate o past x c e first p =
    let right : is_wrong_at (place_of c) x ≡ false =
    (all_passed ((is_wrong_at (place_of c) x, WrongContext) ∷
    (call_checks o past x c ++ (is_too_long o x (place_of c), TooMuchMemory) ∷ [])) e).0 in
    let z : true ≡ false = sym (ap (λ b. b || nat_lt 16 x) first) ∙ subst (λ p. is_wrong_at p x ≡ false) p right in cc z

pub all_shaded : (log : List Issued) (n : ℕ) → StateShaded (after_calls log n).objects
unfolding after_calls
all_shaded log zero = record {
  contexts = all_replicate IsShaded 16 default_context default_shaded;
  lists = λ l cs e. found_none (get (empty {X = List Numbered}) l) cs (get-empty (List Numbered) l) e;
}
all_shaded log (suc n) = after_one (suc n) (after_calls log n) (slice_get log n) (all_shaded log n)
  where
    unless : (n : ℕ) (s : State) (i : Issued) (v : Option Refusal) → verdict_in s i ≡ v → StateShaded s.objects
        → StateShaded (unless_refused n s i v).objects
    unless n s i (Some why) e h = h
    unless n s i None e h =
        effect_shaded (place_of i.call) n s.objects s.past i.context i.call
        (not_immediate s.objects s.past i.context i.call e) (own_checks s.objects s.past i.context i.call e) h

    after_one : (n : ℕ) (s : State) (o : Option Issued) → StateShaded s.objects → StateShaded (after_call n s o).objects
    after_one n s None h = h
    after_one n s (Some i) h = unless n s i (verdict_in s i) refl h

-- the calls of a list that is executed have shaders, from the default state on
pub list_shaded : (o : Objects) (list : ℕ) → StateShaded o → HaveShaders 0 (calls_of_list o list)
list_shaded o list h = by_list (get o.lists list) refl
  where
    by_list : (found : Option (List Numbered)) → get o.lists list ≡ found → HaveShaders 0 (calls_if found)
    by_list None e = tt
    by_list (Some cs) e = h.lists list cs e
