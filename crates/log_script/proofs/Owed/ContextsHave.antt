-- What holds of the default bindings, and stays true as calls set others, holds of what is set on each context after
-- each call.
use Rattle.std.proofs.Common.{ℕ, zero, suc, ◌==◌, Bool, true, false, List, [], ◌∷◌, Option, Some, None}
use Rattle.std.specs.Prelude.{slice_get, slice_set, if◌then◌else◌}
use Rattle.std.specs.List.{AllByRecursion}
use Rattle.dx_types.specs.declared.refusal.Refusal.{Refusal}
use Rattle.call_log.specs.Call as calls
use Rattle.call_log.specs.Call.{Call, Issued}
use Rattle.base_lemmas.specs.IdMap.{remove}
use Rattle.d3d_model.specs.Binding.{Bindings, default_bindings}
use Rattle.d3d_model.specs.D3dState.{Objects, Numbered, Context, default_context, context_of, bindings_of}
use Rattle.d3d_model.specs.D3dState.{calls_of_list}
use Rattle.d3d_model.specs.Stream.{set_by}
use Rattle.d3d_model.specs.Verdict.{Place, OnDevice, OnImmediate, OnEach, OnDeferred, place_of}
use Rattle.d3d_model.specs.Effect.{made_by, played, played_all, list_start, executed, recorded_on, immediate_effect}
use Rattle.d3d_model.specs.Effect.{effect_at}
use Rattle.d3d_model.specs.InOrder.{State, unless_refused, verdict_in, after_call, after_calls}
use Rattle.log_script.proofs.Owed.StayingFit.{all_set, all_at, all_replicate}

abbrev pub EachHas : (Bindings → Type 0) → List Context → Type 0
EachHas P cs = AllByRecursion (λ c. P c.bindings) cs

module _ (P : Bindings → Type 0) (at_first : P default_bindings) (kept : (o : Objects) (b : Bindings) (c : Call)
    → P b → P (set_by o b c)) where
  pub of_context : (o : Objects) (x : ℕ) → EachHas P o.contexts → P (bindings_of o x)
  of_context o x h = all_at (λ (c : Context). P c.bindings) o.contexts x default_context at_first h

  with_one : (o : Objects) (x : ℕ) (c : Context) → P c.bindings → EachHas P o.contexts
      → EachHas P (slice_set o.contexts x c)
  with_one o x c s h = all_set (λ (k : Context). P k.bindings) o.contexts x c s h

  pub after_played : (n : ℕ) (o : Objects) (c : Call) → EachHas P o.contexts → EachHas P (played n o c).contexts
  after_played n o c h =
      with_one o 0 (record { bindings = set_by o (bindings_of o 0) c; recorded = (context_of o 0).recorded })
      (kept o (bindings_of o 0) c (of_context o 0 h)) h

  pub after_start : (o : Objects) → EachHas P o.contexts → EachHas P (list_start o).contexts
  after_start o h = with_one o 0 (record { bindings = default_bindings; recorded = (context_of o 0).recorded })
      at_first h

  after_all : (n : ℕ) (o : Objects) (cs : List Numbered) → EachHas P o.contexts → EachHas P (played_all n o cs).contexts
  after_all n o [] h = h
  after_all n o (c ∷ cs) h = after_all n (played n o c.call) cs (after_played n o c.call h)

  after_list : (n : ℕ) (o : Objects) (list flag : ℕ) → EachHas P o.contexts
      → EachHas P (executed n o list flag).contexts
  after_list n o list flag h =
      let o' : Objects = played_all n (list_start o) (calls_of_list o list) in
      let again : Bindings = if flag == 1 then bindings_of o 0 else default_bindings in
      with_one o' 0 (record { bindings = again; recorded = (context_of o' 0).recorded })
      (elim (flag == 1) as (λ b. P (if b then bindings_of o 0 else default_bindings))
      [ true ↦ of_context o 0 h | false ↦ at_first ])
      (after_all n (list_start o) (calls_of_list o list) (after_start o h))

  after_destroy : (t1 t2 t3 t4 : Bool) (o : Objects) (id : ℕ) → EachHas P o.contexts
      → EachHas P (if t1 then record o { buffers = remove o.buffers id } else if t2 then record o {
        views =
            remove o.views id;
      } else if t3 then record o { shaders = remove o.shaders id } else if t4 then record o
      { queries = remove o.queries id } else record o { lists = remove o.lists id }).contexts
  after_destroy true t2 t3 t4 o id h = h
  after_destroy false true t3 t4 o id h = h
  after_destroy false false true t4 o id h = h
  after_destroy false false false true o id h = h
  after_destroy false false false false o id h = h

  after_making : (n : ℕ) (o : Objects) (c : Call) → EachHas P o.contexts → EachHas P (made_by n o c).contexts
  after_making n o (calls.Buffer id size usage bind misc stride bytes) h = h
  after_making n o (calls.View view res kind form components first count) h = h
  after_making n o (calls.CreateShader id words) h = h
  after_making n o (calls.Query id sort) h = h
  after_making n o (calls.Destroy class id) h = after_destroy (class == 1) (class == 2) (class == 3) (class == 4) o id h
  after_making n o _ h = h

  after_immediate : (n : ℕ) (o : Objects) (c : Call) → EachHas P o.contexts
      → EachHas P (immediate_effect n o c).contexts
  after_immediate n o (calls.ExecuteList list flag) h = after_list n o list flag h
  after_immediate n o _ h = h

  after_effect : (p : Place) (n : ℕ) (o : Objects) (x : ℕ) (c : Call) → EachHas P o.contexts
      → EachHas P (effect_at p n o x c).contexts
  after_effect OnDevice n o x c h = after_making n o c h
  after_effect OnImmediate n o x c h = after_immediate n o c h
  after_effect OnEach n o x c h =
      elim (x == 0) as (λ b. EachHas P (if b then played n o c else recorded_on n o x c).contexts) [
        | true ↦ after_played n o c h
        | false ↦ with_one o x _ (kept o (bindings_of o x) c (of_context o x h)) h
      ]
  after_effect OnDeferred n o x c h = with_one o x default_context at_first h

  pub each_has : (log : List Issued) (n : ℕ) → EachHas P (after_calls log n).objects.contexts
  unfolding after_calls
  each_has log zero = all_replicate (λ (c : Context). P c.bindings) 17 default_context at_first
  each_has log (suc n) = after_one (suc n) (after_calls log n) (slice_get log n) (each_has log n)
    where
      unless : (n : ℕ) (s : State) (i : Issued) (v : Option Refusal) → EachHas P s.objects.contexts
          → EachHas P (unless_refused n s i v).objects.contexts
      unless n s i (Some why) h = h
      unless n s i None h = after_effect (place_of i.call) n s.objects i.context i.call h

      after_one : (n : ℕ) (s : State) (o : Option Issued) → EachHas P s.objects.contexts
          → EachHas P (after_call n s o).objects.contexts
      after_one n s None h = h
      after_one n s (Some i) h = unless n s i (verdict_in s i) h
