-- There are as many contexts after each call as there were.
use Rattle.std.proofs.Common.{◌≡◌, ℕ, zero, suc, ◌==◌, Bool, true, false, List, [], ◌∷◌, length, Option, Some, None}
use Rattle.std.proofs.Common.{refl, ◌∙◌}
use Rattle.std.specs.Prelude.{slice_get, if◌then◌else◌}
use Rattle.std.proofs.lemmas.List.{length-set}
use Rattle.dx_types.specs.declared.refusal.Refusal.{Refusal}
use Rattle.call_log.specs.Call as calls
use Rattle.call_log.specs.Call.{Call, Issued}
use Rattle.base_lemmas.specs.IdMap.{remove}
use Rattle.d3d_model.specs.Binding.{default_bindings}
use Rattle.d3d_model.specs.D3dState.{Objects, Numbered, default_context, context_of, bindings_of, calls_of_list}
use Rattle.d3d_model.specs.Stream.{set_by}
use Rattle.d3d_model.specs.Verdict.{Place, OnDevice, OnImmediate, OnEach, OnDeferred, place_of}
use Rattle.d3d_model.specs.Effect.{made_by, played, played_all, list_start, recorded_on, immediate_effect, effect_at}
use Rattle.d3d_model.specs.InOrder.{State, unless_refused, verdict_in, after_call, after_calls}

of_list : (n : ℕ) (o : Objects) (cs : List Numbered) → length (played_all n o cs).contexts ≡ length o.contexts
of_list n o [] = refl
of_list n o (c ∷ cs) = of_list n (played n o c.call) cs ∙ length-set o.contexts 0
    (record { bindings = set_by o (bindings_of o 0) c.call; recorded = (context_of o 0).recorded })

of_destroyed : (t1 t2 t3 t4 : Bool) (o : Objects) (id : ℕ)
    → length (if t1 then record o { buffers = remove o.buffers id } else if t2 then record o {
      views =
          remove o.views id;
    } else if t3 then record o { shaders = remove o.shaders id } else if t4 then record o
    { queries = remove o.queries id } else record o { lists = remove o.lists id }).contexts
    ≡ length o.contexts
of_destroyed true t2 t3 t4 o id = refl
of_destroyed false true t3 t4 o id = refl
of_destroyed false false true t4 o id = refl
of_destroyed false false false true o id = refl
of_destroyed false false false false o id = refl

of_making : (n : ℕ) (o : Objects) (c : Call) → length (made_by n o c).contexts ≡ length o.contexts
of_making n o (calls.Buffer id size usage bind misc stride bytes) = refl
of_making n o (calls.View view res kind form components first count) = refl
of_making n o (calls.CreateShader id words) = refl
of_making n o (calls.Query id sort) = refl
of_making n o (calls.Destroy class id) = of_destroyed (class == 1) (class == 2) (class == 3) (class == 4) o id
of_making n o _ = refl

of_immediate : (n : ℕ) (o : Objects) (c : Call) → length (immediate_effect n o c).contexts ≡ length o.contexts
of_immediate n o (calls.ExecuteList list flag) =
    length-set (played_all n (list_start o) (calls_of_list o list)).contexts 0 _
    ∙ of_list n (list_start o) (calls_of_list o list)
    ∙ length-set o.contexts 0 (record { bindings = default_bindings; recorded = (context_of o 0).recorded })
of_immediate n o _ = refl

of_effect : (p : Place) (n : ℕ) (o : Objects) (x : ℕ) (c : Call)
    → length (effect_at p n o x c).contexts ≡ length o.contexts
of_effect OnDevice n o x c = of_making n o c
of_effect OnImmediate n o x c = of_immediate n o c
of_effect OnEach n o x c = elim (x == 0) as (λ b. length (if b then played n o c else recorded_on n o x c).contexts
    ≡ length o.contexts) [
      | true ↦ length-set o.contexts 0 (record {
        bindings = set_by o (bindings_of o 0) c;
        recorded =
            (context_of o 0).recorded;
      })
      | false ↦ length-set o.contexts x _
    ]
of_effect OnDeferred n o x c = length-set o.contexts x default_context

pub contexts_count : (log : List Issued) (n : ℕ) → length (after_calls log n).objects.contexts ≡ 17
unfolding after_calls
contexts_count log zero = refl
contexts_count log (suc n) = after_one (suc n) (after_calls log n) (slice_get log n) ∙ contexts_count log n
  where
    unless : (n : ℕ) (s : State) (i : Issued) (v : Option Refusal)
        → length (unless_refused n s i v).objects.contexts ≡ length s.objects.contexts
    unless n s i (Some why) = refl
    unless n s i None = of_effect (place_of i.call) n s.objects i.context i.call

    after_one : (n : ℕ) (s : State) (o : Option Issued) → length (after_call n s o).objects.contexts
        ≡ length s.objects.contexts
    after_one n s None = refl
    after_one n s (Some i) = unless n s i (verdict_in s i)
