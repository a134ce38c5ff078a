-- After each call, each context has as many slots as it had, and a live shader's words are those of the call that
-- created it.
use Rattle.std.proofs.Common.{◌≡◌, ℕ, zero, suc, ◌==◌, Bool, true, false, List, [], ◌∷◌, Option, Some, None, refl}
use Rattle.std.proofs.Common.{sym, ap, ◌∙◌, subst, inl, inr}
use Rattle.std.specs.Prelude.{unwrap_or, slice_get, if◌then◌else◌}
use Rattle.std.specs.List.{list_any}
use Rattle.std.proofs.lemmas.Bool.{cases_eq}
use Rattle.std.proofs.lemmas.List.{length-set, length-map}
use Rattle.dx_types.specs.declared.refusal.Refusal.{Refusal}
use Rattle.call_log.specs.Call as calls
use Rattle.call_log.specs.Call.{Call, Issued}
use Rattle.base_lemmas.specs.IdMap.{IdMap, get, insert, remove}
use Rattle.d3d_model.specs.Binding.{Bindings, BoundView, default_bindings, is_beside, without, set_srv, set_uav}
use Rattle.d3d_model.specs.D3dState.{Objects, Shader, Numbered, Context, bindings_of, words_if, calls_of_list}
use Rattle.d3d_model.specs.D3dState.{bound_view}
use Rattle.d3d_model.specs.Stream.{set_by}
use Rattle.d3d_model.specs.Verdict.{Place, OnDevice, OnImmediate, OnEach, OnDeferred, place_of}
use Rattle.d3d_model.specs.Effect.{made_by, played, played_all, list_start, recorded_on, immediate_effect, effect_at}
use Rattle.d3d_model.specs.InOrder.{State, unless_refused, verdict_in, after_call, after_calls, call_at}
use Rattle.base_lemmas.proofs.Maps.{get-empty, get_same, get_other}
use Rattle.log_script.specs.Plays.{creator}
use Rattle.log_script.specs.LogScript.{words_by}
use Rattle.log_script.proofs.Owed.BufferMakers.{none_some, one_removed}
use Rattle.log_script.proofs.Owed.ContextsHave.{EachHas, of_context, after_played, after_start, each_has}
use Rattle.log_script.proofs.Meant.AgreeingDispatch.{AllSlots}

-- ---- slots

default_slots : AllSlots default_bindings
default_slots = record { constants = refl; srvs = refl; uavs = refl }

srv_slots : (b : Bindings) (slot : ℕ) (v : Option BoundView) → AllSlots b → AllSlots (set_srv b slot v)
srv_slots b slot v h = record {
  constants = h.constants;
  srvs =
      length-set b.srvs slot (if list_any (is_beside v) b.uavs then None else v) ∙ h.srvs;
  uavs = h.uavs;
}

uav_slots : (b : Bindings) (slot : ℕ) (v : Option BoundView) → AllSlots b → AllSlots (set_uav b slot v)
uav_slots b slot v h = record {
  constants = h.constants;
  srvs = length-map b.srvs (λ s. if is_beside v s then None else s) ∙ h.srvs;
  uavs = length-set (without v b.uavs) slot v ∙ length-map b.uavs (λ s. if is_beside v s then None else s) ∙ h.uavs;
}

set_slots : (o : Objects) (b : Bindings) (c : Call) → AllSlots b → AllSlots (set_by o b c)
set_slots o b (calls.SetShader id) h = record { constants = h.constants; srvs = h.srvs; uavs = h.uavs }
set_slots o b (calls.SetConstant slot res) h = record {
  constants = length-set b.constants slot _
      ∙ h.constants;
  srvs = h.srvs;
  uavs = h.uavs;
}
set_slots o b (calls.SetSrv slot view) h = srv_slots b slot (bound_view o view) h
set_slots o b (calls.SetUav slot view) h = uav_slots b slot (bound_view o view) h
set_slots o b calls.ClearState h = default_slots
set_slots o b (calls.SetPredication kind id offset value) h =
    record { constants = h.constants; srvs = h.srvs; uavs = h.uavs }
set_slots o b _ h = h

-- each context has all its slots
abbrev pub EachSlots : List Context → Type 0
EachSlots cs = EachHas AllSlots cs

pub slots_of : (o : Objects) (x : ℕ) → EachSlots o.contexts → AllSlots (bindings_of o x)
slots_of o x h = of_context AllSlots default_slots set_slots o x h

pub played_slots : (n : ℕ) (o : Objects) (c : Call) → EachSlots o.contexts → EachSlots (played n o c).contexts
played_slots n o c h = after_played AllSlots default_slots set_slots n o c h

pub start_slots : (o : Objects) → EachSlots o.contexts → EachSlots (list_start o).contexts
start_slots o h = after_start AllSlots default_slots set_slots o h

pub all_slots_at : (log : List Issued) (n : ℕ) → EachSlots (after_calls log n).objects.contexts
all_slots_at log n = each_has AllSlots default_slots set_slots log n

-- ---- shaders

-- each live shader has the words of the call that created it
abbrev pub ShadersKnown : List Issued → IdMap Shader → Type 0
ShadersKnown log shaders = (id : ℕ) (s : Shader) → get shaders id ≡ Some s → words_by (call_at log s.call) ≡ s.words

pub creator_known : (log : List Issued) (shaders : IdMap Shader) → ShadersKnown log shaders → (id : ℕ)
    → words_by (call_at log (creator (get shaders id))) ≡ words_if (get shaders id)
creator_known log shaders h id = by_shader (get shaders id) refl
  where
    by_shader : (o : Option Shader) → get shaders id ≡ o → words_by (call_at log (creator o)) ≡ words_if o
    by_shader None e = refl
    by_shader (Some s) e = h id s e

played_all_shaders : (n : ℕ) (o : Objects) (cs : List Numbered) → (played_all n o cs).shaders ≡ o.shaders
played_all_shaders n o [] = refl
played_all_shaders n o (c ∷ cs) = played_all_shaders n (played n o c.call) cs

destroyed_known : (log : List Issued) (t1 t2 t3 t4 : Bool) (o : Objects) (id : ℕ) → ShadersKnown log o.shaders
    → ShadersKnown log (if t1 then record o { buffers = remove o.buffers id } else if t2 then record o {
      views =
          remove o.views id;
    } else if t3 then record o { shaders = remove o.shaders id } else if t4 then record o
    { queries = remove o.queries id } else record o { lists = remove o.lists id }).shaders
destroyed_known log true t2 t3 t4 o id h = h
destroyed_known log false true t3 t4 o id h = h
destroyed_known log false false true t4 o id h = λ q s e. h q s (one_removed o.shaders id q s e)
destroyed_known log false false false true o id h = h
destroyed_known log false false false false o id h = h

created_known : (log : List Issued) (n : ℕ) (shaders : IdMap Shader) (id : ℕ) (words : List ℕ)
    → words_by (call_at log n) ≡ words → ShadersKnown log shaders
    → ShadersKnown log (insert shaders id (record { call = n; words = words }))
created_known log n shaders id words is h = λ q s e. elim (cases_eq q id) [
  | inl p ↦
      let x : Shader = record { call = n; words = words } in
      let same : x ≡ s = ap (λ (o : Option Shader). unwrap_or o x) (sym (get_same shaders id x)
      ∙ ap (λ (k : ℕ). get (insert shaders id x) k) (sym p) ∙ e) in
      subst (λ (t : Shader). words_by (call_at log t.call) ≡ t.words) same is
  | inr apart ↦ h q s (sym (get_other shaders id (record { call = n; words = words }) q apart) ∙ e)
]

made_known : (log : List Issued) (n : ℕ) (o : Objects) (x : ℕ) (c : Call)
    → call_at log n ≡ Some (record { context = x; call = c }) → ShadersKnown log o.shaders
    → ShadersKnown log (made_by n o c).shaders
made_known log n o x (calls.Buffer id size usage bind misc stride bytes) at h = h
made_known log n o x (calls.View view res kind form components first count) at h = h
made_known log n o x (calls.CreateShader id words) at h = created_known log n o.shaders id words (ap words_by at) h
made_known log n o x (calls.Query id sort) at h = h
made_known log n o x (calls.Destroy class id) at h = destroyed_known log (class == 1) (class == 2) (class == 3)
    (class == 4) o id h
made_known log n o x _ at h = h

immediate_known : (log : List Issued) (n : ℕ) (o : Objects) (c : Call) → ShadersKnown log o.shaders
    → ShadersKnown log (immediate_effect n o c).shaders
immediate_known log n o (calls.ExecuteList list flag) h = subst (λ (s : IdMap Shader). ShadersKnown log s)
    (sym (played_all_shaders n (list_start o) (calls_of_list o list))) h
immediate_known log n o _ h = h

effect_known : (log : List Issued) (p : Place) (n : ℕ) (o : Objects) (x : ℕ) (c : Call)
    → call_at log n ≡ Some (record { context = x; call = c }) → ShadersKnown log o.shaders
    → ShadersKnown log (effect_at p n o x c).shaders
effect_known log OnDevice n o x c at h = made_known log n o x c at h
effect_known log OnImmediate n o x c at h = immediate_known log n o c h
effect_known log OnEach n o x c at h =
    elim (x == 0) as (λ b. ShadersKnown log (if b then played n o c else recorded_on n o x c).shaders)
    [ true ↦ h | false ↦ h ]
effect_known log OnDeferred n o x c at h = h

pub shaders_known : (log : List Issued) (n : ℕ) → ShadersKnown log (after_calls log n).objects.shaders
unfolding after_calls
shaders_known log zero = λ id s e. absurd (none_some _ s (get-empty Shader id) e)
shaders_known log (suc n) = after_one (suc n) (after_calls log n) (slice_get log n) refl (shaders_known log n)
  where
    unless : (n : ℕ) (s : State) (i : Issued) (v : Option Refusal) → call_at log n ≡ Some i
        → ShadersKnown log s.objects.shaders → ShadersKnown log (unless_refused n s i v).objects.shaders
    unless n s i (Some why) at h = h
    unless n s i None at h = effect_known log (place_of i.call) n s.objects i.context i.call at h

    after_one : (n : ℕ) (s : State) (o : Option Issued) → call_at log n ≡ o → ShadersKnown log s.objects.shaders
        → ShadersKnown log (after_call n s o).objects.shaders
    after_one n s None at h = h
    after_one n s (Some i) at h = unless n s i (verdict_in s i) at h
