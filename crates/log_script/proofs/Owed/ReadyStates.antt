-- What is known of the objects that a call meets, by itself or in a list, beside that they fit: their slots, views
-- and makers.
use Rattle.std.proofs.Common.{◌≡◌, ℕ, ◌<◌, true, List, [], ◌∷◌, length, Option, Some, None, refl, ap, ◌∙◌, arith}
use Rattle.std.specs.Prelude.{is_some, slice_set, slice_index_or}
use Rattle.dx_types.specs.declared.shape.ViewShape.{ViewShape}
use Rattle.call_log.specs.Call.{Call, Issued}
use Rattle.base_lemmas.specs.IdMap.{get}
use Rattle.d3d_model.specs.Binding.{default_bindings}
use Rattle.d3d_model.specs.D3dState.{Objects, Numbered, Context, default_context, buffer_of, context_of, bindings_of}
use Rattle.d3d_model.specs.D3dState.{calls_if, calls_of_list}
use Rattle.d3d_model.specs.Past.{Past}
use Rattle.d3d_model.specs.Stream.{set_by}
use Rattle.d3d_model.specs.Effect.{played, list_start}
use Rattle.d3d_model.specs.InOrder.{State, after_calls}
use Rattle.log_script.specs.Makers.{maker}
use Rattle.log_script.specs.Standing.{ViewWhole, CallStands}
use Rattle.log_script.specs.Fitting.{ViewsApart}
use Rattle.log_script.proofs.Owed.BufferMakers.{all_made, one_maker}
use Rattle.log_script.proofs.Owed.ContextsHave.{EachHas, of_context, after_played, after_start}
use Rattle.log_script.proofs.Owed.FittingStates.{StateFits, context_fits}
use Rattle.log_script.proofs.Owed.WholeViews.{whole_views}
use Rattle.log_script.proofs.Owed.ViewsApart.{default_apart, set_apart, all_apart}
use Rattle.log_script.proofs.Owed.StandingCalls.{lists_stand}
use Rattle.log_script.proofs.Owed.RecordedCalls.{All}
use Rattle.log_script.proofs.Owed.ContextCount.{contexts_count}
use Rattle.log_script.proofs.Owed.SetShaders.{HasShader, shader_after, set_shader_is, StateShaded, all_shaded}
use Rattle.log_script.proofs.Owed.FormedPlays.{Meets}
use Rattle.log_script.proofs.Meant.AgreeingContexts.{EachSlots, slots_of, played_slots, start_slots, all_slots_at}

pub record Known (past : Past) (o : Objects) : Type 0 where
  pub own : (id other : ℕ) → is_some (buffer_of o id) ≡ true → is_some (buffer_of o other) ≡ true
      → maker past id ≡ maker past other → id ≡ other
  pub whole : (id : ℕ) (v : ViewShape) → get o.views id ≡ Some v → ViewWhole v
  pub slots : EachSlots o.contexts
  pub apart : EachHas ViewsApart o.contexts
  -- there is a context 0
  pub long : 0 < length o.contexts

pub meets_at : (past : Past) (o : Objects) → StateFits o → Known past o → Meets past o (bindings_of o 0)
meets_at past o h k = record {
  own = k.own;
  buffers = h.buffers;
  views = h.views;
  whole = k.whole;
  set = (context_fits o 0 h).set;
  slots = slots_of o 0 k.slots;
  apart = of_context ViewsApart default_apart set_apart o 0 k.apart;
}

-- a call is played on the immediate context
pub record ReadyFor (past : Past) (o : Objects) (c : Call) : Type 0 where
  pub known : Known past o
  pub stands : CallStands o c
  pub shader : HasShader (bindings_of o 0).shader c

set_first : (cs : List Context) (c : Context) → 0 < length cs → slice_index_or (slice_set cs 0 c) 0 default_context ≡ c
set_first [] c h = absurd (omega (arith, h))
set_first (d ∷ cs) c h = refl

set_long : (cs : List Context) (c : Context) → 0 < length cs → 0 < length (slice_set cs 0 c)
set_long [] c h = h
set_long (d ∷ cs) c h = omega arith

pub known_played : (past : Past) (n : ℕ) (o : Objects) (c : Call) → Known past o → Known past (played n o c)
known_played past n o c k = record {
  own = k.own;
  whole = k.whole;
  slots = played_slots n o c k.slots;
  apart = after_played ViewsApart default_apart set_apart n o c k.apart;
  long = set_long o.contexts (record {
    bindings = set_by o (bindings_of o 0) c;
    recorded =
        (context_of o 0).recorded;
  }) k.long;
}

pub known_start : (past : Past) (o : Objects) → Known past o → Known past (list_start o)
known_start past o k = record {
  own = k.own;
  whole = k.whole;
  slots = start_slots o k.slots;
  apart = after_start ViewsApart default_apart set_apart o k.apart;
  long = set_long o.contexts (record { bindings = default_bindings; recorded = (context_of o 0).recorded }) k.long;
}

pub played_shader : (past : Past) (n : ℕ) (o : Objects) (c : Call) → Known past o
    → (bindings_of (played n o c) 0).shader ≡ shader_after (bindings_of o 0).shader c
played_shader past n o c k =
    ap (λ (x : Context). x.bindings.shader) (set_first o.contexts
    (record { bindings = set_by o (bindings_of o 0) c; recorded = (context_of o 0).recorded }) k.long)
    ∙ set_shader_is o (bindings_of o 0) c

pub start_shader : (past : Past) (o : Objects) → Known past o → (bindings_of (list_start o) 0).shader ≡ 0
start_shader past o k =
    ap (λ (x : Context). x.bindings.shader) (set_first o.contexts
    (record { bindings = default_bindings; recorded = (context_of o 0).recorded }) k.long)

-- a state between calls
pub record StateReady (s : State) : Type 0 where
  pub known : Known s.past s.objects
  pub lists : (list : ℕ) → All (CallStands s.objects) (calls_of_list s.objects list)
  pub shaded : StateShaded s.objects

lists_at : (log : List Issued) (n list : ℕ) → All (CallStands (after_calls log n).objects)
    (calls_of_list (after_calls log n).objects list)
lists_at log n list = by_list (get (after_calls log n).objects.lists list) refl
  where
    by_list : (found : Option (List Numbered)) → get (after_calls log n).objects.lists list ≡ found
        → All (CallStands (after_calls log n).objects) (calls_if found)
    by_list None e = tt
    by_list (Some cs) e = (lists_stand log n).listed list cs e

pub state_ready : (log : List Issued) (n : ℕ) → StateReady (after_calls log n)
state_ready log n = record {
  known = record {
    own = λ id other e f same. one_maker log n (after_calls log n).objects.buffers (after_calls log n).past
        (all_made log n) id other e f same;
    whole = whole_views log n;
    slots = all_slots_at log n;
    apart = all_apart log n;
    long = let c = contexts_count log n in omega (arith, c);
  };
  lists = lists_at log n;
  shaded = all_shaded log n;
}
