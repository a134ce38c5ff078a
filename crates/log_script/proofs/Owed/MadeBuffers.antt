-- What holds of each buffer that is created holds of each that lives.
use Rattle.std.proofs.Common.{◌≡◌, ℕ, zero, suc, ◌<◌, Bool, true, false, not, List, Option, Some, None, refl, sym}
use Rattle.std.proofs.Common.{subst, arith}
use Rattle.std.specs.Prelude.{◌==◌, is_some, slice_get, nat_lt, nat_le, if◌then◌else◌}
use Rattle.std.proofs.lemmas.Bool.{and_parts, ltb-true, ltb-false, eqb-false}
use Rattle.dx_types.specs.declared.refusal.Refusal.{Refusal}
use Rattle.dx_types.specs.declared.shape.Shape.{Shape}
use Rattle.call_log.specs.Call as calls
use Rattle.call_log.specs.Call.{Call, Issued}
use Rattle.base_lemmas.specs.IdMap.{get, remove}
use Rattle.d3d_model.specs.Check.{has, is_id}
use Rattle.d3d_model.specs.Resource.{Buffers, usage_from}
use Rattle.d3d_model.specs.D3dState.{Objects, calls_of_list}
use Rattle.d3d_model.specs.Past.{Past}
use Rattle.d3d_model.specs.Verdict.{buffer_checks, call_checks, bad_stride}
use Rattle.d3d_model.specs.Effect.{played, recorded_on, list_start, objects_after}
use Rattle.d3d_model.specs.InOrder.{State, unless_refused, verdict_in, after_call, after_calls}
use Rattle.d3d_model.proofs.Checked.{Passed}
use Rattle.d3d_model.proofs.Sized.{same_buffers_all}
use Rattle.d3d_model.proofs.Listed.{own_checks, left_of, one_removed}
use Rattle.d3d_model.proofs.Named.{none_of}
use Rattle.log_script.proofs.Owed.Entries.{AllIn, all_empty, all_insert}

-- the shape that a creation describes
abbrev pub described_shape : (size usage bind misc stride : ℕ) → Shape
described_shape size usage bind misc stride = record {
  size = size;
  usage = usage_from usage;
  bind = bind;
  misc =
      misc;
  stride = stride;
}

-- a creation that passes its checks makes what has the property
abbrev pub AtCreation : (ℕ → Shape → Type 0) → Type 0
AtCreation P = (o : Objects) (id size usage bind misc stride : ℕ) (bytes : List ℕ)
    → Passed (buffer_checks o id size usage bind misc stride bytes)
    → P id (described_shape size usage bind misc stride)

abbrev pub AllLive : (ℕ → Shape → Type 0) → Buffers → Type 0
AllLive P buffers = AllIn P buffers

kept_if : (t1 t2 t3 t4 : Bool) (o : Objects) (i q : ℕ) (s : Shape)
    → get (if t1 then record o { buffers = remove o.buffers i } else if t2 then record o {
      views =
          remove o.views i;
    } else if t3 then record o { shaders = remove o.shaders i } else if t4 then record o
    { queries = remove o.queries i } else record o { lists = remove o.lists i }).buffers q ≡ Some s
    → get o.buffers q ≡ Some s
kept_if true t2 t3 t4 o i q s e = one_removed o.buffers i q s e
kept_if false true t3 t4 o i q s e = e
kept_if false false true t4 o i q s e = e
kept_if false false false true o i q s e = e
kept_if false false false false o i q s e = e

on_each : (P : ℕ → Shape → Type 0) (n : ℕ) (o : Objects) (x : ℕ) (c : Call) → AllLive P o.buffers
    → AllLive P (if x == 0 then played n o c else recorded_on n o x c).buffers
on_each P n o x c h = elim (x == 0) as (λ b. AllLive P (if b then played n o c else recorded_on n o x c).buffers)
    [ true ↦ h | false ↦ h ]

after_one : (P : ℕ → Shape → Type 0) (n : ℕ) (o : Objects) (past : Past) (x : ℕ) (c : Call) → AtCreation P
    → Passed (call_checks o past x c) → AllLive P o.buffers → AllLive P (objects_after n o x c).buffers
after_one P n o past x (calls.Buffer id size usage bind misc stride bytes) at p h =
    all_insert P o.buffers id (described_shape size usage bind misc stride)
    (at o id size usage bind misc stride bytes p) h
after_one P n o past x (calls.Destroy class id) at p h = λ q s e. h q s
    (kept_if (class == 1) (class == 2) (class == 3) (class == 4) o id q s e)
after_one P n o past x (calls.View view res kind form components first count) at p h = h
after_one P n o past x (calls.CreateShader id words) at p h = h
after_one P n o past x (calls.Query id sort) at p h = h
after_one P n o past x (calls.MapRead res flag offset len) at p h = h
after_one P n o past x (calls.GetData query flag) at p h = h
after_one P n o past x calls.Flush at p h = h
after_one P n o past x (calls.ExecuteList list flag) at p h =
    subst (λ (b : Buffers). AllLive P b) (sym (same_buffers_all n (list_start o) (calls_of_list o list))) h
after_one P n o past x (calls.FinishList list) at p h = h
after_one P n o past x c at p h = on_each P n o x c h

pub all_live : (P : ℕ → Shape → Type 0) → AtCreation P → (log : List Issued) (n : ℕ)
    → AllLive P (after_calls log n).objects.buffers
unfolding after_calls
all_live P at log zero = all_empty P
all_live P at log (suc n) = by_call (suc n) (after_calls log n) (slice_get log n) (all_live P at log n)
  where
    unless : (n : ℕ) (s : State) (i : Issued) (v : Option Refusal) → verdict_in s i ≡ v
        → AllLive P s.objects.buffers → AllLive P (unless_refused n s i v).objects.buffers
    unless n s i (Some why) e h = h
    unless n s i None e h = after_one P n s.objects s.past i.context i.call at
        (own_checks s.objects s.past i.context i.call e) h

    by_call : (n : ℕ) (s : State) (o : Option Issued) → AllLive P s.objects.buffers
        → AllLive P (after_call n s o).objects.buffers
    by_call n s None h = h
    by_call n s (Some i) h = unless n s i (verdict_in s i) refl h

-- ---- a live buffer has an id, bytes, and elements of some bytes where it is structured

pub record Made (id : ℕ) (s : Shape) : Type 0 where
  pub named : 0 < id
  pub bytes : 0 < s.size
  pub stride : has s.misc 2 ≡ true → 0 < s.stride

pub not_false : (b : Bool) → not b ≡ false → b ≡ true
not_false true e = refl
not_false false e = absurd cc

some_stride : (size stride : ℕ) (structured others : Bool) → (if structured then bad_stride size stride else others)
    ≡ false → structured ≡ true → 0 < stride
some_stride size stride true others e h =
    omega (arith, ltb-false stride 4 (none_of _ (nat_lt stride 4) (left_of _ _ (left_of _ _ e))))
some_stride size stride false others e h = absurd cc

made_rightly : AtCreation Made
made_rightly o id size usage bind misc stride bytes p = record {
  named = ltb-true 0 id (and_parts (nat_lt 0 id) (nat_le id 65535) (not_false (is_id id) p.0)).0;
  bytes = omega (arith, eqb-false size 0 (left_of _ _ (left_of _ _ (left_of _ _ p.1.1.1.0))));
  stride = λ e. some_stride size stride (has misc 2) _ p.1.1.1.1.1.1.0 e;
}

pub live_made : (log : List Issued) (n : ℕ) → AllLive Made (after_calls log n).objects.buffers
live_made log n = all_live Made made_rightly log n

-- a live one
pub one_live : (P : ℕ → Shape → Type 0) (b : Buffers) (id : ℕ) → AllLive P b → is_some (get b id) ≡ true
    → (s : Shape) × (get b id ≡ Some s) × P id s
one_live P b id h live = by_value (get b id) refl live
  where
    by_value : (o : Option Shape) → get b id ≡ o → is_some o ≡ true → (s : Shape) × (get b id ≡ Some s) × P id s
    by_value None e f = absurd cc
    by_value (Some s) e f = (s, e, h id s e)
