-- The limits on live buffers hold after each call.
use Rattle.std.proofs.Common.{◌≡◌, ℕ, zero, suc, ◌+◌, ◌≤◌, Bool, true, false, ◌&&◌, cond, List, [], ◌∷◌, ◌++◌, sum_by, Option, Some, None, refl, sym, ap, ◌∙◌, arith}
use Rattle.std.specs.Prelude.{nat_le, slice_get, ◌==◌, if◌then◌else◌}
use Rattle.std.proofs.lemmas.Bool.{ltb-false, leb-false, eqb-true}
use Rattle.dx_types.specs.declared.refusal.Refusal.{Refusal}
use Rattle.dx_types.specs.declared.refusal.Refusal.TheVariants.{WrongContext, TooMuchMemory}
use Rattle.dx_types.specs.declared.shape.Shape.{Shape}
use Rattle.dx_types.specs.declared.shape.Usage.TheVariants.{Default, Immutable, Dynamic, Staging}
use Rattle.call_log.specs.Call as calls
use Rattle.call_log.specs.Call.{Call, Issued}
use Rattle.base_lemmas.specs.IdMap.{get, insert, remove, values}
use Rattle.d3d_model.specs.Resource.{Buffers, usage_from, usage_number, is_dynamic, class_of, counts_as, live_bytes, live_dynamic}
use Rattle.d3d_model.specs.D3dState.{Objects, buffer_of, calls_of_list}
use Rattle.d3d_model.specs.Past.{Past}
use Rattle.d3d_model.specs.Verdict.{OnDevice, is_wrong_at, buffer_checks, verdict}
use Rattle.d3d_model.specs.Effect.{destroyed, played, recorded_on, list_start, objects_after}
use Rattle.d3d_model.specs.InOrder.{State, unless_refused, verdict_in, after_call, after_calls}
use Rattle.base_lemmas.proofs.Maps.{total-empty, total-insert, total-remove}
use Rattle.d3d_model.proofs.Checked.{all_passed, free_id}
use Rattle.d3d_model.proofs.Sized.{same_buffers_all}

pub record InLimits (b : Buffers) : Type 0 where
  pub bytes : live_bytes b ≤ 268435456
  pub dynamic : (class : ℕ) → live_dynamic b class ≤ 32

-- what a creation that was accepted knows
pub record BufferGoes (o : Objects) (id size usage : ℕ) : Type 0 where
  pub free : buffer_of o id ≡ None
  pub room : live_bytes o.buffers + size ≤ 268435456
  pub few : (usage == 2) && nat_le 32 (live_dynamic o.buffers (class_of size)) ≡ false

pub buffer_goes : (o : Objects) (past : Past) (x id size usage bind misc stride : ℕ) (bytes : List ℕ)
    → verdict o past (record { context = x; call = calls.Buffer id size usage bind misc stride bytes }) ≡ None → BufferGoes o id size usage
buffer_goes o past x id size usage bind misc stride bytes e =
    let h = all_passed ((is_wrong_at OnDevice x, WrongContext) ∷ (buffer_checks o id size usage bind misc stride bytes ++ (false, TooMuchMemory) ∷ [])) e in
    record { free = free_id _ h.1.1.0; room = ltb-false _ _ h.1.1.1.1.1.1.1.1.1.1.1.1.1.1.1.0; few = h.1.1.1.1.1.1.1.1.1.1.1.1.1.1.1.1.0 }

pub dynamic_usage : (u : ℕ) → is_dynamic (usage_from u) ≡ true → (u == 2) ≡ true
dynamic_usage u = elim (u == 0) as (λ b. (usage_number (if b then Default else if u == 1 then Immutable else if u == 2 then Dynamic else Staging) == 2) ≡ true → (u == 2) ≡ true) [
  | true ↦ λ e. absurd cc
  | false ↦ elim (u == 1) as (λ b. (usage_number (if b then Immutable else if u == 2 then Dynamic else Staging) == 2) ≡ true → (u == 2) ≡ true) [
    | true ↦ λ e. absurd cc
    | false ↦ elim (u == 2) as (λ b. (usage_number (if b then Dynamic else Staging) == 2) ≡ true → b ≡ true) [ true ↦ λ e. refl | false ↦ λ e. absurd cc ]
  ]
]

-- one more of its class, where fewer than 32 are live
still_few : (now class own : ℕ) (dynamic same two full : Bool) → now ≤ 32 → (same ≡ true → own ≡ class) → (dynamic ≡ true → two ≡ true) → two && full ≡ false
    → (full ≡ false → own ≡ class → suc now ≤ 32) → now + cond (dynamic && same) 1 0 ≤ 32
still_few now class own true true true full le s d e room = omega (arith, room e (s refl))
still_few now class own true true false full le s d e room = absurd (bad (d refl))
  where
    bad : false ≡ true → ⊥
    bad e = cc
still_few now class own true false two full le s d e room = omega (arith, le)
still_few now class own false same two full le s d e room = omega (arith, le)

limits_made : (b : Buffers) (id size usage : ℕ) (shape : Shape) → shape.size ≡ size → shape.usage ≡ usage_from usage → get b id ≡ None
    → live_bytes b + size ≤ 268435456 → (usage == 2) && nat_le 32 (live_dynamic b (class_of size)) ≡ false → InLimits b → InLimits (insert b id shape)
unfolding live_bytes live_dynamic
limits_made b id size usage shape es eu free room few h = record {
  bytes = omega (arith, total-insert (λ (s : Shape). s.size) b id shape free, es, room);
  dynamic = λ class.
      let more = total-insert (counts_as class) b id shape free in
      let own : sum_by (counts_as class) (values b) + counts_as class shape ≤ 32 =
      still_few (sum_by (counts_as class) (values b)) class (class_of shape.size) (is_dynamic shape.usage) (class_of shape.size == class) (usage == 2) (nat_le 32 (live_dynamic b (class_of size)))
      (h.dynamic class) (λ e. eqb-true _ _ e) (λ e. dynamic_usage usage (sym (ap is_dynamic eu) ∙ e)) few
      (λ e same. omega (arith, leb-false 32 (live_dynamic b (class_of size)) e, ap (λ (c : ℕ). live_dynamic b c) (sym (ap class_of es) ∙ same))) in
      omega (arith, more, own);
}

limits_removed : (b : Buffers) (id : ℕ) → InLimits b → InLimits (remove b id)
unfolding live_bytes live_dynamic
limits_removed b id h = record {
  bytes = omega (arith, total-remove (λ (s : Shape). s.size) b id, h.bytes);
  dynamic = λ class. omega (arith, total-remove (counts_as class) b id, h.dynamic class);
}

limits_destroyed : (o : Objects) (class id : ℕ) → InLimits o.buffers → InLimits (destroyed o class id).buffers
limits_destroyed o class id h = elim (class == 1) as (λ b. InLimits (if b then record o { buffers = remove o.buffers id } else (if class == 2 then record o { views = remove o.views id } else if class == 3 then record o { shaders = remove o.shaders id } else if class == 4 then record o { queries = remove o.queries id } else record o { lists = remove o.lists id })).buffers) [
  | true ↦ limits_removed o.buffers id h
  | false ↦ elim (class == 2) as (λ b. InLimits (if b then record o { views = remove o.views id } else if class == 3 then record o { shaders = remove o.shaders id } else if class == 4 then record o { queries = remove o.queries id } else record o { lists = remove o.lists id }).buffers) [
    | true ↦ h
    | false ↦ elim (class == 3) as (λ b. InLimits (if b then record o { shaders = remove o.shaders id } else if class == 4 then record o { queries = remove o.queries id } else record o { lists = remove o.lists id }).buffers) [
      | true ↦ h
      | false ↦ elim (class == 4) as (λ b. InLimits (if b then record o { queries = remove o.queries id } else record o { lists = remove o.lists id }).buffers) [ true ↦ h | false ↦ h ]
    ]
  ]
]

-- the buffers stay, on each context
same_each : (n : ℕ) (o : Objects) (x : ℕ) (c : Call) → InLimits o.buffers → InLimits (if x == 0 then played n o c else recorded_on n o x c).buffers
same_each n o x c h = elim (x == 0) as (λ b. InLimits (if b then played n o c else recorded_on n o x c).buffers) [ true ↦ h | false ↦ h ]

limits_after : (n : ℕ) (o : Objects) (past : Past) (x : ℕ) (c : Call) → verdict o past (record { context = x; call = c }) ≡ None → InLimits o.buffers → InLimits (objects_after n o x c).buffers
limits_after n o past x (calls.Buffer id size usage bind misc stride bytes) e h =
    let g = buffer_goes o past x id size usage bind misc stride bytes e in
    limits_made o.buffers id size usage _ refl refl g.free g.room g.few h
limits_after n o past x (calls.Destroy class id) e h = limits_destroyed o class id h
limits_after n o past x (calls.View view res kind form components first count) e h = h
limits_after n o past x (calls.CreateShader id words) e h = h
limits_after n o past x (calls.Query id sort) e h = h
limits_after n o past x (calls.MapRead res flag offset len) e h = h
limits_after n o past x (calls.GetData query flag) e h = h
limits_after n o past x calls.Flush e h = h
limits_after n o past x (calls.ExecuteList list flag) e h =
    rw (same_buffers_all n (list_start o) (calls_of_list o list)) h
limits_after n o past x (calls.FinishList list) e h = h
limits_after n o past x c e h = same_each n o x c h

pub in_limits : (log : List Issued) (n : ℕ) → InLimits (after_calls log n).objects.buffers
unfolding after_calls live_bytes live_dynamic
in_limits log zero = record { bytes = omega (arith, total-empty (λ (s : Shape). s.size)); dynamic = λ class. omega (arith, total-empty (counts_as class)) }
in_limits log (suc n) = after_one (suc n) (after_calls log n) (slice_get log n) (in_limits log n)
  where
    unless : (n : ℕ) (s : State) (i : Issued) (v : Option Refusal) → verdict_in s i ≡ v → InLimits s.objects.buffers → InLimits (unless_refused n s i v).objects.buffers
    unless n s i (Some why) e h = h
    unless n s i None e h = limits_after n s.objects s.past i.context i.call e h

    after_one : (n : ℕ) (s : State) (o : Option Issued) → InLimits s.objects.buffers → InLimits (after_call n s o).objects.buffers
    after_one n s None h = h
    after_one n s (Some i) h = unless n s i (verdict_in s i) refl h
