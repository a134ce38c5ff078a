-- What is kept of the past still tells of it after a call.
use Rattle.std.proofs.Common.{◌≡◌, ℕ, Bool, true, false, cond, List, map, Option, None, refl, sym, subst, inl, inr}
use Rattle.std.specs.Prelude.{◌==◌, IsSome, if◌then◌else◌, ◌≢◌}
use Rattle.std.specs.Borrow.{Bor}
use Rattle.std.specs.Ordering.{nat_cmp, eq_by_cmp}
use Rattle.std.proofs.lemmas.Bool.{cases_eq}
use Rattle.std.proofs.Common.{arith}
use Rattle.std.proofs.lemmas.Bool.Decides.{nat_tests}
use Rattle.dx_types.specs.declared.shape.Shape.{Shape}
use Rattle.call_log.specs.Call as calls
use Rattle.call_log.specs.View.{call_view}
use Rattle.call_log.specs.declared.call.Call as code
use Rattle.call_log.specs.declared.call.Call.TheVariants as codes
use Rattle.d3d_model.specs.D3dState.{Objects, bindings_of}
use Rattle.d3d_model.specs.Effect.{deeds_by, destroyed, objects_after}
use Rattle.base_lemmas.specs.IdMap.{get, insert}
use Rattle.d3d_model.specs.Past.{Past, Deed, Binds, then_done}
use Rattle.d3d_model.specs.Resource.{Buffers}
use Rattle.d3d_model.specs.Stream.{binds}
use Rattle.base_lemmas.proofs.Maps.{get_other, get-remove}
use Rattle.d3d_uses.specs.Summary.{Uses, Summarises, Records, RecordsMaking, Forgets}
use Rattle.d3d_checks.specs.Accepted.{Tells}
use Rattle.d3d_effects.specs.Bound.{is_execution}
use Rattle.d3d_effects.proofs.Passes.{differs}

-- ---- a buffer is made

-- a buffer that is live beside a new one was so before
live_before : (b : Buffers) (id : ℕ) (s : Shape) (res : ℕ) → IsSome (get (insert b id s) res) → res ≢ id → IsSome (get b res)
live_before b id s res live apart = subst (λ (o : Option Shape). IsSome o) (get_other b id s res apart) live

pub tells_made : (past : Past) (o : Objects) (old new : Uses) (n id size usage bind misc stride : ℕ) (bytes : List ℕ) → RecordsMaking old id new → Tells past o old
    → Tells (then_done n past (deeds_by o 0 (calls.Buffer id size usage bind misc stride bytes))) (objects_after n o 0 (calls.Buffer id size usage bind misc stride bytes)) new
tells_made past o old new n id size usage bind misc stride bytes records tells = λ res live. records n past res (λ apart. tells res (live_before o.buffers id _ res live apart))

-- ---- an object is destroyed

not_live : {X : Type 0} (same : Bool) (o : Option X) → IsSome (cond same None o) → (same ≡ false) × IsSome o
not_live true o live = absurd cc
not_live false o live = (refl, live)

apart_by : (res id : ℕ) → eq_by_cmp nat_cmp res id ≡ false → res ≢ id
apart_by res id e = grind (arith, nat_tests)

other_class : (o v s q l : Objects) (two three four : Bool) → v.buffers ≡ o.buffers → s.buffers ≡ o.buffers → q.buffers ≡ o.buffers → l.buffers ≡ o.buffers
    → (if two then v else if three then s else if four then q else l).buffers ≡ o.buffers
other_class o v s q l true three four ev es eq el = ev
other_class o v s q l false true four ev es eq el = es
other_class o v s q l false false true ev es eq el = eq
other_class o v s q l false false false ev es eq el = el

kept_buffers : (o : Objects) (class id : ℕ) → (class ≡ 1 → ⊥) → (destroyed o class id).buffers ≡ o.buffers
kept_buffers o class id apart = rw (differs class 1 apart) (other_class o _ _ _ _ (class == 2) (class == 3) (class == 4) refl refl refl refl)

pub tells_destroyed : (past : Past) (o : Objects) (old new : Uses) (n class id : ℕ) → (class ≡ 1 → Forgets old id new) → ((class ≡ 1 → ⊥) → new ≡ old) → Tells past o old
    → Tells (then_done n past (deeds_by o 0 (calls.Destroy class id))) (objects_after n o 0 (calls.Destroy class id)) new
unfolding then_done
tells_destroyed past o old new n class id forgets same tells = elim (cases_eq class 1) [
  | inl e ↦ rw e (λ res live.
      let was = not_live (eq_by_cmp nat_cmp res id) (get o.buffers res) (subst (λ (x : Option Shape). IsSome x) (get-remove o.buffers id res) live) in
      forgets e past res (apart_by res id was.0) (tells res was.1))
  | inr apart ↦ λ res live.
      subst (λ (u : Uses). Summarises past u res) (sym (same apart)) (tells res (subst (λ (b : Buffers). IsSome (get b res)) (kept_buffers o class id apart) live))
]

-- ---- other calls

pub tells_records : (past : Past) (o after : Objects) (old new : Uses) (n : ℕ) (deeds done : List Deed) → after.buffers ≡ o.buffers → done ≡ deeds → Records old n done new → Tells past o old
    → Tells (then_done n past deeds) after new
tells_records past o after old new n deeds done same e records tells = λ res live.
    subst (λ (ds : List Deed). Summarises (then_done n past ds) new res) e (records past res (tells res (subst (λ (b : Buffers). IsSome (get b res)) same live)))

-- the deeds of a map that doesn't discard
pub write_deeds : (o : Objects) (res mode offset : ℕ) (bytes : List ℕ) → (mode ≡ 0 → ⊥) → map Binds (binds o (bindings_of o 0) (calls.MapWrite res mode offset bytes)) ≡ deeds_by o 0 (calls.MapWrite res mode offset bytes)
write_deeds o res mode offset bytes apart =
    rw (differs mode 0 apart) refl

-- the call makes no buffer, destroys nothing and writes no mapped buffer
pub record IsPlain (c : code.Call) : Type 0 where
  pub buffer : (id size usage bind misc stride : ℕ) (bytes : Bor (List ℕ)) → c ≡ codes.Buffer id size usage bind misc stride bytes → ⊥
  pub destroy : (class id : ℕ) → c ≡ codes.Destroy class id → ⊥
  pub write : (res mode offset : ℕ) (bytes : Bor (List ℕ)) → c ≡ codes.MapWrite res mode offset bytes → ⊥

pub plain_deeds : (o : Objects) (c : code.Call) → IsPlain c → is_execution (call_view c) ≡ false
    → map Binds (binds o (bindings_of o 0) (call_view c)) ≡ deeds_by o 0 (call_view c)
plain_deeds o (codes.Buffer id size usage bind misc stride bytes) plain a = absurd (plain.buffer id size usage bind misc stride bytes refl)
plain_deeds o (codes.View view res kind form components first count) plain a = refl
plain_deeds o (codes.CreateShader id words) plain a = refl
plain_deeds o (codes.Query id sort) plain a = refl
plain_deeds o (codes.Destroy class id) plain a = absurd (plain.destroy class id refl)
plain_deeds o (codes.SetShader id) plain a = refl
plain_deeds o (codes.SetConstant slot res) plain a = refl
plain_deeds o (codes.SetSrv slot view) plain a = refl
plain_deeds o (codes.SetUav slot view) plain a = refl
plain_deeds o codes.ClearState plain a = refl
plain_deeds o (codes.Dispatch x y z) plain a = refl
plain_deeds o (codes.DispatchIndirect res offset) plain a = refl
plain_deeds o (codes.CopyRegion target target_offset source source_offset len) plain a = refl
plain_deeds o (codes.Copy target source) plain a = refl
plain_deeds o (codes.Update res offset bytes) plain a = refl
plain_deeds o (codes.ClearUav view v0 v1 v2 v3) plain a = refl
plain_deeds o (codes.SetPredication kind id offset value) plain a = refl
plain_deeds o (codes.Begin query) plain a = refl
plain_deeds o (codes.EndQuery query) plain a = refl
plain_deeds o (codes.MapWrite res mode offset bytes) plain a = absurd (plain.write res mode offset bytes refl)
plain_deeds o (codes.MapRead res flag offset len) plain a = refl
plain_deeds o (codes.GetData query flag) plain a = refl
plain_deeds o codes.Flush plain a = refl
plain_deeds o (codes.FinishList list) plain a = refl
plain_deeds o (codes.ExecuteList list flag) plain a = absurd cc
plain_deeds o (codes.Draw kind body) plain a = refl

pub plain_buffers : (o : Objects) (n : ℕ) (c : code.Call) → IsPlain c → is_execution (call_view c) ≡ false
    → (objects_after n o 0 (call_view c)).buffers ≡ o.buffers
plain_buffers o n (codes.Buffer id size usage bind misc stride bytes) plain a = absurd (plain.buffer id size usage bind misc stride bytes refl)
plain_buffers o n (codes.View view res kind form components first count) plain a = refl
plain_buffers o n (codes.CreateShader id words) plain a = refl
plain_buffers o n (codes.Query id sort) plain a = refl
plain_buffers o n (codes.Destroy class id) plain a = absurd (plain.destroy class id refl)
plain_buffers o n (codes.SetShader id) plain a = refl
plain_buffers o n (codes.SetConstant slot res) plain a = refl
plain_buffers o n (codes.SetSrv slot view) plain a = refl
plain_buffers o n (codes.SetUav slot view) plain a = refl
plain_buffers o n codes.ClearState plain a = refl
plain_buffers o n (codes.Dispatch x y z) plain a = refl
plain_buffers o n (codes.DispatchIndirect res offset) plain a = refl
plain_buffers o n (codes.CopyRegion target target_offset source source_offset len) plain a = refl
plain_buffers o n (codes.Copy target source) plain a = refl
plain_buffers o n (codes.Update res offset bytes) plain a = refl
plain_buffers o n (codes.ClearUav view v0 v1 v2 v3) plain a = refl
plain_buffers o n (codes.SetPredication kind id offset value) plain a = refl
plain_buffers o n (codes.Begin query) plain a = refl
plain_buffers o n (codes.EndQuery query) plain a = refl
plain_buffers o n (codes.MapWrite res mode offset bytes) plain a = absurd (plain.write res mode offset bytes refl)
plain_buffers o n (codes.MapRead res flag offset len) plain a = refl
plain_buffers o n (codes.GetData query flag) plain a = refl
plain_buffers o n codes.Flush plain a = refl
plain_buffers o n (codes.FinishList list) plain a = refl
plain_buffers o n (codes.ExecuteList list flag) plain a = absurd cc
plain_buffers o n (codes.Draw kind body) plain a = refl
