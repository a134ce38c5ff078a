-- What a call does to the memory, by what it does as a call of the device and as one that may stand in a list.
use Rattle.std.proofs.Common.{◌≡◌, ℕ, ◌==◌, Bool, true, false, refl, sym, ap, ◌∙◌}
use Rattle.std.specs.Prelude.{if◌then◌else◌}
use Rattle.std.proofs.lemmas.Bool.{eq-eqb, ne_eqb}
use Rattle.call_log.specs.Call as calls
use Rattle.call_log.specs.Call.{Call}
use Rattle.d3d_model.specs.D3dState.{Objects, Memory, bindings_of}
use Rattle.d3d_model.specs.Memory.{made, run, memory_after}
use Rattle.d3d_memory.specs.Commands.{executes, is_made, seen}

pub by_device : (n : ℕ) (o : Objects) (m : Memory) (x : ℕ) (c : Call) → is_made c ≡ true → memory_after n o m x c ≡ made m c
by_device n o m x (calls.Buffer id size usage bind misc stride bytes) e = refl
by_device n o m x (calls.Query id sort) e = refl
by_device n o m x (calls.Destroy class id) e = refl
by_device n o m x _ e = absurd cc

alike : (b : Bool) (m : Memory) → (if b then m else m) ≡ m
alike true m = refl
alike false m = refl

-- a call that executes no list
by_context : (n : ℕ) (o : Objects) (m : Memory) (x : ℕ) (c : Call) → executes c ≡ false → is_made c ≡ false → memory_after n o m x c ≡ (if x == 0 then run o m c else m)
by_context n o m x (calls.Buffer id size usage bind misc stride bytes) e f = absurd cc
by_context n o m x (calls.Query id sort) e f = absurd cc
by_context n o m x (calls.Destroy class id) e f = absurd cc
by_context n o m x (calls.View view res kind form components first count) e f = sym (alike (x == 0) m)
by_context n o m x (calls.CreateShader id words) e f = sym (alike (x == 0) m)
by_context n o m x (calls.MapRead res flag offset len) e f = sym (alike (x == 0) m)
by_context n o m x (calls.GetData query flag) e f = sym (alike (x == 0) m)
by_context n o m x calls.Flush e f = sym (alike (x == 0) m)
by_context n o m x (calls.FinishList list) e f = sym (alike (x == 0) m)
by_context n o m x (calls.ExecuteList list flag) e f = absurd cc
by_context n o m x c e f = refl

-- a call meets no context but the immediate one
pub same_run : (o : Objects) (m : Memory) (c : Call) → run (seen o (bindings_of o 0)) m c ≡ run o m c
same_run o m (calls.Dispatch x y z) = refl
same_run o m (calls.DispatchIndirect res offset) = refl
same_run o m (calls.CopyRegion target target_offset source source_offset len) = refl
same_run o m (calls.Copy target source) = refl
same_run o m (calls.Update res offset bytes) = refl
same_run o m (calls.ClearUav view v0 v1 v2 v3) = refl
same_run o m _ = refl

pub on_immediate : (n : ℕ) (o : Objects) (m m1 : Memory) (x : ℕ) (c : Call) → executes c ≡ false → is_made c ≡ false → x ≡ 0 → m1 ≡ run (seen o (bindings_of o 0)) m c → m1 ≡ memory_after n o m x c
on_immediate n o m m1 x c none kind zero is =
    is ∙ same_run o m c ∙ ap (λ b. if b then run o m c else m) (sym (eq-eqb x 0 zero)) ∙ sym (by_context n o m x c none kind)

pub on_deferred : (n : ℕ) (o : Objects) (m : Memory) (x : ℕ) (c : Call) → executes c ≡ false → is_made c ≡ false → (x ≡ 0 → ⊥) → m ≡ memory_after n o m x c
on_deferred n o m x c none kind apart =
    ap (λ b. if b then run o m c else m) (sym (ne_eqb x 0 apart)) ∙ sym (by_context n o m x c none kind)
