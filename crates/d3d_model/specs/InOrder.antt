-- Execution in order: the state after each call of a log.
use Rattle.std.specs.Prelude.{ℕ, zero, suc, List, [], slice_get, take, Option, None, Some}
use Rattle.dx_types.specs.declared.refusal.Refusal.{Refusal}
use Rattle.call_log.specs.Call.{Call, Issued}
use Rattle.d3d_model.specs.D3dState.{Objects, Memory, no_objects, no_memory, calls_of_list}
use Rattle.d3d_model.specs.Past.{Past, then_done}
use Rattle.d3d_model.specs.Verdict.{verdict}
use Rattle.d3d_model.specs.Effect.{objects_after, deeds_by, played_all, list_start}
use Rattle.d3d_model.specs.Stream.{deeds_of_list}
use Rattle.d3d_model.specs.Memory.{memory_after, run_all}

-- the Direct3D state, and what the calls so far did
pub record State : Type 0 where
  pub objects : Objects
  pub memory : Memory
  pub past : Past

abbrev pub initial : State
initial = record { objects = no_objects; memory = no_memory; past = [] }

-- the state after call n, accepted on a context
abbrev pub accepted : ℕ → State → ℕ → Call → State
accepted n s x c = record {
  objects = objects_after n s.objects x c;
  memory = memory_after n s.objects s.memory x c;
  past = then_done n s.past (deeds_by s.objects x c);
}

-- a refused call leaves the state
abbrev pub unless_refused : ℕ → State → Issued → Option Refusal → State
unless_refused n s i (Some why) = s
unless_refused n s i None = accepted n s i.context i.call

-- why a call is refused in a state
abbrev pub verdict_in : State → Issued → Option Refusal
verdict_in s i = verdict s.objects s.past i

abbrev pub after_call : ℕ → State → Option Issued → State
after_call n s None = s
after_call n s (Some i) = unless_refused n s i (verdict_in s i)

-- the state after the first n calls
unfoldable pub after_calls : List Issued → ℕ → State
after_calls log zero = initial
after_calls log (suc n) = after_call (suc n) (after_calls log n) (slice_get log n)

-- call n, from 1
abbrev pub call_at : List Issued → ℕ → Option Issued
call_at log zero = None
call_at log (suc n) = slice_get log n

-- the state that call n meets
abbrev pub before_call : List Issued → ℕ → State
before_call log zero = initial
before_call log (suc n) = after_calls log n

-- in the middle of an ExecuteList: the state after its first so many calls
abbrev pub amid : ℕ → State → ℕ → ℕ → State
amid n s list done =
    let cs = take done (calls_of_list s.objects list) in
    record {
      objects = played_all n (list_start s.objects) cs;
      memory = run_all n (list_start s.objects) s.memory cs;
      past = then_done n s.past (deeds_of_list s.objects cs);
    }
