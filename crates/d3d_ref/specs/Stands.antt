-- What the machine keeps of the Direct3D state, and what it asks of a call.
use Rattle.std.specs.Prelude.{◌≡◌, ℕ, false, List, Option, None, Some}
use Rattle.dx_types.specs.declared.refusal.Refusal.{Refusal}
use Rattle.call_log.specs.Call.{Issued}
use Rattle.d3d_model.specs.D3dState.{Objects, Memory, Shader}
use Rattle.d3d_model.specs.InOrder.{State, before_call, call_at, verdict_in}
use Rattle.d3d_checks.specs.Accepted.{is_draw}
use Rattle.d3d_checks.specs.Created.{shader_made}

-- these are the objects and the memory of a state
pub record Stands (o : Objects) (m : Memory) (s : State) : Type 0 where
  pub objects : o ≡ s.objects
  pub memory : m ≡ s.memory

-- call n of a log, if there is one, is no draw, and is refused for this reason or accepted
pub record Judged (log : List Issued) (n : ℕ) (refusal : Option Refusal) : Type 0 where
  pub no_draw : (i : Issued) → call_at log n ≡ Some i → is_draw i.call ≡ false
  pub verdict : (i : Issued) → call_at log n ≡ Some i → refusal ≡ verdict_in (before_call log n) i

-- where call n is accepted, the shader is the one that it creates, if it creates one
abbrev pub IsCreated : List Issued → ℕ → Option Refusal → Option Shader → Type 0
IsCreated log n refusal shader = (i : Issued) → call_at log n ≡ Some i → refusal ≡ None → shader ≡ shader_made n i.call
