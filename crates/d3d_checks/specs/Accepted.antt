-- Which calls are built, and which are accepted.
use Rattle.std.specs.Prelude.{◌≡◌, ℕ, ◌==◌, Bool, true, false, not, ◌&&◌, None, IsSome}
use Rattle.call_log.specs.Call as calls
use Rattle.call_log.specs.Call.{Call, Issued}
use Rattle.d3d_model.specs.D3dState.{Objects, buffer_of}
use Rattle.d3d_model.specs.Past.{Past}
use Rattle.d3d_model.specs.Verdict.{verdict, is_wrong_at, place_of}
use Rattle.d3d_uses.specs.Summary.{Uses, Summarises}

abbrev pub is_draw : Call → Bool
is_draw (calls.Draw kind body) = true
is_draw _ = false

-- a call that would be recorded on a deferred context
abbrev pub is_recorded : Issued → Bool
is_recorded i = not (i.context == 0) && not (is_wrong_at (place_of i.call) i.context)

-- no deferred context records yet
abbrev pub is_unbuilt : Issued → Bool
is_unbuilt i = is_recorded i

-- nothing is drawn
abbrev pub is_built : Call → Bool
is_built c = not (is_draw c)

-- a call that is built is accepted on a context, after some calls
pub record Accepted (o : Objects) (x : ℕ) (c : Call) : Type 0 where
  pub built : is_built c ≡ true
  pub past : Past
  pub passes : verdict o past (record { context = x; call = c }) ≡ None

-- what is kept of the past answers what is asked of it, of each live buffer
abbrev pub Tells : Past → Objects → Uses → Type 0
Tells past o uses = (res : ℕ) → IsSome (buffer_of o res) → Summarises past uses res

-- the call makes a buffer, a view or a shader, or destroys something
abbrev pub is_making : Call → Bool
is_making (calls.Buffer id size usage bind misc stride bytes) = true
is_making (calls.View view res kind form components first count) = true
is_making (calls.CreateShader id words) = true
is_making (calls.Destroy class id) = true
is_making _ = false

-- the call sets something, or is about a query
abbrev pub is_setting : Call → Bool
is_setting (calls.SetShader id) = true
is_setting (calls.SetConstant slot res) = true
is_setting (calls.SetSrv slot view) = true
is_setting (calls.SetUav slot view) = true
is_setting (calls.SetPredication kind id offset value) = true
is_setting (calls.Query id sort) = true
is_setting (calls.Begin query) = true
is_setting (calls.EndQuery query) = true
is_setting (calls.GetData query flag) = true
is_setting _ = false
