-- What in-order Direct3D says of what the core says.
use Rattle.std.specs.Prelude.{◌≡◌, ◌<◌, ⊤, List, Option, None, Some}
use Rattle.dx_types.specs.declared.refusal.Refusal.{Refusal}
use Rattle.dx_types.specs.declared.reply.Reply.TheVariants as said
use Rattle.call_log.specs.Call as calls
use Rattle.call_log.specs.Call.{Call, Issued}
use Rattle.d3d_model.specs.InOrder.{call_at}
use Rattle.d3d_model.specs.Uses.{last_use}
use Rattle.d3d_model.specs.ReplyText.{none_pending, reply_at}
use Rattle.core_model.specs.CoreState.{Said, Bytes_said, Value_said, Still_said, Refused_said, End_said}

-- a readback or a query that does not wait: its flag is 1
abbrev pub DoesNotWait : Call → Type 0
DoesNotWait (calls.MapRead res flag offset len) = flag ≡ 1
DoesNotWait (calls.GetData query flag) = flag ≡ 1
DoesNotWait _ = ⊥

-- there is such a call
abbrev pub IsNoWait : Option Issued → Type 0
IsNoWait None = ⊥
IsNoWait (Some i) = DoesNotWait i.call

-- what the core says of a call is what in-order Direct3D says; a call that is pending does not wait, and names its
-- last use, which is not finished
abbrev pub AnswersAsDirect3d : List Issued → Said → Type 0
AnswersAsDirect3d log (Bytes_said call bytes) = reply_at log none_pending call ≡ Some (said.Bytes call bytes)
AnswersAsDirect3d log (Value_said call value) = reply_at log none_pending call ≡ Some (said.Value call value)
AnswersAsDirect3d log (Still_said call used finished) = (last_use log call ≡ Some used) × (finished < used)
    × IsNoWait (call_at log call)
AnswersAsDirect3d log (Refused_said call) = (why : Refusal) ×
    (reply_at log none_pending call ≡ Some (said.Refused call why))
AnswersAsDirect3d log End_said = ⊤
