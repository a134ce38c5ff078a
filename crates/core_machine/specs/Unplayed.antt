-- The calls that the machine does not play yet.
use Rattle.std.specs.Prelude.{ℕ, ◌==◌, Bool, true, false, ◌||◌, List, Option, None, Some}
use Rattle.d3d_model.specs.declared.codes.TheConstants.{DO_NOT_WAIT, DYNAMIC_USAGE, WORD_PREDICATE}
use Rattle.call_log.specs.Call as calls
use Rattle.call_log.specs.Call.{Call, Issued}
use Rattle.call_log.specs.Grammar.{Frame, issued}
use Rattle.d3d_checks.specs.Accepted.{is_recorded}
use Rattle.d3d_plan.specs.Ends.{Never, IsFirst}

-- shaders, queries, dynamic buffers, predicates by a word of a buffer, and readbacks that do not wait
abbrev pub is_left_out : Call → Bool
is_left_out (calls.CreateShader id words) = true
is_left_out (calls.Query id sort) = true
is_left_out (calls.Buffer id size usage bind misc stride bytes) = usage == DYNAMIC_USAGE
is_left_out (calls.SetPredication kind id offset value) = kind == WORD_PREDICATE
is_left_out (calls.MapRead res flag offset len) = flag == DO_NOT_WAIT
is_left_out _ = false

-- a call that is left out, or one that a deferred context would record
abbrev pub is_unplayed : Issued → Bool
is_unplayed i = is_left_out i.call || is_recorded i

abbrev pub is_unplayed_record : Frame → Bool
is_unplayed_record f = is_unplayed (issued f)

-- the first record of a call that is not played, if there is one
abbrev pub FirstUnplayed : List Frame → Option ℕ → Type 0
FirstUnplayed frames None = Never is_unplayed_record frames
FirstUnplayed frames (Some n) = (kind : ℕ) × IsFirst is_unplayed_record frames n kind
