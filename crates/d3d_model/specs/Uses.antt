-- The bytes that each call of a log binds, and the call that a readback or a query waits for.
use Rattle.std.specs.Prelude.{ℕ, List, [], Option, None, Some}
use Rattle.std.specs.List.{filter_map}
use Rattle.dx_types.specs.declared.refusal.Refusal.{Refusal}
use Rattle.dx_types.specs.declared.range.ResRange.{ResRange}
use Rattle.call_log.specs.Call as calls
use Rattle.call_log.specs.Call.{Call, Issued}
use Rattle.base_lemmas.specs.IdMap as ids
use Rattle.d3d_model.specs.D3dState.{Query, Numbered, context_of, calls_of_list}
use Rattle.d3d_model.specs.Past as past
use Rattle.d3d_model.specs.Past.{Deed, last_binding}
use Rattle.d3d_model.specs.Effect.{deeds_by}
use Rattle.d3d_model.specs.InOrder.{State, verdict_in, before_call, call_at}

abbrev pub range_bound : Deed → Option ResRange
range_bound (past.Makes res) = None
range_bound (past.Discards res) = None
range_bound (past.Binds r) = Some r

abbrev pub bound_unless : State → Issued → Option Refusal → List ResRange
bound_unless s i (Some why) = []
bound_unless s i None = filter_map range_bound (deeds_by s.objects i.context i.call)

abbrev pub bound_by : State → Option Issued → List ResRange
bound_by s None = []
bound_by s (Some i) = bound_unless s i (verdict_in s i)

-- the ranges that call n binds
abbrev pub bound : List Issued → ℕ → List ResRange
bound log n = bound_by (before_call log n) (call_at log n)

abbrev pub ended_if : Option Query → Option ℕ
ended_if None = None
ended_if (Some q) = q.ended

-- the call that a readback or a query waits for, in the state that it meets
abbrev pub use_in : State → Call → Option ℕ
use_in s (calls.MapRead res flag offset len) = last_binding s.past res
use_in s (calls.GetData query flag) = ended_if (ids.get s.objects.queries query)
use_in s _ = None

abbrev pub use_unless : State → Call → Option Refusal → Option ℕ
use_unless s c (Some why) = None
use_unless s c None = use_in s c

abbrev pub use_by : State → Option Issued → Option ℕ
use_by s None = None
use_by s (Some i) = use_unless s i.call (verdict_in s i)

-- the last use before call n
abbrev pub last_use : List Issued → ℕ → Option ℕ
last_use log n = use_by (before_call log n) (call_at log n)

-- ---- the calls of a list

abbrev pub segment_in : State → Issued → List Numbered
segment_in s i = by_kind s i.context i.call
  where
    by_kind : State → ℕ → Call → List Numbered
    by_kind s x (calls.FinishList list) = (context_of s.objects x).recorded
    by_kind s x (calls.ExecuteList list flag) = calls_of_list s.objects list
    by_kind s x _ = []

abbrev pub segment_unless : State → Issued → Option Refusal → List Numbered
segment_unless s i (Some why) = []
segment_unless s i None = segment_in s i

abbrev pub segment_by : State → Option Issued → List Numbered
segment_by s None = []
segment_by s (Some i) = segment_unless s i (verdict_in s i)

-- the calls of the list that call n finishes or executes, in order
abbrev pub segment : List Issued → ℕ → List Numbered
segment log n = segment_by (before_call log n) (call_at log n)
