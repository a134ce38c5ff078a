-- The answers, and the text of a run.
use Rattle.std.specs.Prelude.{ℕ, zero, suc, ◌==◌, List, [], ◌∷◌, ◌++◌, ◌+◌, length, Option, None, Some, unwrap_or, if◌then◌else◌}
use Rattle.std.specs.List.{flat_map}
use Rattle.std.specs.Option.{option_to_list}
use Rattle.dx_types.specs.declared.refusal.Refusal.{Refusal}
use Rattle.dx_types.specs.declared.reply.Reply as reply
use Rattle.dx_types.specs.declared.reply.Reply.TheVariants as said
use Rattle.dx_types.specs.Line.{line}
use Rattle.d3d_model.specs.declared.codes.TheConstants.{EVENT_QUERY, STATISTICS_QUERY}
use Rattle.call_log.specs.Call as calls
use Rattle.call_log.specs.Call.{Call, Issued}
use Rattle.base_lemmas.specs.IdMap as ids
use Rattle.base_lemmas.specs.IdMap.{IdMap}
use Rattle.d3d_model.specs.Regions.{slice}
use Rattle.d3d_model.specs.D3dState.{Query, bytes_of, count_of}
use Rattle.d3d_model.specs.InOrder.{State, verdict_in, before_call, call_at}
use Rattle.d3d_model.specs.Uses.{use_in}

-- the do-not-wait calls that find their use unfinished, each with what is done then
abbrev pub Pending : Type 0
Pending = IdMap ℕ

abbrev pub none_pending : Pending
none_pending = ids.empty

abbrev pub sort_if : Option Query → ℕ
sort_if None = EVENT_QUERY
sort_if (Some q) = q.sort

-- an event has happened, occlusion is 0 without draws, statistics are the invocations counted
abbrev pub query_value : ℕ → ℕ → ℕ
query_value sort count = if sort == EVENT_QUERY then 1 else if sort == STATISTICS_QUERY then count else 0

-- the answer to an accepted call n, if it has one
abbrev pub answer : ℕ → State → Call → Option reply.Reply
answer n s (calls.MapRead res flag offset len) = Some (said.Bytes n (slice (bytes_of s.memory res) offset (offset + len)))
answer n s (calls.GetData query flag) = Some (said.Value n (query_value (sort_if (ids.get s.objects.queries query)) (count_of s.memory query)))
answer n s _ = None

-- where the call is pending, what it says in place of its answer
abbrev pub answer_or_still : ℕ → State → Call → Option ℕ → Option reply.Reply
answer_or_still n s c (Some done) = Some (said.Still n (unwrap_or (use_in s c) 0) done)
answer_or_still n s c None = answer n s c

abbrev pub reply_unless : Pending → ℕ → State → Call → Option Refusal → Option reply.Reply
reply_unless pending n s c (Some why) = Some (said.Refused n why)
reply_unless pending n s c None = answer_or_still n s c (ids.get pending n)

abbrev pub reply_to : Pending → ℕ → State → Option Issued → Option reply.Reply
reply_to pending n s None = None
reply_to pending n s (Some i) = reply_unless pending n s i.call (verdict_in s i)

-- what a run says of call n
abbrev pub reply_at : List Issued → Pending → ℕ → Option reply.Reply
reply_at log pending n = reply_to pending n (before_call log n) (call_at log n)

-- the replies to calls 1 to n
unfoldable pub replies_upto : (ℕ → Option reply.Reply) → ℕ → List reply.Reply
replies_upto replies zero = []
replies_upto replies (suc n) = replies_upto replies n ++ option_to_list (replies (suc n))

-- all replies of a run, the last of which ends it
abbrev pub replies : List Issued → Pending → List reply.Reply
replies log pending = replies_upto (reply_at log pending) (length log) ++ said.Finished (length log) ∷ []

-- the lines of some replies
abbrev pub lines : List reply.Reply → List ℕ
lines rs = flat_map line rs

-- the whole output of a run
abbrev pub text : List Issued → Pending → List ℕ
text log pending = lines (replies log pending)
