-- What a plan says of the calls of a log.
use Rattle.std.specs.Prelude.{ℕ, zero, suc, ◌+◌, ◌==◌, List, [], ◌∷◌, ◌++◌, length, map, sum_by, take, slice_index_or, Option, None, Some, if◌then◌else◌}
use Rattle.std.specs.List.{filter_map}
use Rattle.dx_types.specs.declared.refusal.Refusal.{Refusal}
use Rattle.dx_types.specs.declared.range.ResRange.{ResRange}
use Rattle.dx_types.specs.declared.range.Span.{Span}
use Rattle.call_log.specs.Call as calls
use Rattle.call_log.specs.Call.{Call, Issued}
use Rattle.call_log.specs.Put.{body_length}
use Rattle.d3d_model.specs.InOrder.{State, verdict_in, before_call, call_at}
use Rattle.d3d_model.specs.Effect.{deeds_by}
use Rattle.d3d_model.specs.Uses.{bound_by, range_bound, segment_by, use_by, use_in}
use Rattle.d3d_model.specs.D3dState.{Numbered, Objects, Shader, calls_of_list, context_of}
use Rattle.d3d_effects.specs.Listed.{parts_of_list}
use Rattle.d3d_checks.specs.Created.{shader_made, token_words}

-- why a call is refused, if it is; the call that it waits for; the ranges that it binds; the calls of the list that it finishes or
-- executes, and the ranges that it binds by each of them; where the token words of the shader that it creates stand in the
-- input; and that shader
pub record Planned : Type 0 where
  pub verdict : Option Refusal
  pub last_use : Option ℕ
  pub bound : List ResRange
  pub calls : List ℕ
  pub parts : List (List ResRange)
  pub words : Option Span
  pub shader : Option Shader

abbrev pub verdict_by : State → Option Issued → Option Refusal
verdict_by s None = None
verdict_by s (Some i) = verdict_in s i

-- ---- the calls of lists

abbrev pub numbers : List Numbered → List ℕ
numbers cs = map (λ c. c.number) cs

-- the calls of the list that a call finishes or executes
abbrev pub listed_by : Objects → ℕ → Call → List Numbered
listed_by o x (calls.FinishList list) = (context_of o x).recorded
listed_by o x (calls.ExecuteList list flag) = calls_of_list o list
listed_by o x _ = []

-- what a call binds by each of them: by a list that is finished nothing
abbrev pub parts_in : Objects → ℕ → Call → List (List ResRange)
parts_in o x (calls.FinishList list) = map (λ _. []) (context_of o x).recorded
parts_in o x (calls.ExecuteList list flag) = parts_of_list o (calls_of_list o list)
parts_in o x _ = []

abbrev pub parts_unless : State → Issued → Option Refusal → List (List ResRange)
parts_unless s i (Some why) = []
parts_unless s i None = parts_in s.objects i.context i.call

abbrev pub parts_by : State → Option Issued → List (List ResRange)
parts_by s None = []
parts_by s (Some i) = parts_unless s i (verdict_in s i)

-- what a call binds by an item of its list; of a call without a list item 0 is all
abbrev pub part_of : Planned → ℕ → List ResRange
part_of p item = part_among p.bound p.parts item
  where
    part_among : List ResRange → List (List ResRange) → ℕ → List ResRange
    part_among bound [] item = if item == 0 then bound else []
    part_among bound (own ∷ parts) item = slice_index_or (own ∷ parts) item []

-- ---- where token words stand

-- how many bytes the record of a call takes
abbrev pub record_length : Issued → ℕ
record_length i = 8 + body_length i.call

-- where in the input what stands behind the records of the first n calls begins
abbrev pub place_behind : List Issued → ℕ → ℕ
place_behind log n = 8 + sum_by record_length (take n log)

-- where the record of call n begins, from 1
abbrev pub place_of : List Issued → ℕ → ℕ
place_of log zero = 8
place_of log (suc n) = place_behind log n

-- where token words stand in a record that begins here: behind its head and the shader's id
abbrev pub span_in : ℕ → Option (List ℕ) → Option Span
span_in at None = None
span_in at (Some words) = Some (record { start = at + 12; len = length words })

abbrev pub words_unless : ℕ → Issued → Option Refusal → Option Span
words_unless at i (Some why) = None
words_unless at i None = span_in at (token_words i.call)

abbrev pub words_by : ℕ → State → Option Issued → Option Span
words_by at s None = None
words_by at s (Some i) = words_unless at i (verdict_in s i)

-- ---- which shader is created

abbrev pub shader_unless : ℕ → Issued → Option Refusal → Option Shader
shader_unless n i (Some why) = None
shader_unless n i None = shader_made n i.call

abbrev pub shader_by : ℕ → State → Option Issued → Option Shader
shader_by n s None = None
shader_by n s (Some i) = shader_unless n i (verdict_in s i)

-- ---- all that is planned

-- what is planned of call n, whose record begins here
abbrev pub planned_by : (n at : ℕ) → State → Option Issued → Planned
planned_by n at s i = record {
  verdict = verdict_by s i;
  last_use = use_by s i;
  bound = bound_by s i;
  calls = numbers (segment_by s i);
  parts = parts_by s i;
  words = words_by at s i;
  shader = shader_by n s i;
}

-- what is planned of a call that is refused
abbrev pub refused_as : Refusal → Planned
refused_as why = record { verdict = Some why; last_use = None; bound = []; calls = []; parts = []; words = None; shader = None }

-- and of call n, accepted on a context
abbrev pub planned_as : (n at : ℕ) → State → ℕ → Call → Planned
planned_as n at s x c = record {
  verdict = None;
  last_use = use_in s c;
  bound = filter_map range_bound (deeds_by s.objects x c);
  calls = numbers (listed_by s.objects x c);
  parts = parts_in s.objects x c;
  words = span_in at (token_words c);
  shader = shader_made n c;
}

-- what is planned of call n, from 1
abbrev pub planned : List Issued → ℕ → Planned
planned log n = planned_by n (place_of log n) (before_call log n) (call_at log n)

-- what is planned of the first n calls
unfoldable pub plan_of : List Issued → ℕ → List Planned
plan_of log zero = []
plan_of log (suc n) = plan_of log n ++ planned log (suc n) ∷ []
