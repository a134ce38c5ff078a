-- What the checks of a call ask.
use Rattle.std.specs.Prelude.{ℕ, ◌+◌, ◌==◌, nat_lt, not, ◌&&◌, ◌||◌, length, Bool, List, [], ◌∷◌, Option, if◌then◌else◌}
use Rattle.std.specs.List.{list_any}
use Rattle.dx_types.specs.declared.refusal.Refusal.{Refusal}
use Rattle.dx_types.specs.declared.refusal.Refusal.TheVariants.{BadUsage, NotMappable, OutOfRange, QueryState, WrongContext}
use Rattle.dx_types.specs.declared.shape.Shape.{Shape}
use Rattle.call_log.specs.Call.{Call}
use Rattle.d3d_model.specs.Check.{Check, first_failed}
use Rattle.d3d_model.specs.D3dState.{Numbered, Objects, context_of}
use Rattle.d3d_model.specs.Past.{Past}
use Rattle.d3d_model.specs.Stream.{begun_in_list, past_of_list}
use Rattle.d3d_model.specs.Verdict.{call_checks, no_overwrite_checks, query_is}
use Rattle.d3d_model.specs.declared.codes.TheConstants.{MAP_NO_OVERWRITE, MAP_WRITE, RESTORE_STATE}
use Rattle.d3d_model.specs.Resource.{is_dynamic, is_staging}

-- why a call is refused on a context, by its own checks
abbrev pub refusal_on : Objects → Past → ℕ → Call → Option Refusal
refusal_on o past x c = first_failed (call_checks o past x c)

-- why a call is refused, by its own checks, where they are the same on each context
abbrev pub refusal_of : Objects → Past → Call → Option Refusal
refusal_of o past c = refusal_on o past 0 c

-- why a live list of these calls is not executed
abbrev pub refusal_of_calls : Objects → List Numbered → ℕ → Option Refusal
refusal_of_calls o cs flag =
    first_failed ((nat_lt RESTORE_STATE flag, BadUsage) ∷ (list_any (λ q. query_is o q (λ s. s.begun)) (begun_in_list cs), QueryState) ∷ [])

-- the past that a context asks: of the immediate one all calls so far, of a deferred one those of its open list
abbrev pub asked_past : Past → Objects → ℕ → Past
asked_past past o x = if x == 0 then past else past_of_list o (context_of o x).recorded

-- a range from an offset on passes the end of a buffer
abbrev pub passes : Shape → ℕ → ℕ → Bool
passes s offset len = nat_lt s.size (offset + len)

-- the checks of a map that writes a live buffer of this shape
abbrev pub write_checks : Shape → Objects → Past → (x res mode offset : ℕ) → List ℕ → List Check
write_checks s o past x res mode offset bytes =
    (nat_lt MAP_WRITE mode || (nat_lt mode MAP_WRITE && not (is_dynamic s.usage)) || ((mode == MAP_WRITE) && not (is_staging s.usage)), NotMappable)
    ∷ ((mode == MAP_WRITE) && not (x == 0), WrongContext)
    ∷ (passes s offset (length bytes), OutOfRange)
    ∷ (if mode == MAP_NO_OVERWRITE then no_overwrite_checks o past x res offset bytes else [])
