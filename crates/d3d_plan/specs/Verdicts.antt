-- A verdict, as the definitions have it.
use Rattle.std.specs.Prelude.{Option, None, Some}
use Rattle.dx_types.specs.declared.refusal.Refusal.{Refusal}
use Rattle.d3d_plan.specs.declared.plan.Verdict.{Verdict}
use Rattle.d3d_plan.specs.declared.plan.Verdict.TheVariants.{Go, Refused}

-- why the call is refused, if it is
abbrev pub refusal_of : Verdict → Option Refusal
refusal_of Go = None
refusal_of (Refused why) = Some why
