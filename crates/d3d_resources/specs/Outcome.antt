-- What a creation's answer says of its checks.
use Rattle.std.specs.Prelude.{Option, None, Some, Result, Ok, Err}
use Rattle.dx_types.specs.declared.refusal.Refusal.{Refusal}
use Rattle.d3d_resources.specs.declared.end.TableEnd.{TableEnd}
use Rattle.d3d_resources.specs.declared.end.TableEnd.TheVariants.{Refused, NoMemory}

-- the check that failed, if one did; want of memory is no check
abbrev pub refusal_of : {X : Type 0} → Result X TableEnd → Option Refusal
refusal_of (Ok x) = None
refusal_of (Err (Refused why)) = Some why
refusal_of (Err NoMemory) = None
