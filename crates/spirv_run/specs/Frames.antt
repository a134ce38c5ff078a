-- What an invocation has under way, and what each invocation begins with.
use Rattle.std.specs.Prelude.{ℕ, List, Option}
use Rattle.spirv_run.specs.declared.value.Value.{Value}

-- the place of the first step of each invocation, and the values by id that it begins with
pub record Beginning : Type 0 where
  pub start : ℕ
  pub results : List (Option Value)
  pub variables : List (Option Value)

pub record Frame : Type 0 where
  pub begins : Beginning
  pub results : List (Option Value)
  pub variables : List (Option Value)

-- a frame as an invocation begins
abbrev pub at_start : Beginning → Frame
at_start b = record { begins = b; results = b.results; variables = b.variables }
