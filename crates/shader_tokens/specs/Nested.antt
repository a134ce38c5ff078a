-- When a statement is refused.
use Rattle.std.specs.Prelude.{◌≡◌, false, List, Result, Ok, Err, ⊤}
use Rattle.shader_model.specs.declared.statement.Statement.{Statement}
use Rattle.shader_model.specs.Nesting.{Block, has_place}
use Rattle.shader_tokens.specs.declared.nesting.StepEnd.{StepEnd}
use Rattle.shader_tokens.specs.declared.nesting.StepEnd.TheVariants as step_end

-- a refused statement has no place
abbrev pub IfMisplaced : Result ⊤ StepEnd → Statement → List Block → Type 0
IfMisplaced (Ok u) s bs = Unit {0}
IfMisplaced (Err step_end.Misplaced) s bs = has_place s bs ≡ false
IfMisplaced (Err step_end.NoMemory) s bs = Unit {0}
