-- The shaders that the calls of a log create.
use Rattle.std.specs.Prelude.{◌≡◌, ℕ, ◌<◌, ◌≤◌, List, [], length, take, slice_index_or, Option, Some, None, unwrap_or}
use Rattle.std.specs.List.{filter_map}
use Rattle.call_log.specs.Call.{Issued}
use Rattle.d3d_checks.specs.Created.{token_words}
use Rattle.d3d_model.specs.D3dState.{Shader}
use Rattle.d3d_plan.specs.Planned.{Planned}
use Rattle.pipe_cache.specs.Cells.{Cell, IsRising, calls_in, shaders_in}

-- the shaders that the calls of a plan create, in order
abbrev pub created : List Planned → List Shader
created plan = filter_map (λ p. p.shader) plan

-- the token bytes of a call; none where it creates no shader
abbrev pub tokens_by : Option Issued → List ℕ
tokens_by None = []
tokens_by (Some i) = unwrap_or (token_words i.call) []

-- the cells of the shaders that the first i calls of a plan create, and the numbers of these calls
pub record AreTables (plan : List Planned) (i : ℕ) (calls : List ℕ) (cells : List Cell) : Type 0 where
  pub made : shaders_in cells ≡ created (take i plan)
  pub keys : calls ≡ calls_in cells
  pub rising : IsRising calls
  pub below : (k : ℕ) → k < length calls → slice_index_or calls k 0 ≤ i
