-- The ids of an invocation whose numbers stay below 32 bits.
use Rattle.std.specs.Prelude.{ℕ, ◌+◌, ◌*◌, ◌<◌, ◌≤◌, List, slice_index}
use Rattle.dx_types.specs.declared.limits.TheConstants.{MAX_GROUPS, MAX_INVOCATIONS}
use Rattle.shader_model.specs.declared.ids.Ids.{Ids}
use Rattle.shader_model.specs.Invocation.{flattened, global}
use Rattle.shader_model.specs.Dispatch.{volume}

-- no number that a built-in shows passes 32 bits
pub record IsPlaced (ids : Ids) : Type 0 where
  pub global : (c : ℕ) → c < 3 → global ids c < 4294967296
  pub plane : slice_index ids.thread 1 + slice_index ids.size 1 * slice_index ids.thread 2 < 4294967296
  pub flattened : flattened ids < 4294967296

-- groups of a size that may be dispatched
pub record IsAllowed (groups size : List ℕ) : Type 0 where
  pub each : (c : ℕ) → c < 3 → slice_index groups c ≤ MAX_GROUPS
  pub count : volume groups * volume size ≤ MAX_INVOCATIONS
