-- How large the memory may be, so that a dispatch can be counted and its parts be bound.
use Rattle.std.specs.Prelude.{ℕ, ◌+◌, ◌*◌, ◌≤◌, ◌^◌, length}
use Rattle.dx_types.specs.declared.limits.TheConstants.{MAX_BUFFER_SIZE, MAX_INVOCATIONS}
use Rattle.d3d_model.specs.D3dState.{Memory, bytes_of}

-- no buffer has more than 16,777,216 bytes, and at most 2 ^ 63 invocations ran
pub record InLimits (m : Memory) : Type 0 where
  pub bytes : (id : ℕ) → length (bytes_of m id) ≤ MAX_BUFFER_SIZE
  pub ran : m.ran ≤ 2 ^ 63

-- they are kept while so many calls more are played
pub record HasRoom (m : Memory) (calls : ℕ) : Type 0 where
  pub bytes : (id : ℕ) → length (bytes_of m id) ≤ MAX_BUFFER_SIZE
  pub ran : m.ran + MAX_INVOCATIONS * calls ≤ 2 ^ 63
