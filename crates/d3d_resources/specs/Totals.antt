-- What a table keeps beside the live buffers, so that no creation goes over all of them.
use Rattle.std.specs.Prelude.{◌≡◌, ℕ, ◌≤◌, ◌<◌, List, slice_index}
use Rattle.dx_types.specs.declared.limits.TheConstants.{CLASSES, MAX_DYNAMIC_OF_CLASS, MAX_LIVE_BYTES}
use Rattle.d3d_model.specs.Resource.{Buffers, live_bytes, live_dynamic}

-- the sum of the live sizes, and for each class the number of live dynamic buffers; both within their limits
pub record Kept (buffers : Buffers) (total : ℕ) (dynamic : List ℕ) : Type 0 where
  pub sum_of_sizes : total ≡ live_bytes buffers
  pub room : live_bytes buffers ≤ MAX_LIVE_BYTES
  pub of_classes : (class : ℕ) → class < CLASSES → slice_index dynamic class ≡ live_dynamic buffers class
  pub few : (class : ℕ) → live_dynamic buffers class ≤ MAX_DYNAMIC_OF_CLASS
