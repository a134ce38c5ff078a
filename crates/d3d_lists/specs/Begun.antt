-- How often each query was begun since it was last ended.
use Rattle.std.specs.Prelude.{◌≡◌, ℕ, nat_lt, false, List}
use Rattle.d3d_model.specs.D3dState.{Numbered}
use Rattle.d3d_model.specs.Stream.{begun_after}
use Rattle.d3d_lists.specs.Counts.{Counts, count_at}

-- a query's count is above 0 exactly where these calls leave it begun
abbrev pub CountsBegun : Counts → List Numbered → Type 0
CountsBegun begun cs = (query : ℕ) → nat_lt 0 (count_at begun query) ≡ begun_after query false cs
