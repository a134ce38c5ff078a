-- What is kept beside the live views, so that no question goes over all of them.
use Rattle.std.specs.Prelude.{◌≡◌, ℕ, ◌<◌, ◌^◌, ◌==◌, List, Some, sum_by, unwrap_or, if◌then◌else◌}
use Rattle.std.specs.Ordering.{nat_cmp}
use Rattle.std.specs.Map.{lookup}
use Rattle.std.specs.BTreeMap.{is_at}
use Rattle.dx_types.specs.declared.shape.ViewShape.{ViewShape}
use Rattle.base_lemmas.specs.IdMap as ids
use Rattle.d3d_model.specs.View.{view_end}
use Rattle.d3d_state.specs.Codes.{Views}

-- 1 for a view of this buffer, and 0 for another
abbrev pub counts_for : ℕ → ViewShape → ℕ
counts_for res v = if v.res == res then 1 else 0

-- how many live views a buffer has
unfoldable pub views_of : Views → ℕ → ℕ
views_of views res = sum_by (counts_for res) (ids.values views)

-- for each buffer the number of its live views, 0 where there is none; and each live view ends below byte 2 ^ 64
pub record Counted (views : Views) (counts : List (ℕ × ℕ)) : Type 0 where
  pub of_buffer : (res : ℕ) → unwrap_or (lookup (is_at (nat_cmp res)) counts) 0 ≡ views_of views res
  pub ends : (id : ℕ) (v : ViewShape) → ids.get views id ≡ Some v → view_end v < 2 ^ 64
