-- The limits of a dispatch.
use Rattle.std.specs.Prelude.{ℕ, suc, ◌<◌, List, slice_index}
use Rattle.dx_types.specs.declared.limits.TheConstants.{MAX_GROUPS, MAX_THREADS}
use Rattle.shader_model.specs.declared.ids.Ids.{Ids}

-- each of x, y and z is below a limit
abbrev pub AllBelow : (limit : ℕ) → List ℕ → Type 0
AllBelow limit place = (c : ℕ) → c < 3 → slice_index place c < limit

-- ids so small that no number made of them passes 32 bits
pub record IsThread (ids : Ids) : Type 0 where
  pub size : AllBelow (suc MAX_THREADS) ids.size
  pub thread : AllBelow MAX_THREADS ids.thread
  pub group : AllBelow MAX_GROUPS ids.group
