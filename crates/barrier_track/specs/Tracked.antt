-- What a tracker keeps.
use Rattle.std.specs.Prelude.{ℕ, List}
use Rattle.barrier_track.specs.declared.stages.Uses.{Uses}
use Rattle.barrier_track.specs.declared.touches.Seen.{Seen}

-- what was touched since the last barrier, the stages that were used, and room for so many touches
pub record Tracked : Type 0 where
  pub seen : List Seen
  pub uses : Uses
  pub room : ℕ
