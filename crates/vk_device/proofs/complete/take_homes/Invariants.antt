use Rattle.std.proofs.Common.{ℕ, ◌≤◌, All, length}
use Rattle.lifetime.specs.declared.holds.Mark.{Mark}
use Rattle.device_memory.specs.Held.{block_of}
use Rattle.vk_device.proofs.Giving.{HomesOn}
use Rattle.vk_device.proofs.complete.take_homes.Given as goal

abbrev pub invariant-marks : goal.invariant-marks
invariant-marks l =
    HomesOn l.k (block_of l.fn.memory) l.fn.holds l.holds l.homes.items (block_of l.memory)
    × ((n : ℕ) → All (λ (m : Mark). m.chunk ≤ n) l.fn.holds → All (λ (m : Mark). m.chunk ≤ n) l.holds)

abbrev pub decreases-marks : goal.decreases-marks
decreases-marks l = length l.holds
