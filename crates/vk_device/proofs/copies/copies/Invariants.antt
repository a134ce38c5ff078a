use Rattle.std.proofs.Common.{◌≡◌, ◌++◌, drop}
use Rattle.std.specs.List.{filter_map}
use Rattle.device_memory.specs.Held.{block_of}
use Rattle.vk_device.specs.Completing.{snap_of}
use Rattle.vk_device.proofs.copies.copies.Given as goal

abbrev pub invariant-each : goal.invariant-each
invariant-each l =
    l.snaps.items ++ filter_map (snap_of (block_of l.memory) l.later.items l.queue) (drop l.r-index l.staging)
    ≡ filter_map (snap_of (block_of l.memory) l.later.items l.queue) l.staging
