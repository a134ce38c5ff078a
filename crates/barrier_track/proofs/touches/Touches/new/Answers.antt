use Rattle.std.proofs.Common.{refl}
use Rattle.barrier_track.proofs.PerBlock.{no_bytes}
use Rattle.barrier_track.proofs.Touched.{bytes_none}
use Rattle.barrier_track.proofs.touches.Touches.new.Goals as goal

pub invariant_of-result : goal.invariant_of-result
invariant_of-result c =
    bytes_none 0 c.new.result.items c.new-2.result c.new-3.result c.new.ensures.items refl c.new-2.ensures
    c.new-3.ensures (λ block at. no_bytes at)
