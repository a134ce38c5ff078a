use Rattle.std.proofs.Common.{refl}
use Rattle.barrier_track.proofs.PerBlock.{no_bytes}
use Rattle.barrier_track.proofs.Touched.{bytes_none}
use Rattle.barrier_track.proofs.touches.Touches.clear.Goals as goal

pub invariant_of-self : goal.invariant_of-self
invariant_of-self c =
    bytes_none 0 c.clear.new.self.items c.clear-2.new.self c.clear-3.new.self c.clear.ensures.items refl
    c.clear-2.ensures c.clear-3.ensures (λ block at. no_bytes at)
