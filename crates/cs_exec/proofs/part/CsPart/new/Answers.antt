use Rattle.std.proofs.Common.{refl}
use Rattle.cs_exec.proofs.Start.{start_stands}
use Rattle.cs_exec.proofs.part.CsPart.new.Goals as goal

pub returns-clause-stands : goal.returns-clause-stands
returns-clause-stands c = λ calls log e.
    start_stands calls log _ c.in_ok-objects.ensures refl c.new-blocks.ensures c.new-stream.ensures c.new-requests.ensures.items
