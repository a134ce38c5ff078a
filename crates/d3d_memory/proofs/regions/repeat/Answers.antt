use Rattle.std.proofs.Common.{arith}
use Rattle.d3d_memory.proofs.Puts.{element_more}
use Rattle.d3d_memory.proofs.regions.repeat.Goals as goal

pub elements-preserved : goal.elements-preserved
elements-preserved c =
    element_more c.args.bytes.now c.elements.bytes c.copy_from_slice.new.self c.args.element.now c.elements.i _ c.elements.invariant c.copy_from_slice.ensures.after (omega arith)
