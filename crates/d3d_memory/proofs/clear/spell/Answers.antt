use Rattle.d3d_memory.proofs.Clearing.{four_spelled, front_only}
use Rattle.d3d_memory.proofs.clear.spell.Goals as goal

pub returns : goal.returns
returns c =
    four_spelled c.args.values.now c.write_u32.new.buf c.write_u32-2.new.buf c.write_u32-3.new.buf c.write_u32-4.new.buf
    c.told-values
    c.write_u32.ensures
    (front_only _ _ _ c.write_u32-2.ensures)
    (front_only _ _ _ c.write_u32-3.ensures)
    (front_only _ _ _ c.write_u32-4.ensures)
