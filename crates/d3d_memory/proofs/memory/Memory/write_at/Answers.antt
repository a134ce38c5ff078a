use Rattle.d3d_memory.proofs.Parts as parts
use Rattle.d3d_memory.proofs.memory.Memory.write_at.Goals as goal

pub returns : goal.returns
returns c = parts.written _ c.args.self.now c.write.new.self c.self.view_is c.args.res c.args.from c.args.bytes.now c.write.ensures
