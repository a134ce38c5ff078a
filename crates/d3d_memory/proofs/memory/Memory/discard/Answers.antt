use Rattle.d3d_memory.proofs.Parts as parts
use Rattle.d3d_memory.proofs.memory.Memory.discard.Goals as goal

pub returns : goal.returns
returns c = parts.discarded _ c.args.self.now c.zero.new.self c.write.new.self c.args.res c.args.offset c.args.bytes.now c.self.view_is c.zero.ensures c.write.ensures
