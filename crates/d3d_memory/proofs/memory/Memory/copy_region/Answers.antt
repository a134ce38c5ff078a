use Rattle.d3d_memory.proofs.Parts as parts
use Rattle.d3d_memory.proofs.memory.Memory.copy_region.Goals as goal

pub returns : goal.returns
returns c = parts.copied_range _ c.args.self.now c.copy.new.self c.self.view_is c.args.target c.args.target_offset c.args.source c.args.source_offset c.args.length c.copy.ensures
