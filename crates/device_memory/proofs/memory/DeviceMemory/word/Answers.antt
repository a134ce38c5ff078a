use Rattle.std.proofs.Common.{◌∙◌}
use Rattle.device_memory.proofs.RangeBytes.{range_word}
use Rattle.device_memory.proofs.memory.DeviceMemory.word.Goals as goal

pub returns : goal.returns
returns c = c.from_le_bytes.ensures ∙ range_word c.args.self.now c.args.r.now c.requires.range c.part-part.result.now c.part-part.ensures c.args.k
