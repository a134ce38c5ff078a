use Rattle.spirv_emit.proofs.Words.Appending.{puts_none}
use Rattle.spirv_emit.proofs.code.Code.missed.Goals as goal

pub returns-in-Write : goal.returns-in-Write
returns-in-Write c = rw c.in-Write.is (puts_none c.args.self.now)
