use Rattle.shader_tokens.specs.Decoding.{item_of}
use Rattle.shader_tokens.proofs.Gathering.{instr-is}
use Rattle.shader_tokens.proofs.gather.instr.Goals as goal

pub returns : goal.returns
returns c = λ ps e. rw (c.opcode.ensures, c.bits.ensures) (instr-is (item_of c.args.item.now) c.args.operands.now ps e)
