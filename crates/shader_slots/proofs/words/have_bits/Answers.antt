use Rattle.std.proofs.Common.{arith}
use Rattle.shader_slots.proofs.Seen.{bytes_fit}
use Rattle.shader_slots.proofs.words.have_bits.Goals as goal

pub returns : goal.returns
returns c = bytes_fit c.args.bytes.now (λ i. omega (arith, c.type_inv.bytes i))
