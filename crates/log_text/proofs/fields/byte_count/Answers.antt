use Rattle.std.proofs.Common.{length, ap, arith}
use Rattle.log_text.proofs.ByteFields.{field_count}
use Rattle.log_text.proofs.fields.byte_count.Goals as goal

pub returns : goal.returns
returns c = λ bytes is. omega (arith, field_count bytes, ap length is)
