use Rattle.spirv_emit.proofs.Words.Appending.{puts_then}
use Rattle.spirv_emit.proofs.code.Code.word_types.Goals as goal

pub returns : goal.returns
returns c = puts_then c.in_ok-type_void.ensures (puts_then c.in_ok-type_function.ensures (puts_then c.in_ok-type_int.ensures (puts_then c.in_ok-type_bool.ensures (c.in_ok-type_vector.ensures))))
