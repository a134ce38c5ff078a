use Rattle.std.proofs.Common.{sym}
use Rattle.shader_model.proofs.Goodness.{words_length}
use Rattle.shader_slots.proofs.words.len.Goals as goal

pub returns : goal.returns
returns c = sym (words_length c.args.bytes.now)
