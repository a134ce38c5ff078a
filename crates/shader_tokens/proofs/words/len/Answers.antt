use Rattle.std.proofs.Common.{sym}
use Rattle.base_lemmas.proofs.ByteWords.{words_length}
use Rattle.shader_tokens.proofs.words.len.Goals as goal

pub returns : goal.returns
returns c = sym (words_length c.args.bytes.now)
