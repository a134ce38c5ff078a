use Rattle.shader_tokens.proofs.Bytes.{words-front}
use Rattle.shader_tokens.proofs.words.front.Goals as goal

pub returns : goal.returns
returns c = words-front c.args.count c.args.bytes.now c.min.result c.min.ensures
