use Rattle.shader_tokens.proofs.Bytes.{words-behind}
use Rattle.shader_tokens.proofs.words.behind.Goals as goal

pub returns : goal.returns
returns c = words-behind c.args.count c.args.bytes.now c.min.result c.min.ensures
