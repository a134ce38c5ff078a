use Rattle.std.proofs.Common.{arith}
use Rattle.text_words.proofs.Digits.{narrow}
use Rattle.text_words.proofs.decimal.read_u32.Goals as goal

pub returns : goal.returns
returns c = narrow 4294967296 c.args.word.now _ c.try_from.result _ (omega arith) c.in_ok-read_u64.ensures.0 c.in_ok-read_u64.ensures.1 c.try_from.ensures c.ok.ensures.value
