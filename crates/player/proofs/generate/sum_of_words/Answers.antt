use Rattle.std.proofs.Common.{refl, ◌∙◌, arith}
use Rattle.player.proofs.WordSums.{sum_more, sum_all}
use Rattle.player.proofs.generate.sum_of_words.Goals as goal

pub words-preserved : goal.words-preserved
words-preserved c = record {
  sum_is =
      sum_more c.words.i c.words.sum c.from-sum.result _ c.args.bytes.now
      c.words.invariant.sum_is (c.from-sum.ensures ∙ c.word_at.ensures) refl;
  small = omega arith;
}

pub returns : goal.returns
returns c = sum_all c.words.i c.words.sum c.args.bytes.now (omega arith) c.words.invariant.sum_is
