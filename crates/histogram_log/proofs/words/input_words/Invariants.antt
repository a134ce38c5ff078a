use Rattle.std.proofs.Common.{◌≡◌}
use Rattle.histogram_log.specs.Histogram.{input_words}
use Rattle.histogram_log.proofs.words.input_words.Given as goal

abbrev pub invariant-values : goal.invariant-values
invariant-values l = l.words.items ≡ input_words l.i l.j
