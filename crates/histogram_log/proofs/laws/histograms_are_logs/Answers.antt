use Rattle.histogram_log.specs.Histogram.{histogram}
use Rattle.histogram_log.proofs.Calls.{histogram_spelt}
use Rattle.histogram_log.proofs.Lengths.{short_log}
use Rattle.histogram_log.proofs.Logs.{is_log, calls_back}
use Rattle.histogram_log.proofs.laws.histograms_are_logs.Goals as goal

pub returns-clause-log : goal.returns-clause-log
returns-clause-log c = λ n. is_log (histogram n) (histogram_spelt n)

pub returns-clause-calls : goal.returns-clause-calls
returns-clause-calls c = λ n. calls_back (histogram n) (histogram_spelt n)

pub returns-clause-short : goal.returns-clause-short
returns-clause-short c = short_log
