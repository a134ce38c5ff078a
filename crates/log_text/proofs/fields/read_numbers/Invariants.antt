use Rattle.log_text.specs.Reading.{ReadsNumbers}
use Rattle.text_words.specs.Words.{StopsAt}
use Rattle.log_text.proofs.fields.read_numbers.Given as goal

abbrev pub invariant-numbers : goal.invariant-numbers
invariant-numbers l = ReadsNumbers l.i l.text l.rest l.fn.log.items l.log.items × StopsAt 32 l.rest
