use Rattle.std.proofs.Common.{◌≡◌, take}
use Rattle.call_log.specs.Put.{spell_words}
use Rattle.histogram_log.proofs.words.bytes_of.Given as goal

abbrev pub invariant-words : goal.invariant-words
invariant-words l = l.spelt.items ≡ spell_words (take l.word-index l.words)
