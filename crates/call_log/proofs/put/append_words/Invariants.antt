use Rattle.std.proofs.Common.{◌≡◌, ◌++◌, take}
use Rattle.call_log.specs.Put.{spell_words}
use Rattle.call_log.proofs.put.append_words.Given as goal

abbrev pub invariant-words : goal.invariant-words
invariant-words l = l.buf.items ≡ l.fn.buf.items ++ spell_words (take l.word-index l.words)
