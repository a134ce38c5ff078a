use Rattle.std.proofs.Common.{◌≡◌, ◌++◌, drop, map}
use Rattle.std.specs.String.{string_bytes}
use Rattle.vk_trace.specs.ListText.{hex_word, rest_of}
use Rattle.vk_trace.proofs.write.push_memory.Given as goal

abbrev pub invariant-words : goal.invariant-words
invariant-words l = string_bytes l.text ++ rest_of 32 (map hex_word (drop l.word-index l.words)) ≡ string_bytes l.fn.text ++ rest_of 32 (map hex_word l.words)
