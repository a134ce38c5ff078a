use Rattle.std.proofs.Common.{◌≡◌, ◌+◌, length, map}
use Rattle.spirv_model.specs.FirstBad.{first_fault}
use Rattle.spirv_words.specs.Rules.{rule_of}
use Rattle.spirv_words.proofs.known.Known.listed_alone.Given as goal

abbrev pub invariant-words : goal.invariant-words
invariant-words l =
    (l.word + length l.rest ≡ l.at + length l.words)
    × (first_fault l.word (map (rule_of l.self l.each) l.rest) ≡ first_fault l.at (map (rule_of l.self l.each) l.words))

abbrev pub decreases-words : goal.decreases-words
decreases-words l = length l.rest
