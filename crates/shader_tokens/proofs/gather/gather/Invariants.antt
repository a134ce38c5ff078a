use Rattle.std.proofs.Common.{◌≡◌, true, drop}
use Rattle.base_lemmas.specs.ByteWords.{words_of}
use Rattle.shader_tokens.specs.Decoding.{walks, parts_at, nothing, gathered}
use Rattle.shader_tokens.proofs.gather.gather.Given as goal

abbrev pub invariant-loop-kind : goal.invariant-loop-kind
invariant-loop-kind l =
    (walks (drop l.kind-index l.kinds) (words_of l.rest) ≡ true)
    × (gathered l.gathered (parts_at 0 (drop l.kind-index l.kinds) (words_of l.rest)) ≡ gathered nothing (parts_at 0 l.kinds (words_of l.words)))
