use Rattle.std.proofs.Common.{◌≡◌, drop}
use Rattle.base_lemmas.specs.ByteWords.{words_of}
use Rattle.shader_tokens.specs.Decoding.{walks}
use Rattle.shader_tokens.proofs.item.fits.Given as goal

abbrev pub invariant-loop-kind : goal.invariant-loop-kind
invariant-loop-kind l = walks l.kinds (words_of l.words) ≡ walks (drop l.kind-index l.kinds) (words_of l.rest)
