use Rattle.std.proofs.Common.{◌≤◌, ◌+◌, length}
use Rattle.base_lemmas.specs.ByteWords.{words_of}
use Rattle.shader_model.specs.Items.{items_from}
use Rattle.shader_tokens.proofs.Sofar.{Sofar}
use Rattle.shader_tokens.proofs.decoding.read_items.Given as goal

abbrev pub invariant-loop-rest : goal.invariant-loop-rest
invariant-loop-rest l = (l.at + length (words_of l.rest) ≤ 65536) × Sofar (items_from 2 0 (words_of l.words)) l.at (words_of l.rest) l.reader

abbrev pub decreases-loop-rest : goal.decreases-loop-rest
decreases-loop-rest l = length (words_of l.rest)
