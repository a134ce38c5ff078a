use Rattle.std.proofs.Common.{map, ◌∷◌, refl, arith}
use Rattle.vk_trace.specs.ListText.{hex_word, rest_of}
use Rattle.vk_trace.proofs.Written.{written_more, written_all}
use Rattle.vk_trace.proofs.write.push_memory.Goals as goal

pub words-preserved : goal.words-preserved
words-preserved c =
    written_more (λ w. 32 ∷ hex_word w) (λ ws. rest_of 32 (map hex_word ws)) refl (λ w ws. refl) c.args.words.now c.words.word-index 0 _ _ _ _ c.words-test.true refl c.words.invariant c.in_ok-push_memory_word.ensures

pub returns : goal.returns
returns c = written_all (λ w. 32 ∷ hex_word w) (λ ws. rest_of 32 (map hex_word ws)) refl (λ w ws. refl) c.args.words.now c.words.word-index _ _ (omega arith) c.words.invariant
