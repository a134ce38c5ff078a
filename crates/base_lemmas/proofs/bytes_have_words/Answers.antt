use Rattle.base_lemmas.proofs.ByteWords.{words_length}
use Rattle.base_lemmas.proofs.bytes_have_words.Goals as goal

pub returns : goal.returns
returns c = words_length
