-- How many words some bytes have.
use Rattle.std.proofs.Common.{◌≡◌, ℕ, ◌/◌, List, [], ◌∷◌, length, refl, arith}
use Rattle.base_lemmas.specs.ByteWords.{words_of}

pub words_length : (b : List ℕ) → length (words_of b) ≡ length b / 4
words_length [] = refl
words_length (a ∷ []) = refl
words_length (a ∷ b ∷ []) = refl
words_length (a ∷ b ∷ c ∷ []) = refl
words_length (a ∷ b ∷ c ∷ d ∷ rest) = omega (arith, words_length rest)
