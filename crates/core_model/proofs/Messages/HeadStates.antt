-- The chunks of messages, and the state behind their turns.
use Rattle.std.proofs.Common.{◌≡◌, ℕ, suc, List, [], ◌∷◌, ◌++◌}
use Rattle.std.proofs.Common.{length, take, refl, sym, ap, ◌∙◌}
use Rattle.std.proofs.Common.{append_assoc, append-nil}
use Rattle.core_model.specs.Script.{Turn, Script}
use Rattle.core_model.specs.Chunking.{joined}
use Rattle.core_model.specs.Invariant.{turns_of}
use Rattle.core_model.specs.Succession.{Head}
use Rattle.core_model.proofs.Messages.HeadLines.{chunks_of}

pub take_first : (xs ys : List (List Turn)) → take (length xs) (xs ++ ys) ≡ xs
take_first [] ys = refl
take_first (x ∷ xs) ys = ap (λ l. x ∷ l) (take_first xs ys)

pub take_more : (xs : List (List Turn)) (y : List Turn) (ys : List (List Turn))
    → take (suc (length xs)) (xs ++ y ∷ ys) ≡ xs ++ y ∷ []
take_more [] y ys = refl
take_more (x ∷ xs) y ys = ap (λ l. x ∷ l) (take_more xs y ys)

pub length_of_chunks : (script : Script) (k : ℕ) (hs : List Head)
    → length (turns_of (chunks_of script k hs)) ≡ length hs
length_of_chunks script k [] = refl
length_of_chunks script k (h ∷ hs) = ap suc (length_of_chunks script (suc k) hs)

pub joined_more : (xs : List (List Turn)) (y : List Turn) → joined (xs ++ y ∷ []) ≡ joined xs ++ y
joined_more [] y = append-nil y
joined_more (x ∷ xs) y = ap (λ l. x ++ l) (joined_more xs y) ∙ sym (append_assoc x (joined xs) y)
