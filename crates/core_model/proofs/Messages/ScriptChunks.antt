-- The chunks that a script is cut into, by their numbers: the turns of each, of all up to one, and the last call of
-- those.
use Rattle.std.proofs.Common.{◌≡◌, suc, ◌+◌, List, [], ◌∷◌, ◌++◌, map, length, refl, sym, ap, ◌∙◌, Option, Some}
use Rattle.std.proofs.Common.{slice_get, arith, append_assoc, length-append}
use Rattle.base_lemmas.specs.Lists.{numbers_from}
use Rattle.core_model.specs.Script.{Turn, Script}
use Rattle.core_model.specs.Chunking.{chunks, turns_or_none, chunk_turns, last_call, upto, joined}
use Rattle.core_model.specs.CoreState.{Segment, last_finished}
use Rattle.core_model.specs.Invariant.{turns_of}
use Rattle.core_model.specs.Succession.{turns_upto}
use Rattle.core_model.proofs.Steps.Segments.{turns_of-append, get_middle, turns_length}

-- chunk k's turns, where the script is cut into these
pub chunk_is : (script : Script) (xs : List (List Turn)) (y : List Turn) (ys : List (List Turn))
    → chunks script ≡ xs ++ y ∷ ys → chunk_turns script (suc (length xs)) ≡ y
chunk_is script xs y ys e = by (slice_get (chunks script) (length xs)) (ap (λ l. slice_get l (length xs)) e
    ∙ get_middle xs y ys)
  where
    by : (o : Option (List Turn)) → o ≡ Some y → turns_or_none o ≡ y
    by o h = ap turns_or_none h

pub chunks_are : (script : Script) (xs front ys : List (List Turn)) → chunks script ≡ front ++ (xs ++ ys)
    → map (chunk_turns script) (numbers_from (suc (length front)) (length xs)) ≡ xs
chunks_are script [] front ys e = refl
chunks_are script (x ∷ xs) front ys e =
    let long : length (front ++ x ∷ []) ≡ suc (length front) =
    (let l = length-append front (x ∷ []) in omega (arith, l)) in
    ap (λ y. y ∷ map (chunk_turns script) (numbers_from (suc (suc (length front))) (length xs)))
    (chunk_is script front x (xs ++ ys) e)
    ∙ ap (λ l. x ∷ l) (ap (λ n. map (chunk_turns script) (numbers_from (suc n) (length xs))) (sym long)
    ∙ chunks_are script xs (front ++ x ∷ []) ys (e ∙ sym (append_assoc front (x ∷ []) (xs ++ ys))))

-- the turns of a chunk behind others, and of the chunks up to it
pub turns_there : (script : Script) (front : List Segment) (s : Segment) (back : List Segment)
    (rest : List (List Turn)) → chunks script ≡ turns_of (front ++ s ∷ back) ++ rest
    → chunk_turns script (suc (length front)) ≡ s.turns
turns_there script front s back rest e =
    ap (λ n. chunk_turns script (suc n)) (sym (turns_length front))
    ∙ chunk_is script (turns_of front) s.turns (turns_of back ++ rest) (e
    ∙ ap (λ l. l ++ rest) (turns_of-append front (s ∷ back))
    ∙ append_assoc (turns_of front) (s.turns ∷ turns_of back) rest)

pub upto_there : (script : Script) (front : List Segment) (s : Segment) (rest : List (List Turn))
    → chunks script ≡ turns_of (front ++ s ∷ []) ++ rest
    → turns_upto script (suc (length front)) ≡ joined (turns_of (front ++ s ∷ []))
upto_there script front s rest e =
    let all = front ++ s ∷ [] in
    let long : suc (length front) ≡ length (turns_of all) = (let l = length-append front (s ∷ []) in let n =
    turns_length all in omega (arith, l, n)) in
    ap (λ n. joined (map (chunk_turns script) (numbers_from 1 n))) long
    ∙ ap joined (chunks_are script (turns_of all) [] rest e)

-- the last call that chunks finish, by the script
finished_from : (script : Script) (front : List Segment) (s : Segment) (ss : List Segment) (ys : List (List Turn))
    → chunks script ≡ turns_of front ++ (turns_of (s ∷ ss) ++ ys)
    → last_finished (s ∷ ss) ≡ upto script (length front + length (s ∷ ss))
finished_from script front s [] ys e =
    let long : suc (length (turns_of front)) ≡ length front + length (s ∷ []) =
    (let l = turns_length front in omega (arith, l)) in
    sym (ap last_call (ap (chunk_turns script) (sym long) ∙ chunk_is script (turns_of front) s.turns ys e))
finished_from script front s (u ∷ ss) ys e =
    let long : length (front ++ s ∷ []) + length (u ∷ ss) ≡ length front + length (s ∷ u ∷ ss) =
    (let l = length-append front (s ∷ []) in omega (arith, l)) in
    finished_from script (front ++ s ∷ []) u ss ys
    (e ∙ sym (append_assoc (turns_of front) (s.turns ∷ []) (turns_of (u ∷ ss) ++ ys))
    ∙ ap (λ l. l ++ (turns_of (u ∷ ss) ++ ys)) (sym (turns_of-append front (s ∷ []))))
    ∙ ap (upto script) long

pub finished_is : (script : Script) (ss : List Segment) (ys : List (List Turn)) → chunks script ≡ turns_of ss ++ ys
    → last_finished ss ≡ upto script (length ss)
finished_is script [] ys e = refl
finished_is script (s ∷ ss) ys e = finished_from script [] s ss ys e
    ∙ ap (upto script) (let z : 0 + length (s ∷ ss) ≡ length (s ∷ ss) = omega arith in z)
