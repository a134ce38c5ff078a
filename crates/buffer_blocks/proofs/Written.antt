-- What stands where once a piece was written over a list of bytes.
use Rattle.std.proofs.Common.{◌≡◌, ℕ, ◌+◌, ◌-◌, ◌<◌, ◌≤◌, List, ◌++◌, length, take, drop, get_or, sym, ap, ◌∙◌, arith}
use Rattle.std.proofs.lemmas.List.{length-append, length-take, length-drop, drop-drop, get_or-take, get_or-drop, get_or_append_left, get_or-append_right}
use Rattle.std.proofs.Math.Seq.{take-length}
use Rattle.buffer_blocks.specs.Written.{written}

module _ (bytes : List ℕ) (from : ℕ) (piece : List ℕ) where
  abbrev joined : List ℕ
  joined = take from bytes ++ (piece ++ drop (length piece) (drop from bytes))

  length-joined : from ≤ length bytes → length joined ≡ from + (length piece + (length bytes - from - length piece))
  length-joined h =
      let front : length (take from bytes) ≡ from = omega (arith, length-take from bytes) in
      let back = length-drop (length piece) (drop from bytes) in let rest = length-drop from bytes in
      let two = length-append piece (drop (length piece) (drop from bytes)) in
      let all = length-append (take from bytes) (piece ++ drop (length piece) (drop from bytes)) in omega arith

  pub length-written : from ≤ length bytes → length (written bytes from piece) ≡ length bytes
  length-written h = let cut = length-take (length bytes) joined in let all = length-joined h in omega arith

  -- a piece that fits stands there whole, and all around it is as before
  pub written-fits : from + length piece ≤ length bytes → written bytes from piece ≡ take from bytes ++ (piece ++ drop (from + length piece) bytes)
  written-fits h =
      let same : length joined ≡ length bytes = omega (arith, length-joined) in
      ap (λ n. take n joined) (sym same) ∙ (take-length joined ∙ ap (λ rest. take from bytes ++ (piece ++ rest)) (drop-drop (length piece) from bytes))

  module _ (h : from + length piece ≤ length bytes) (k : ℕ) where
    front_is : length (take from bytes) ≡ from
    front_is = omega (arith, length-take from bytes)

    pub get_or-written_before : k < from → get_or (written bytes from piece) k 0 ≡ get_or bytes k 0
    get_or-written_before b =
        ap (λ l. get_or l k 0) (written-fits h) ∙ (get_or_append_left (take from bytes) _ 0 k (omega (arith, front_is)) ∙ get_or-take from bytes k 0 b)

    past_front : from ≤ k → get_or (written bytes from piece) k 0 ≡ get_or (piece ++ drop (from + length piece) bytes) (k - from) 0
    past_front b = ap (λ l. get_or l k 0) (written-fits h) ∙ get_or-append_right (take from bytes) _ from k 0 front_is b

    pub get_or-written_in : from ≤ k → k < from + length piece → get_or (written bytes from piece) k 0 ≡ get_or piece (k - from) 0
    get_or-written_in b c = past_front b ∙ get_or_append_left piece _ 0 (k - from) (omega arith)

    pub get_or-written_after : from + length piece ≤ k → get_or (written bytes from piece) k 0 ≡ get_or bytes k 0
    get_or-written_after b =
        let same : from + length piece + (k - from - length piece) ≡ k = omega arith in
        past_front (omega arith) ∙ (get_or-append_right piece _ (length piece) (k - from) 0 (λ _. length piece) (omega arith)
        ∙ (get_or-drop (from + length piece) bytes (k - from - length piece) 0 ∙ ap (λ n. get_or bytes n 0) same))
