-- The text of a record's fields, as it is written.
use Rattle.std.proofs.Common.{◌≡◌, ℕ, zero, suc, ◌+◌, ◌-◌, ◌/◌, ◌%◌, ◌<◌, ◌≤◌, List, [], ◌∷◌, ◌++◌, length, take, drop, Option, Some, refl, sym, ap, subst, ◌∙◌, append_assoc, arith}
use Rattle.std.specs.List.{flat_map, slice_index}
use Rattle.std.proofs.lemmas.List.{append-nil, take-append-drop}
use Rattle.std.proofs.lemmas.List.Concat.{flat_map-cons}
use Rattle.hex.specs.Hex.{encode_lower, encode_with, lower_digits}
use Rattle.call_log.specs.Body.{word}
use Rattle.std.specs.Fmt.{decimal}
use Rattle.call_log.specs.Grammar.{Frame}
use Rattle.call_log.specs.Kinds.{Kind, kind_numbered}
use Rattle.log_text.specs.LogText.{number_field, number_fields, bytes_field, words_of, fields, line, name_and_fields}
use Rattle.log_text.specs.Reading.{call_text}

-- ---- numbers, the next of them in front of what is left

numbers_cons : (n : ℕ) (rest : List ℕ) → number_fields (suc n) rest ≡ number_field (word 0 rest) ++ number_fields n (drop 4 rest)
unfolding words_of
numbers_cons n rest = flat_map-cons number_field (word 0 rest) (words_of n (drop 4 rest))

pub numbers_step : (n i : ℕ) (text more rest next all : List ℕ) → i < n → text ++ number_fields (n - i) rest ≡ all → more ≡ text ++ number_field (word 0 rest) → next ≡ drop 4 rest
    → more ++ number_fields (n - (i + 1)) next ≡ all
numbers_step n i text more rest next all lt e put is =
    let left : n - i ≡ suc (n - (i + 1)) = omega arith in
    ap (λ (l : List ℕ). more ++ number_fields (n - (i + 1)) l) is ∙ ap (λ (l : List ℕ). l ++ number_fields (n - (i + 1)) (drop 4 rest)) put
    ∙ append_assoc text (number_field (word 0 rest)) (number_fields (n - (i + 1)) (drop 4 rest))
    ∙ ap (λ (l : List ℕ). text ++ l) (sym (numbers_cons (n - (i + 1)) rest) ∙ ap (λ (k : ℕ). number_fields k rest) (sym left)) ∙ e

pub numbers_end : (n i : ℕ) (text rest all : List ℕ) → n ≤ i → text ++ number_fields (n - i) rest ≡ all → text ≡ all
unfolding words_of
numbers_end n i text rest all le e =
    let none : n - i ≡ 0 = omega arith in
    sym (append-nil text) ∙ ap (λ (k : ℕ). text ++ number_fields k rest) (sym none) ∙ e

-- ---- bytes in hexadecimal, a piece at a time

encode_append : (xs ys : List ℕ) → encode_lower (xs ++ ys) ≡ encode_lower xs ++ encode_lower ys
unfolding encode_with
encode_append [] ys = refl
encode_append (x ∷ xs) ys = ap (λ (l : List ℕ). slice_index lower_digits (x / 16) ∷ slice_index lower_digits (x % 16) ∷ l) (encode_append xs ys)

pub pieces_step : (n : ℕ) (text more rest piece after all : List ℕ) → text ++ encode_lower rest ≡ all → more ≡ text ++ encode_lower piece → piece ≡ take n rest → after ≡ drop n rest
    → more ++ encode_lower after ≡ all
pieces_step n text more rest piece after all e put front behind =
    ap (λ (l : List ℕ). l ++ encode_lower after) put ∙ append_assoc text (encode_lower piece) (encode_lower after)
    ∙ ap (λ (l : List ℕ). text ++ l) (sym (encode_append piece after) ∙ ap encode_lower (ap (λ (l : List ℕ). l ++ after) front ∙ ap (λ (l : List ℕ). take n rest ++ l) behind ∙ take-append-drop n rest)) ∙ e

pub pieces_end : (text rest all : List ℕ) → rest ≡ [] → text ++ encode_lower rest ≡ all → text ≡ all
unfolding encode_with
pieces_end text rest all none e = sym (append-nil text) ∙ ap (λ (l : List ℕ). text ++ encode_lower l) (sym none) ∙ e

-- ---- fields, and lines

pub bytes_written : (n from : ℕ) (old mid new body rest : List ℕ) → mid ≡ old ++ number_fields n body → rest ≡ drop from body → new ≡ mid ++ bytes_field rest
    → new ≡ old ++ (number_fields n body ++ bytes_field (drop from body))
bytes_written n from old mid new body rest numbers is put =
    put ∙ ap (λ (l : List ℕ). mid ++ bytes_field l) is ∙ ap (λ (l : List ℕ). l ++ bytes_field (drop from body)) numbers
    ∙ append_assoc old (number_fields n body) (bytes_field (drop from body))

pub line_written : (number context : ℕ) (body : List ℕ) (k : Kind) (old head all new : List ℕ) → Some k ≡ kind_numbered number
    → head ≡ old ++ (decimal context ++ (32 ∷ k.name)) → all ≡ head ++ fields k.layout body → new ≡ all ++ 10 ∷ [] → new ≡ old ++ line (record { kind = number; context = context; body = body })
unfolding line
line_written number context body k old head all new is first second third =
    let bare : List ℕ = decimal context ++ (32 ∷ (k.name ++ fields k.layout body)) in
    let joined : head ++ fields k.layout body ≡ old ++ bare =
    ap (λ (l : List ℕ). l ++ fields k.layout body) first ∙ append_assoc old (decimal context ++ (32 ∷ k.name)) (fields k.layout body)
    ∙ ap (λ (l : List ℕ). old ++ l) (append_assoc (decimal context) (32 ∷ k.name) (fields k.layout body)) in
    third ∙ ap (λ (l : List ℕ). l ++ 10 ∷ []) (second ∙ joined) ∙ append_assoc old bare (10 ∷ [])
    ∙ ap (λ (o : Option Kind). old ++ ((decimal context ++ name_and_fields o body) ++ 10 ∷ [])) is

-- ---- calls

calls_next : (frames : List Frame) (i : ℕ) → i < length frames → flat_map line (take (suc i) frames) ≡ flat_map line (take i frames) ++ call_text frames (suc i)
calls_next [] i lt = absurd (omega arith)
calls_next (f ∷ frames) zero lt = flat_map-cons line f [] ∙ append-nil (line f)
calls_next (f ∷ frames) (suc i) lt =
    flat_map-cons line f (take (suc i) frames) ∙ ap (λ (l : List ℕ). line f ++ l) (calls_next frames i (omega arith))
    ∙ sym (append_assoc (line f) (flat_map line (take i frames)) (call_text frames (suc i)))
    ∙ ap (λ (l : List ℕ). l ++ call_text frames (suc i)) (sym (flat_map-cons line f (take i frames)))

-- the line of one call more
pub calls_more : (frames : List Frame) (i : ℕ) → i < length frames → flat_map line (take (i + 1) frames) ≡ flat_map line (take i frames) ++ call_text frames (i + 1)
calls_more frames i lt =
    let next : suc i ≡ i + 1 = omega arith in
    subst (λ (k : ℕ). flat_map line (take k frames) ≡ flat_map line (take i frames) ++ call_text frames k) next (calls_next frames i lt)
