-- A record that was opened, given a body, and closed.
use Rattle.std.proofs.Common.{◌≡◌, ℕ, ◌+◌, ◌-◌, List, ◌++◌, length, take, drop, refl, ap, ◌∙◌, append_assoc, arith}
use Rattle.std.proofs.lemmas.List.{length-append, drop-drop}
use Rattle.std.proofs.Math.Seq.{take-append-add, drop-append-add}
use borrow.Rule.Slice.PartMut.{put_mid}
use Rattle.byteorder.specs.Endian.{little_bytes}
use Rattle.call_log.specs.Grammar.{spell}

-- four bytes written over those at a place
pub written : (at k : ℕ) (xs ys zs : List ℕ) → k ≡ 4 → ys ≡ zs → put_mid at k xs ys ≡ take at xs ++ (zs ++ drop (at + 4) xs)
written at k xs ys zs four e = ap (λ (n : ℕ). put_mid at n xs ys) four ∙ ap (λ (l : List ℕ). take at xs ++ (l ++ drop 4 (drop at xs))) e ∙ ap (λ (l : List ℕ). take at xs ++ (zs ++ l)) (drop-drop 4 at xs)

-- the bytes before a body, with a length
abbrev pub opened : (kind context n : ℕ) → List ℕ
opened kind context n = little_bytes 2 kind ++ (little_bytes 2 context ++ little_bytes 4 n)

pub length-opened : (kind context n : ℕ) → length (opened kind context n) ≡ 8
length-opened kind context n = refl

-- closing an opened record with a body behind it spells the record
pub closed : (old body whole now : List ℕ) (kind context from : ℕ) → whole ≡ (old ++ opened kind context 0) ++ body → from ≡ length old + 8
    → now ≡ take (from - 4) whole ++ (little_bytes 4 (length whole - from) ++ drop from whole) → now ≡ old ++ spell (record { kind = kind; context = context; body = body })
closed old body whole now kind context from is at e =
    let front : List ℕ = little_bytes 2 kind ++ little_bytes 2 context in
    let whole_is : whole ≡ old ++ (opened kind context 0 ++ body) = is ∙ append_assoc old (opened kind context 0) body in
    let start : from - 4 ≡ length old + 4 = omega arith in
    let first : take (from - 4) whole ≡ old ++ front =
    ap (λ (n : ℕ). take n whole) start ∙ ap (take (length old + 4)) whole_is ∙ take-append-add old (opened kind context 0 ++ body) 4 in
    let last : drop from whole ≡ body = ap (λ (n : ℕ). drop n whole) at ∙ ap (drop (length old + 8)) whole_is ∙ drop-append-add old (opened kind context 0 ++ body) 8 in
    let long : length whole - from ≡ length body =
    omega (arith, at, ap length whole_is, length-append old (opened kind context 0 ++ body), length-append (opened kind context 0) body, length-opened kind context 0) in
    e ∙ ap (λ (l : List ℕ). l ++ (little_bytes 4 (length whole - from) ++ drop from whole)) first
    ∙ ap (λ (l : List ℕ). (old ++ front) ++ (little_bytes 4 (length whole - from) ++ l)) last
    ∙ ap (λ (n : ℕ). (old ++ front) ++ (little_bytes 4 n ++ body)) long
    ∙ append_assoc old front (little_bytes 4 (length body) ++ body)

-- words and a rest behind an opened record are its body
pub whole : (old head words rest begun more now : List ℕ) → begun ≡ old ++ head → more ≡ begun ++ words → now ≡ more ++ rest → now ≡ (old ++ head) ++ (words ++ rest)
whole old head words rest begun more now p q r = r ∙ ap (λ (l : List ℕ). l ++ rest) (q ∙ ap (λ (l : List ℕ). l ++ words) p) ∙ append_assoc (old ++ head) words rest
