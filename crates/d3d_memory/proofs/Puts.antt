-- What a write into a part of some bytes leaves, as a put.
use Rattle.std.proofs.Common.{◌≡◌, ℕ, zero, suc, ◌+◌, ◌*◌, ◌-◌, true, false, List, [], ◌∷◌, ◌++◌, length, take, drop, replicate, min, refl, sym, ap, ◌∙◌, arith}
use Rattle.std.specs.Prelude.{nat_le, if◌then◌else◌}
use Rattle.std.specs.List.{copy_within}
use Rattle.std.proofs.lemmas.Bool.{le-leb}
use Rattle.std.proofs.lemmas.List.{append_assoc, drop-drop, length-take, length-drop, length-append, take_min, drop_min, drop_all, drop_at, take_at, append-nil, take-append-drop}
use Rattle.std.specs.Global.{Vec}
use borrow.Rule.Slice.PartMut.{put_mid}
use Rattle.d3d_model.specs.Regions.{put, filled, slice, repeated}
use Rattle.d3d_model.proofs.Sized.{put_fits}

-- where it passes the end, a put changes nothing
pub put_passes : (old : List ℕ) (from : ℕ) (piece : List ℕ) → nat_le (from + length piece) (length old) ≡ false → put old from piece ≡ old
unfolding put
put_passes old from piece e = ap (λ b. if b then take from old ++ (piece ++ drop (from + length piece) old) else old) e

-- a write to so many bytes from a place on
pub put_is_mid : (old new piece : List ℕ) (from k : ℕ) → nat_le (from + length piece) (length old) ≡ true → new ≡ piece → k ≡ length piece → put_mid from k old new ≡ put old from piece
put_is_mid old new piece from k e is n =
    ap (λ (l : List ℕ). take from old ++ (l ++ drop k (drop from old))) is
    ∙ ap (λ (l : List ℕ). take from old ++ (piece ++ l)) (drop-drop k from old ∙ ap (λ (j : ℕ). drop (from + j) old) n)
    ∙ sym (put_fits old from piece e)

-- the part of some bytes that is read, where it is cut to what they have
pub cut_slice : (bytes : List ℕ) (from len start n : ℕ) → start ≡ min from (length bytes) → n ≡ min len (length bytes - start) → take n (drop start bytes) ≡ slice bytes from (from + len)
cut_slice bytes from len start n s e =
    ap (λ (j : ℕ). take j (drop start bytes)) (e ∙ ap (min len) (sym (length-drop start bytes)))
    ∙ take_min len (drop start bytes)
    ∙ ap (λ (j : ℕ). take len (drop j bytes)) s
    ∙ ap (take len) (drop_min from bytes)
    ∙ ap (λ (j : ℕ). take j (drop from bytes)) (omega arith)

pub length_cut : (bytes : List ℕ) (from len start n : ℕ) → start ≡ min from (length bytes) → n ≡ min len (length bytes - start) → length (slice bytes from (from + len)) ≡ n
length_cut bytes from len start n s e =
    ap length (sym (cut_slice bytes from len start n s e))
    ∙ length-take n (drop start bytes)
    ∙ omega (arith, length-drop start bytes)

pub own_is_put : (bytes new : List ℕ) (to from len start n : ℕ) → start ≡ min from (length bytes) → n ≡ min len (length bytes - start) → nat_le (to + n) (length bytes) ≡ true
    → new ≡ copy_within bytes start (start + n) to → new ≡ put bytes to (slice bytes from (from + len))
own_is_put bytes new to from len start n s e fits is =
    let piece = slice bytes from (from + len) in
    let has : length piece ≡ n = length_cut bytes from len start n s e in
    let k : start + n - start ≡ n = omega arith in
    is
    ∙ ap (λ (j : ℕ). (take to bytes ++ take j (drop start bytes)) ++ drop (to + j) bytes) k
    ∙ append_assoc (take to bytes) (take n (drop start bytes)) (drop (to + n) bytes)
    ∙ ap (λ (l : List ℕ). take to bytes ++ (l ++ drop (to + n) bytes)) (cut_slice bytes from len start n s e)
    ∙ ap (λ (j : ℕ). take to bytes ++ (piece ++ drop (to + j) bytes)) (sym has)
    ∙ sym (put_fits bytes to piece (ap (λ (j : ℕ). nat_le (to + j) (length bytes)) has ∙ fits))

pub own_passes : (bytes : List ℕ) (to from len start n : ℕ) → start ≡ min from (length bytes) → n ≡ min len (length bytes - start) → nat_le (to + n) (length bytes) ≡ false
    → bytes ≡ put bytes to (slice bytes from (from + len))
own_passes bytes to from len start n s e fits =
    sym (put_passes bytes to (slice bytes from (from + len)) (ap (λ (j : ℕ). nat_le (to + j) (length bytes)) (length_cut bytes from len start n s e) ∙ fits))

-- ---- an element over and over

pub length-repeated : (n : ℕ) (l : List ℕ) → length (repeated n l) ≡ n * length l
length-repeated zero l = omega arith
length-repeated (suc n) l = length-append l (repeated n l) ∙ omega (arith, length-repeated n l)

-- one more at the end is one more
pub repeated_more : (n : ℕ) (l : List ℕ) → repeated n l ++ l ≡ repeated (suc n) l
repeated_more zero l = sym (append-nil l)
repeated_more (suc n) l = append_assoc l (repeated n l) l ∙ ap (λ (r : List ℕ). l ++ r) (repeated_more n l)

-- the next element, over the bytes behind those that are written
pub element_more : (old now new element : List ℕ) (i k : ℕ) → now ≡ repeated i element ++ drop (i * length element) old → new ≡ element → k ≡ length element
    → put_mid (i * length element) k now new ≡ repeated (i + 1) element ++ drop ((i + 1) * length element) old
element_more old now new element i k is same n =
    let e = length element in
    let at : length (repeated i element) ≡ i * e = length-repeated i element in
    let more : suc i ≡ i + 1 = omega arith in
    let next : i * e + e ≡ (i + 1) * e = omega arith in
    ap (λ (l : List ℕ). take (i * e) l ++ (new ++ drop k (drop (i * e) l))) is
    ∙ ap (λ (l : List ℕ). l ++ (new ++ drop k (drop (i * e) (repeated i element ++ drop (i * e) old)))) (take_at (repeated i element) (drop (i * e) old) (i * e) at)
    ∙ ap (λ (l : List ℕ). repeated i element ++ (new ++ drop k l)) (drop_at (repeated i element) (drop (i * e) old) (i * e) at)
    ∙ ap (λ (l : List ℕ). repeated i element ++ (l ++ drop k (drop (i * e) old))) same
    ∙ ap (λ (l : List ℕ). repeated i element ++ (element ++ l)) (drop-drop k (i * e) old ∙ ap (λ (j : ℕ). drop (i * e + j) old) n ∙ ap (λ (j : ℕ). drop j old) next)
    ∙ sym (append_assoc (repeated i element) element (drop ((i + 1) * e) old))
    ∙ ap (λ (l : List ℕ). l ++ drop ((i + 1) * e) old) (repeated_more i element ∙ ap (λ (j : ℕ). repeated j element) more)

-- what a vector holds whose bytes were written as a whole
pub all_written : (v : Vec ℕ) (new : List ℕ) → length new ≡ v.len → take v.len (new ++ drop (length new) v.items) ≡ new
all_written v new e = take_at new (drop (length new) v.items) v.len e

-- ---- nothing, and zeros

pub put_nothing : (old : List ℕ) (from : ℕ) → put old from [] ≡ old
unfolding put
put_nothing old from = elim (nat_le (from + 0) (length old)) as (λ b. (if b then take from old ++ ([] ++ drop (from + 0) old) else old) ≡ old) [
  | true ↦ ap (λ (j : ℕ). take from old ++ drop j old) (omega arith) ∙ take-append-drop from old
  | false ↦ refl
]

pub repeated_nothing : (n : ℕ) → repeated n [] ≡ []
repeated_nothing zero = refl
repeated_nothing (suc n) = repeated_nothing n

nil_of : (l : List ℕ) → length l ≡ 0 → l ≡ []
nil_of [] e = refl
nil_of (x ∷ l) e = absurd (omega (arith, e))

pub put_empty : (old : List ℕ) (from n : ℕ) (element : List ℕ) → length element ≡ 0 → old ≡ put old from (repeated n element)
put_empty old from n element e =
    sym (ap (λ (l : List ℕ). put old from (repeated n l)) (nil_of element e) ∙ ap (put old from) (repeated_nothing n) ∙ put_nothing old from)

pub filled_nothing : (n : ℕ) → filled n [] ≡ replicate n 0
unfolding filled
filled_nothing n = put_nothing (replicate n 0) 0

-- as many bytes as there are, in place of all
pub put_whole : (old piece : List ℕ) → length piece ≡ length old → put old 0 piece ≡ piece
put_whole old piece e =
    put_fits old 0 piece (le-leb (0 + length piece) (length old) (omega arith))
    ∙ ap (λ (l : List ℕ). piece ++ l) (drop_all (0 + length piece) old (omega arith))
    ∙ append-nil piece
