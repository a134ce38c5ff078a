-- Bytes in lower-case hexadecimal: which texts they are.
use Rattle.std.proofs.Common.{◌≡◌, ℕ, zero, suc, ◌+◌, ◌*◌, ◌/◌, ◌%◌, ◌<◌, ◌≤◌, ◌⊎◌, Bool, true, false, not, ◌&&◌, eqb, leb, ltb, cond, List, [], ◌∷◌, length, Option, Some, None, Result, Ok, Err, refl, sym, ap, subst, ◌∙◌, arith, inl, inr}
use Rattle.std.specs.List.{slice_index}
use Rattle.std.proofs.lemmas.List.{get_or_past}
use Rattle.std.specs.Str.{IsUtf8}
use Rattle.std.proofs.lemmas.Str.{IsUtf8-from_ascii}
use Rattle.std.proofs.lemmas.Bool.{eqb-true, leb-true, ltb-true}
use Rattle.std.proofs.lemmas.Bool.Decides.{nat_tests}
use Rattle.hex.specs.Hex.{IsBytes, decode_pairs, decode_sized, pair_value, value_at, digit_or_error, hex_digit_value, encode_lower, encode_with, lower_digits, ◌>>=◌}
use Rattle.hex.specs.declared.error.FromHexError.{FromHexError}
use Rattle.hex.proofs.HexLemmas.{length-encode_with, IsAscii-encode_with, decode_sized-encode_lower}
use Rattle.text_words.specs.Words.{Lacks, AreBytes, lower}

unfoldable pub all_digits : (ℕ → Bool) → ℕ → Bool
all_digits test zero = true
all_digits test (suc n) = test n && all_digits test n

both : (a b : Bool) → a && b ≡ true → (a ≡ true) × (b ≡ true)
both true true e = (refl, refl)
both true false e = absurd cc
both false b e = absurd cc

either_below : (k n : ℕ) → k < suc n → (k < n) ⊎ (k ≡ n)
either_below k n lt = grind arith

-- a test that passes at each of the first n numbers
pub digits_at : (test : ℕ → Bool) (n k : ℕ) → all_digits test n ≡ true → k < n → test k ≡ true
unfolding all_digits
digits_at test zero k h lt = absurd (omega arith)
digits_at test (suc n) k h lt =
    let parts = both (test n) (all_digits test n) h in
    elim (either_below k n lt) [
      | inl below ↦ digits_at test n k parts.1 below
      | inr last ↦ ap test last ∙ parts.0
    ]

-- each lower-case digit is above the stops
above : ℕ → Bool
above d = leb 46 (slice_index lower_digits d)

pub above_all : (d : ℕ) → d < 16 → 46 ≤ slice_index lower_digits d
unfolding all_digits
above_all d lt = leb-true _ _ (digits_at (λ k. leb 46 (slice_index lower_digits k)) 16 d refl lt)

pub Lacks-encode_lower : (c : ℕ) (bytes : List ℕ) → c < 46 → AreBytes bytes → Lacks c (encode_lower bytes)
unfolding encode_with
Lacks-encode_lower c [] lt fit = tt
Lacks-encode_lower c (b ∷ bs) lt fit =
    let byte : b < 256 = fit.0 in
    let high : 46 ≤ slice_index lower_digits (b / 16) = above_all (b / 16) (omega arith) in
    let low : 46 ≤ slice_index lower_digits (b % 16) = above_all (b % 16) (omega arith) in
    ((λ e. absurd (omega arith)), ((λ e. absurd (omega arith)), Lacks-encode_lower c bs lt fit.1))

-- ---- a text in lower case that decodes is what encodes

glyph : ℕ → ℕ
glyph d = cond (leb 10 d) (87 + d) (48 + d)

glyph_all : (d : ℕ) → d < 16 → slice_index lower_digits d ≡ glyph d
unfolding all_digits glyph
glyph_all d lt = eqb-true _ _ (digits_at (λ k. eqb (slice_index lower_digits k) (glyph k)) 16 d refl lt)

glyph_of : (c v : ℕ) → hex_digit_value c ≡ Some v → not (leb 65 c && leb c 90) ≡ true → glyph v ≡ c
unfolding glyph
glyph_of c v e low = grind (arith, nat_tests)

value_small : (c v : ℕ) → hex_digit_value c ≡ Some v → v < 16
value_small c v e = grind (arith, nat_tests)

bind_back : {A B : Type 0} (r : Result A FromHexError) (f : A → Result B FromHexError) (y : B) → (r >>= f) ≡ Ok y → (x : A) × (r ≡ Ok x) × (f x ≡ Ok y)
bind_back (Ok x) f y h = (x, refl, h)
bind_back (Err e) f y h = cc h

digit_back : (c i : ℕ) (o : Option ℕ) (v : ℕ) → digit_or_error c i o ≡ Ok v → o ≡ Some v
digit_back c i (Some w) v h = cc
digit_back c i None v h = cc

ok_or_else : {A : Type 0} → A → Result A FromHexError → A
ok_or_else d (Ok x) = x
ok_or_else d (Err e) = d

pub ok_same : {A : Type 0} (x y : A) (r : Result A FromHexError) → r ≡ Ok x → r ≡ Ok y → x ≡ y
unfolding ok_or_else
ok_same x y r p q = sym (ap (ok_or_else x) p) ∙ ap (ok_or_else x) q

-- what the two digits of a byte are
pair_back : (high low : ℕ) → high < 16 → low < 16 → (a b : ℕ) → glyph high ≡ a → glyph low ≡ b
    → (slice_index lower_digits ((high * 16 + low) / 16) ≡ a) × (slice_index lower_digits ((high * 16 + low) % 16) ≡ b)
pair_back high low h l a b ea eb =
    let up : (high * 16 + low) / 16 ≡ high = omega arith in
    let down : (high * 16 + low) % 16 ≡ low = omega arith in
    (ap (slice_index lower_digits) up ∙ glyph_all high h ∙ ea, ap (slice_index lower_digits) down ∙ glyph_all low l ∙ eb)

pub encode_back : (i : ℕ) (s bytes : List ℕ) → decode_pairs i s ≡ Ok bytes → lower s ≡ true → (encode_lower bytes ≡ s) × AreBytes bytes
unfolding decode_pairs encode_with
encode_back i [] bytes h low =
    let e : [] ≡ bytes = ok_same [] bytes _ refl h in
    subst (λ (l : List ℕ). (encode_lower l ≡ []) × AreBytes l) e (refl, tt)
encode_back i (a ∷ []) bytes h low = cc h
encode_back i (a ∷ b ∷ rest) bytes h low =
    let p0 = bind_back (pair_value a b i) _ bytes h in
    let p1 = bind_back (value_at a i) _ p0.0 p0.1 in
    let p2 = bind_back (value_at b (i + 1)) _ p0.0 p1.2 in
    let p3 = bind_back (decode_pairs (i + 2) rest) _ bytes p0.2 in
    let first = both (not (leb 65 a && leb a 90)) (lower (b ∷ rest)) low in
    let second = both (not (leb 65 b && leb b 90)) (lower rest) first.1 in
    let ih = encode_back (i + 2) rest p3.0 p3.1 second.1 in
    let e : p0.0 ∷ p3.0 ≡ bytes = ok_same _ _ _ refl p3.2 in
    let va : hex_digit_value a ≡ Some p1.0 = digit_back a i (hex_digit_value a) p1.0 p1.1 in
    let vb : hex_digit_value b ≡ Some p2.0 = digit_back b (i + 1) (hex_digit_value b) p2.0 p2.1 in
    let byte : p1.0 * 16 + p2.0 ≡ p0.0 = ok_same _ _ _ refl p2.2 in
    let sa = value_small a p1.0 va in
    let sb = value_small b p2.0 vb in
    let pair = pair_back p1.0 p2.0 sa sb a b (glyph_of a p1.0 va first.0) (glyph_of b p2.0 vb second.0) in
    let high : slice_index lower_digits (p0.0 / 16) ≡ a = ap (λ (x : ℕ). slice_index lower_digits (x / 16)) (sym byte) ∙ pair.0 in
    let lows : slice_index lower_digits (p0.0 % 16) ≡ b = ap (λ (x : ℕ). slice_index lower_digits (x % 16)) (sym byte) ∙ pair.1 in
    subst (λ (l : List ℕ). (encode_lower l ≡ a ∷ b ∷ rest) × AreBytes l) e ((λ j. high j ∷ lows j ∷ ih.0 j), (omega arith, ih.1))

-- ---- a text in lower case

glyph_lower : (d : ℕ) → d < 16 → not (leb 65 (slice_index lower_digits d) && leb (slice_index lower_digits d) 90) ≡ true
unfolding all_digits
glyph_lower d lt = digits_at (λ k. not (leb 65 (slice_index lower_digits k) && leb (slice_index lower_digits k) 90)) 16 d refl lt

all_true : (a b : Bool) → a ≡ true → b ≡ true → a && b ≡ true
all_true a b p q = rw (p, q) refl

pub lower_encode : (bytes : List ℕ) → AreBytes bytes → lower (encode_lower bytes) ≡ true
unfolding encode_with
lower_encode [] fit = refl
lower_encode (b ∷ bs) fit =
    let byte : b < 256 = fit.0 in
    all_true _ _ (glyph_lower (b / 16) (omega arith)) (all_true _ _ (glyph_lower (b % 16) (omega arith)) (lower_encode bs fit.1))

pub is_bytes : (bytes : List ℕ) → AreBytes bytes → IsBytes bytes
is_bytes [] fit i = omega arith
is_bytes (b ∷ bs) fit zero = fit.0
is_bytes (b ∷ bs) fit (suc i) = is_bytes bs fit.1 i

pub decode_back : (word bytes : List ℕ) (n : ℕ) → AreBytes bytes → word ≡ encode_lower bytes → n ≡ length word / 2 → decode_sized word n ≡ Ok bytes
decode_back word bytes n fit e is =
    let len = length-encode_with lower_digits bytes in
    let size : length bytes ≡ n = omega (arith, ap length e) in
    ap (λ (w : List ℕ). decode_sized w n) e ∙ decode_sized-encode_lower bytes n size (is_bytes bytes fit)

sized_pairs : (s : List ℕ) (n : ℕ) (bytes : List ℕ) → decode_sized s n ≡ Ok bytes → decode_pairs 0 s ≡ Ok bytes
sized_pairs s n bytes h = grind (arith, nat_tests)

pub encode_sized : (s : List ℕ) (n : ℕ) (bytes : List ℕ) → decode_sized s n ≡ Ok bytes → lower s ≡ true → (encode_lower bytes ≡ s) × AreBytes bytes
encode_sized s n bytes h low = encode_back 0 s bytes (sized_pairs s n bytes h) low

-- ---- a text in hexadecimal is ASCII

below_or_past : (i n : ℕ) → (i < n) ⊎ (n ≤ i)
below_or_past i n = grind arith

ascii_digits : (i : ℕ) → slice_index lower_digits i < 128
unfolding all_digits
ascii_digits i =
    elim (below_or_past i 16) [
      | inl below ↦ ltb-true _ _ (digits_at (λ k. ltb (slice_index lower_digits k) 128) 16 i refl below)
      | inr past ↦ omega (arith, get_or_past lower_digits i 0 past)
    ]

pub IsUtf8-encode_lower : (bytes : List ℕ) → IsUtf8 (encode_lower bytes)
IsUtf8-encode_lower bytes = IsUtf8-from_ascii (encode_lower bytes) (IsAscii-encode_with lower_digits bytes ascii_digits)
