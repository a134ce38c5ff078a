-- The words that single values have: how they are cut, and that no two values have the same.
use Rattle.std.proofs.Common.{◌≡◌, ℕ, zero, suc, ◌^◌, ◌<◌, inl, inr, true, List, [], ◌∷◌, ◌++◌, length, drop, get_or, Option, Some, None, Result, Ok, Err, refl, sym, ap, ◌∙◌, arith}
use Rattle.std.specs.Fmt.{decimal}
use Rattle.std.specs.Result.{result_ok}
use Rattle.std.specs.Int.{w32, to_be_bytes, from_be_bytes}
use Rattle.std.proofs.lemmas.Nat.{be_bytes_4, from_be_bytes-to_be_bytes_4}
use Rattle.std.proofs.lemmas.Fmt.{decimal_injective}
use Rattle.hex.specs.Hex.{encode_lower, lower_digits, decode_sized}
use Rattle.hex.proofs.HexLemmas.{decode_sized-ok, decode_sized-encode_lower, length-encode_with}
use Rattle.dx_types.specs.declared.range.Range.{Range}
use Rattle.vk_trace.specs.ListText.{IsWide, IsSmall, FitsRange, block_word, range_word, hex_word}
use Rattle.text_words.specs.Words.{Lacks, Cut, IsRead, lower}
use Rattle.text_words.proofs.Cutting.{same_cut}
use Rattle.text_words.proofs.Hex.{is_bytes, encode_sized, lower_encode, ok_same}
use Rattle.text_words.specs.Words.{AreBytes}
use Rattle.text_words.proofs.Digits.{Lacks-decimal}

-- ---- what was found, and whether anything was

module _ {A : Type 0} (Good : A → Type 0) (spell : A → List ℕ) where
  pub none_read : (word : List ℕ) (found : Option A) → found ≡ None → ((v : A) → Good v → word ≡ spell v → ⊥) → IsRead Good spell word found
  none_read word (Some v) e none = absurd (cc e)
  none_read word None e none = none

-- ---- numbers

pub same_number : (m n : ℕ) → IsWide m → IsWide n → decimal m ≡ decimal n → m ≡ n
same_number m n p q e = decimal_injective m n p q e

pub small_wide : (n : ℕ) → IsSmall n → IsWide n
small_wide n lt = omega arith

-- ---- ranges

lacks_block : (n : ℕ) → IsSmall n → Lacks 58 (block_word n)
lacks_block n lt = ((λ e. absurd (omega arith)), Lacks-decimal 58 n (inr (omega arith)) (small_wide n lt))

-- a range's word is cut behind the block, and then between the places
pub record RangeCut (r : Range) (first second third : List ℕ) : Type 0 where
  pub block : first ≡ block_word r.block
  pub from : second ≡ decimal r.from
  pub to : third ≡ 45 ∷ decimal r.to

pub range_front : (r : Range) (word number places : List ℕ) → FitsRange r → Cut 58 word number places → word ≡ range_word r
    → (number ≡ block_word r.block) × (places ≡ 58 ∷ (decimal r.from ++ 45 ∷ decimal r.to))
range_front r word number places fits cut e = same_cut 58 number (block_word r.block) places _ cut.lacks (lacks_block r.block fits.block) cut.stops refl (sym cut.spelled ∙ e)

pub range_cut : (r : Range) (word number places more from to : List ℕ) → FitsRange r → Cut 58 word number places → places ≡ 58 ∷ more → Cut 45 more from to → word ≡ range_word r
    → RangeCut r number from to
range_cut r word number places more from to fits first colon second e =
    let front = range_front r word number places fits first e in
    let behind : more ≡ decimal r.from ++ 45 ∷ decimal r.to = ap (drop 1) (sym colon ∙ front.1) in
    let parts = same_cut 45 from (decimal r.from) to (45 ∷ decimal r.to) second.lacks (Lacks-decimal 45 r.from (inl (omega arith)) fits.from) second.stops refl (sym second.spelled ∙ behind) in
    record { block = front.0; from = parts.0; to = parts.1 }

pub range_read : (r : Range) (word number places more from to last : List ℕ) → Cut 58 word number places → places ≡ 58 ∷ more → Cut 45 more from to → to ≡ 45 ∷ last
    → number ≡ block_word r.block → from ≡ decimal r.from → last ≡ decimal r.to → word ≡ range_word r
range_read r word number places more from to last first colon second dash n f t =
    let inner : more ≡ decimal r.from ++ 45 ∷ decimal r.to = second.spelled ∙ ap (λ (l : List ℕ). from ++ l) (dash ∙ ap (λ (l : List ℕ). 45 ∷ l) t) ∙ ap (λ (l : List ℕ). l ++ 45 ∷ decimal r.to) f in
    first.spelled ∙ ap (λ (l : List ℕ). number ++ l) (colon ∙ ap (λ (l : List ℕ). 58 ∷ l) inner) ∙ ap (λ (l : List ℕ). l ++ (58 ∷ (decimal r.from ++ 45 ∷ decimal r.to))) n

pub same_range : (r s : Range) → FitsRange r → FitsRange s → range_word r ≡ range_word s → r ≡ s
same_range r s p q e =
    let front = same_cut 58 (block_word r.block) (block_word s.block) _ _ (lacks_block r.block p.block) (lacks_block s.block q.block) refl refl e in
    let behind = same_cut 45 (decimal r.from) (decimal s.from) (45 ∷ decimal r.to) (45 ∷ decimal s.to) (Lacks-decimal 45 r.from (inl (omega arith)) p.from) (Lacks-decimal 45 s.from (inl (omega arith)) q.from) refl refl (ap (drop 1) front.1) in
    let block : r.block ≡ s.block = same_number r.block s.block (small_wide r.block p.block) (small_wide s.block q.block) (ap (drop 1) front.0) in
    let from : r.from ≡ s.from = same_number r.from s.from p.from q.from behind.0 in
    let to : r.to ≡ s.to = same_number r.to s.to p.to q.to (ap (drop 1) behind.1) in
    λ i. record { block = block i; from = from i; to = to i }

-- ---- words of memory

pub be_bytes : (n : ℕ) → AreBytes (to_be_bytes w32 n)
be_bytes n = (omega arith, (omega arith, (omega arith, (omega arith, tt))))

byte_at : (bs : List ℕ) → AreBytes bs → (i : ℕ) → get_or bs i 0 < 256
byte_at [] fit i = omega arith
byte_at (b ∷ bs) fit zero = fit.0
byte_at (b ∷ bs) fit (suc i) = byte_at bs fit.1 i

pub lower_hex : (n : ℕ) → lower (hex_word n) ≡ true
lower_hex n = lower_encode (to_be_bytes w32 n) (be_bytes n)

pub hex_decodes : (n : ℕ) (word : List ℕ) → word ≡ hex_word n → decode_sized word 4 ≡ Ok (to_be_bytes w32 n)
hex_decodes n word e = ap (λ (w : List ℕ). decode_sized w 4) e ∙ decode_sized-encode_lower (to_be_bytes w32 n) 4 refl (is_bytes (to_be_bytes w32 n) (be_bytes n))

pub hex_read : (n : ℕ) (word bytes : List ℕ) → decode_sized word 4 ≡ Ok bytes → lower word ≡ true → n ≡ from_be_bytes w32 bytes → IsSmall n × (word ≡ hex_word n)
hex_read n word bytes e low is =
    let back = encode_sized word 4 bytes e low in
    let long : length bytes ≡ 4 = omega (arith, decode_sized-ok word 4 bytes e, ap length back.0, length-encode_with lower_digits bytes) in
    let spelled : to_be_bytes w32 n ≡ bytes = be_bytes_4 bytes n long (byte_at bytes back.1) is in
    (small_from bytes n (byte_at bytes back.1) is, sym back.0 ∙ ap encode_lower (sym spelled))
  where
    small_from : (bs : List ℕ) (n : ℕ) → ((i : ℕ) → get_or bs i 0 < 256) → n ≡ from_be_bytes w32 bs → n < 2 ^ 32
    small_from bs n at is = omega (arith, at 0, at 1, at 2, at 3)

pub same_hex : (m n : ℕ) → IsSmall m → IsSmall n → hex_word m ≡ hex_word n → m ≡ n
same_hex m n p q e =
    let bytes : to_be_bytes w32 m ≡ to_be_bytes w32 n = ok_same _ _ _ (hex_decodes m (hex_word m) refl) (hex_decodes n (hex_word m) e) in
    sym (from_be_bytes-to_be_bytes_4 m p) ∙ ap (from_be_bytes w32) bytes ∙ from_be_bytes-to_be_bytes_4 n q

-- a result that has a value, or none
pub ok_value : {T E : Type 0} (r : Result T E) (x : T) → Some x ≡ result_ok r → r ≡ Ok x
ok_value (Ok y) x e = let same : x ≡ y = cc e in ap (λ (v : _). Ok v) (sym same)
ok_value (Err y) x e = absurd (cc e)

pub no_value : {T E : Type 0} (r : Result T E) (x : T) → r ≡ Ok x → None ≡ result_ok r → ⊥
no_value (Ok y) x is e = cc e
no_value (Err y) x is e = cc is
