-- Bodies, their words, and their fields.
use Rattle.std.proofs.Common.{◌≡◌, ℕ, zero, suc, ◌+◌, ◌*◌, ◌/◌, ◌%◌, ◌^◌, ◌<◌, ◌≤◌, List, [], ◌∷◌, ◌++◌, length, drop, refl, sym, ap, ◌∙◌, arith}
use Rattle.std.specs.List.{flat_map, slice_index}
use Rattle.std.proofs.lemmas.List.{drop_at, drop-drop}
use Rattle.byteorder.specs.Endian.{little_bytes}
use Rattle.call_log.specs.Body.{word}
use Rattle.call_log.specs.Put.{AreWords, spell_words}
use Rattle.log_text.specs.LogText.{number_field, number_fields, bytes_field, words_of}
use Rattle.log_text.specs.Reading.{ReadsNumbers}
use Rattle.text_words.specs.Words.{AreBytes, StopsAt}
use Rattle.log_text.proofs.Numbers.{numbers_behind}

four_back : (n : ℕ) → n < 2 ^ 32 → n % 256 + 256 * ((n / 256) % 256 + 256 * ((n / 65536) % 256 + 256 * ((n / 16777216) % 256 + 256 * 0))) ≡ n
four_back n lt = omega arith

pub length-spell_words : (ws : List ℕ) → length (spell_words ws) ≡ 4 * length ws
unfolding spell_words
length-spell_words [] = refl
length-spell_words (w ∷ ws) = omega (arith, length-spell_words ws)

-- ---- words that were put in front of a body

words_front : (ws rest : List ℕ) → AreWords ws → words_of (length ws) (spell_words ws ++ rest) ≡ ws
unfolding words_of spell_words
words_front [] rest p = refl
words_front (w ∷ ws) rest p =
    let first = four_back w p.0 in
    let others = words_front ws rest p.1 in
    λ i. first i ∷ others i

pub words_put : (n : ℕ) (ws rest body : List ℕ) → length ws ≡ n → AreWords ws → body ≡ spell_words ws ++ rest → words_of n body ≡ ws
words_put n ws rest body count small e = ap (words_of n) e ∙ ap (λ (k : ℕ). words_of k (spell_words ws ++ rest)) (sym count) ∙ words_front ws rest small

pub rest_put : (n : ℕ) (ws rest body : List ℕ) → length ws ≡ n → body ≡ spell_words ws ++ rest → drop (4 * n) body ≡ rest
rest_put n ws rest body count e = ap (drop (4 * n)) e ∙ drop_at (spell_words ws) rest (4 * n) (omega (arith, length-spell_words ws))

-- ---- the words of a body

pub length-words_of : (n : ℕ) (body : List ℕ) → length (words_of n body) ≡ n
unfolding words_of
length-words_of zero body = refl
length-words_of (suc n) body = let e = length-words_of n (drop 4 body) in omega arith

byte_at : (xs : List ℕ) (i : ℕ) → AreBytes xs → slice_index xs i < 256
byte_at [] i fit = omega arith
byte_at (x ∷ xs) zero fit = fit.0
byte_at (x ∷ xs) (suc i) fit = byte_at xs i fit.1

pub AreBytes-drop : (n : ℕ) (xs : List ℕ) → AreBytes xs → AreBytes (drop n xs)
AreBytes-drop zero xs fit = fit
AreBytes-drop (suc n) [] fit = tt
AreBytes-drop (suc n) (x ∷ xs) fit = AreBytes-drop n xs fit.1

pub AreBytes-append : (xs ys : List ℕ) → AreBytes xs → AreBytes ys → AreBytes (xs ++ ys)
AreBytes-append [] ys p q = q
AreBytes-append (x ∷ xs) ys p q = (p.0, AreBytes-append xs ys p.1 q)

word_small : (a b c d : ℕ) → a < 256 → b < 256 → c < 256 → d < 256 → a + 256 * (b + 256 * (c + 256 * (d + 256 * 0))) < 2 ^ 32
word_small a b c d p q r s = omega arith

pub AreWords-words_of : (n : ℕ) (body : List ℕ) → AreBytes body → AreWords (words_of n body)
unfolding words_of
AreWords-words_of zero body fit = tt
AreWords-words_of (suc n) body fit = (
  word_small _ _ _ _ (byte_at body 0 fit) (byte_at body 1 fit) (byte_at body 2 fit) (byte_at body 3 fit),
  AreWords-words_of n (drop 4 body) (AreBytes-drop 4 body fit),
)

pub AreBytes-spell_words : (ws : List ℕ) → AreBytes (spell_words ws)
unfolding spell_words
AreBytes-spell_words [] = tt
AreBytes-spell_words (w ∷ ws) = (omega arith, (omega arith, (omega arith, (omega arith, AreBytes-spell_words ws))))

pub four_bytes : (a b c d : ℕ) → a < 256 → b < 256 → c < 256 → d < 256 → little_bytes 4 (a + 256 * (b + 256 * (c + 256 * (d + 256 * 0)))) ≡ a ∷ b ∷ c ∷ d ∷ []
four_bytes a b c d p q r s =
    let n : ℕ = a + 256 * (b + 256 * (c + 256 * (d + 256 * 0))) in
    let one : n % 256 ≡ a = omega arith in
    let two : n / 256 % 256 ≡ b = omega arith in
    let three : n / 65536 % 256 ≡ c = omega arith in
    let four : n / 16777216 % 256 ≡ d = omega arith in
    λ i. one i ∷ two i ∷ three i ∷ four i ∷ []

-- a body is its words and what stands behind them
pub words_and_rest : (n : ℕ) (body : List ℕ) → AreBytes body → 4 * n ≤ length body → spell_words (words_of n body) ++ drop (4 * n) body ≡ body
unfolding words_of spell_words
words_and_rest zero body fit le = refl
words_and_rest (suc n) [] fit le = absurd (omega arith)
words_and_rest (suc n) (a ∷ []) fit le = absurd (omega arith)
words_and_rest (suc n) (a ∷ b ∷ []) fit le = absurd (omega arith)
words_and_rest (suc n) (a ∷ b ∷ c ∷ []) fit le = absurd (omega arith)
words_and_rest (suc n) (a ∷ b ∷ c ∷ d ∷ rest) fit le =
    let first = four_bytes a b c d fit.0 fit.1.0 fit.1.1.0 fit.1.1.1.0 in
    let others = words_and_rest n rest fit.1.1.1.1 (omega arith) in
    let step : 4 * suc n ≡ 4 + 4 * n = omega arith in
    let behind : drop (4 * suc n) (a ∷ b ∷ c ∷ d ∷ rest) ≡ drop (4 * n) rest = ap (λ (k : ℕ). drop k (a ∷ b ∷ c ∷ d ∷ rest)) step ∙ sym (drop-drop (4 * n) 4 (a ∷ b ∷ c ∷ d ∷ rest)) in
    ap (λ (l : List ℕ). spell_words (words_of (suc n) (a ∷ b ∷ c ∷ d ∷ rest)) ++ l) behind
    ∙ ap (λ (l : List ℕ). l ++ (spell_words (words_of n rest) ++ drop (4 * n) rest)) first
    ∙ ap (λ (l : List ℕ). a ∷ b ∷ c ∷ d ∷ l) others

-- ---- what stands behind the numbers that were read

pub stops_field : (bytes : List ℕ) → StopsAt 32 (bytes_field bytes)
stops_field [] = refl
stops_field (b ∷ bs) = refl

drop_nil : (n : ℕ) → drop {A = ℕ} n [] ≡ []
drop_nil zero = refl
drop_nil (suc n) = refl

drop_all_words : (n : ℕ) (ws rest : List ℕ) → length ws ≡ n → flat_map number_field (drop n ws) ++ rest ≡ rest
drop_all_words n [] rest e = ap (λ (l : List ℕ). flat_map number_field l ++ rest) (drop_nil n)
drop_all_words zero (w ∷ ws) rest e = absurd (omega arith)
drop_all_words (suc n) (w ∷ ws) rest e = drop_all_words n ws rest (omega arith)

pub rest_is : (n : ℕ) (text rest old new body last : List ℕ) → ReadsNumbers n text rest old new → StopsAt 32 rest → AreBytes body → StopsAt 32 last
    → text ≡ number_fields n body ++ last → rest ≡ last
rest_is n text rest old new body last r sr fit sl e =
    numbers_behind r.words (words_of n body) rest last r.small (AreWords-words_of n body fit) sr sl (omega (arith, r.count, length-words_of n body)) (sym r.spelled ∙ e)
    ∙ drop_all_words (length r.words) (words_of n body) last (omega (arith, r.count, length-words_of n body))

-- a body is its first word and the rest
pub four_front : (body : List ℕ) → AreBytes body → 4 ≤ length body → little_bytes 4 (word 0 body) ++ drop 4 body ≡ body
four_front [] fit le = absurd (omega arith)
four_front (a ∷ []) fit le = absurd (omega arith)
four_front (a ∷ b ∷ []) fit le = absurd (omega arith)
four_front (a ∷ b ∷ c ∷ []) fit le = absurd (omega arith)
four_front (a ∷ b ∷ c ∷ d ∷ rest) fit le = ap (λ (l : List ℕ). l ++ rest) (four_bytes a b c d fit.0 fit.1.0 fit.1.1.0 fit.1.1.1.0)
