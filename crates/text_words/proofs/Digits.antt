-- Numbers in decimal: which words they are.
use Rattle.std.proofs.Common.{subst, ◌≡◌, ℕ, ◌+◌, ◌-◌, ◌*◌, ◌^◌, ◌<◌, ◌≤◌, ◌⊎◌, true, List, [], ◌∷◌, ◌++◌, length, get_or, Option, Some, None, Result, Ok, Err, refl, sym, ap, ◌∙◌, arith, rules, inl, inr}
use Rattle.std.specs.Prelude.{MatchOption}
use Rattle.std.specs.Result.{result_ok, OkIff}
use Rattle.std.specs.Str.{all_ascii_digits}
use Rattle.std.specs.Fmt.{decimal}
use Rattle.std.proofs.lemmas.Str.Parse.{IsNumeralModel, numerals_by_fold, tells_all_ascii_digits}
use Rattle.std.proofs.lemmas.List.{append-nil}
use Rattle.text_words.proofs.Cutting.{same_cut}
use Rattle.std.proofs.lemmas.Fmt.{digits_decimal, digits_value-decimal, decimal-digits_value, decimal_nonempty, first_decimal, decimal_digit, decimal_injective}
use Rattle.text_words.specs.Words.{Lacks, StopsAt, GoesOn, read_on, IsRead}

own : IsNumeralModel (λ ds. all_ascii_digits ds ≡ true) (read_on 0)
own = numerals_by_fold _ (search rules) read_on (search rules)

digit_range : (x : ℕ) (xs : List ℕ) → all_ascii_digits (x ∷ xs) ≡ true → (48 ≤ x) × (x ≤ 57)
digit_range x xs h = let d = (tells_all_ascii_digits.parts x xs h).0 in (omega (arith, d.0), omega (arith, d.1))

zero_or_more : (n : ℕ) → (n ≡ 0) ⊎ (0 < n)
zero_or_more n = grind arith

-- ---- a number, digit by digit

grows : (n : ℕ) (ds : List ℕ) → n ≤ read_on n ds
grows n [] = omega arith
grows n (c ∷ cs) = let more = grows (10 * n + (c - 48)) cs in omega (arith, more)

-- where no digit is left the number stands
pub goes_nowhere : (stop first : ℕ) (text : List ℕ) → StopsAt stop text → GoesOn stop first text first text
goes_nowhere stop first text stops = record { digits = []; are = refl; is = refl; spelled = refl; stops = stops }

-- the number may be said in another way
pub same_first : (stop first other : ℕ) (text : List ℕ) (n : ℕ) (rest : List ℕ) → other ≡ first → GoesOn stop first text n rest → GoesOn stop other text n rest
same_first stop first other text n rest e g = subst (λ (x : ℕ). GoesOn stop x text n rest) (sym e) g

-- a digit in front belongs to the number
digit_back : (stop first c n : ℕ) (text rest : List ℕ) → 48 ≤ c → c ≤ 57 → GoesOn stop (10 * first + (c - 48)) text n rest → GoesOn stop first (c ∷ text) n rest
digit_back stop first c n text rest low high g = record {
  digits = c ∷ g.digits;
  are = tells_all_ascii_digits.more c g.digits (low, high) g.are;
  is = g.is;
  spelled = ap (λ (xs : List ℕ). c ∷ xs) g.spelled;
  stops = g.stops;
}

pub goes_back : (stop first c longer n : ℕ) (whole text rest : List ℕ) → whole ≡ c ∷ text → 48 ≤ c → c ≤ 57 → longer ≡ 10 * first + (c - 48) → GoesOn stop longer text n rest
    → GoesOn stop first whole n rest
goes_back stop first c longer n whole text rest e low high is g =
    subst (λ (xs : List ℕ). GoesOn stop first xs n rest) (sym e) (digit_back stop first c n text rest low high (same_first stop longer (10 * first + (c - 48)) text n rest (sym is) g))

-- a number that has another byte than the stop before it has that byte as a digit, and is no smaller than what that makes
pub record Step (stop first c : ℕ) (text : List ℕ) (n : ℕ) (rest : List ℕ) : Type 0 where
  pub low : 48 ≤ c
  pub high : c ≤ 57
  pub grown : 10 * first + (c - 48) ≤ n
  pub goes : GoesOn stop (10 * first + (c - 48)) text n rest

step_of : (stop first c n : ℕ) (text rest digits : List ℕ) → all_ascii_digits digits ≡ true → read_on first digits ≡ n → 0 < length digits
    → c ∷ text ≡ digits ++ rest → StopsAt stop rest → Step stop first c text n rest
step_of stop first c n text rest [] are is some spelled stops = absurd (omega arith)
step_of stop first c n text rest (d ∷ ds) are is some spelled stops =
    let here : d ≡ c = cc in
    let behind : text ≡ ds ++ rest = cc in
    let range = digit_range d ds are in
    let more : read_on (10 * first + (c - 48)) ds ≡ n = ap (λ (x : ℕ). read_on (10 * first + (x - 48)) ds) (sym here) ∙ is in
    let grown = grows (10 * first + (c - 48)) ds in
    record {
      low = omega (arith, range.0, here);
      high = omega (arith, range.1, here);
      grown = omega (arith, grown, more);
      goes = record { digits = ds; are = (tells_all_ascii_digits.parts d ds are).1; is = more; spelled = behind; stops = stops };
    }

some_digit : (stop c : ℕ) (text rest digits : List ℕ) → (c ≡ stop → ⊥) → c ∷ text ≡ digits ++ rest → StopsAt stop rest → 0 < length digits
some_digit stop c text [] [] other spelled stops = cc
some_digit stop c text (r ∷ rest) [] other spelled stops = let here : c ≡ r = cc in absurd (other (here ∙ stops))
some_digit stop c text rest (d ∷ ds) other spelled stops = omega arith

digit_step : (stop first c n : ℕ) (text rest : List ℕ) → (c ≡ stop → ⊥) → GoesOn stop first (c ∷ text) n rest → Step stop first c text n rest
digit_step stop first c n text rest other g =
    step_of stop first c n text rest g.digits g.are g.is (some_digit stop c text rest g.digits other g.spelled g.stops) g.spelled g.stops

pub goes_on : (stop first c n : ℕ) (whole text rest : List ℕ) → whole ≡ c ∷ text → (c ≡ stop → ⊥) → GoesOn stop first whole n rest → Step stop first c text n rest
goes_on stop first c n whole text rest e other g = digit_step stop first c n text rest other (subst (λ (xs : List ℕ). GoesOn stop first xs n rest) e g)

-- ---- a number in front of a text

-- the first digit of a number, and what it goes on to
pub number_step : (stop c n : ℕ) (text rest : List ℕ) → n < 2 ^ 64 → StopsAt stop rest → c ∷ text ≡ decimal n ++ rest → Step stop 0 c text n rest
number_step stop c n text rest lt stops e =
    step_of stop 0 c n text rest (decimal n) (digits_decimal own n lt) (digits_value-decimal own n lt) (decimal_nonempty n lt) e stops

no_digit : (stop : ℕ) (text digits rest : List ℕ) → stop < 48 → StopsAt stop text → all_ascii_digits digits ≡ true → text ≡ digits ++ rest → digits ≡ []
no_digit stop text [] rest lt stops are e = refl
no_digit stop [] (d ∷ ds) rest lt stops are e = cc
no_digit stop (x ∷ text) (d ∷ ds) rest lt stops are e = let here : x ≡ d = cc in let range = digit_range d ds are in absurd (omega (arith, range.0, here, stops))

lone : (c : ℕ) (ds : List ℕ) → (c ≡ 48 → ds ≡ []) → get_or (c ∷ ds) 0 0 ≡ 48 → length (c ∷ ds) ≡ 1
lone c ds lead is = ap (λ (xs : List ℕ). length (c ∷ xs)) (lead is)

-- a number with no leading zero is spelled by its digits
pub spells : (stop c n : ℕ) (text rest : List ℕ) → stop < 48 → 48 ≤ c → c ≤ 57 → n < 2 ^ 64 → (c ≡ 48 → StopsAt stop text) → GoesOn stop (10 * 0 + (c - 48)) text n rest
    → c ∷ text ≡ decimal n ++ rest
spells stop c n text rest below low high lt lead g =
    let are : all_ascii_digits (c ∷ g.digits) ≡ true = tells_all_ascii_digits.more c g.digits (low, high) g.are in
    let alone : c ≡ 48 → g.digits ≡ [] = λ is. no_digit stop text g.digits rest below (lead is) g.are g.spelled in
    let value : read_on 0 (c ∷ g.digits) ≡ n = g.is in
    let written : decimal (read_on 0 (c ∷ g.digits)) ≡ c ∷ g.digits = decimal-digits_value own (c ∷ g.digits) are (omega arith) (lone c g.digits alone) (omega (arith, value, lt)) in
    ap (λ (xs : List ℕ). c ∷ xs) g.spelled ∙ ap (λ (xs : List ℕ). xs ++ rest) (sym written ∙ ap decimal value)

-- a number that begins with a zero is the zero
pub zero_alone : (stop c n : ℕ) (text rest : List ℕ) → n < 2 ^ 64 → StopsAt stop rest → c ∷ text ≡ decimal n ++ rest → c ≡ 48 → StopsAt stop text
zero_alone stop c n text rest lt stops e is =
    elim (zero_or_more n) [
      | inl none ↦ zero_ends stop c text rest stops (e ∙ ap (λ (m : ℕ). decimal m ++ rest) none ∙ ap (λ (ds : List ℕ). ds ++ rest) (decimal_digit 0 (omega arith)))
      | inr some ↦ absurd (first_is c text rest (decimal n) (decimal_nonempty n lt) (first_decimal n some lt) e is)
    ]
  where
    zero_ends : (stop c : ℕ) (text rest : List ℕ) → StopsAt stop rest → c ∷ text ≡ 48 ∷ rest → StopsAt stop text
    zero_ends stop c text rest stops e = let same : rest ≡ text = cc in subst (StopsAt stop) same stops

    first_is : (c : ℕ) (text rest ds : List ℕ) → 0 < length ds → 48 < get_or ds 0 0 → c ∷ text ≡ ds ++ rest → c ≡ 48 → ⊥
    first_is c text rest [] some first e is = absurd (omega arith)
    first_is c text rest (d ∷ ds) some first e is = let here : c ≡ d = cc in absurd (omega (arith, here, is))

-- the zero alone
pub zero_spells : (c value : ℕ) (rest : List ℕ) → 48 ≤ c → value ≡ 10 * 0 + (c - 48) → value ≡ 0 → c ∷ rest ≡ decimal 0 ++ rest
zero_spells c value rest low is none =
    let zero : c ≡ 48 = omega arith in
    ap (λ (x : ℕ). x ∷ rest) zero ∙ ap (λ (ds : List ℕ). ds ++ rest) (sym (decimal_digit 0 (omega arith)))

pub front_found : {A : Type 0} {N M : Type 0} {S T : A → Type 0} (o : Option A) → (N → M) → ((a : A) → S a → T a) → MatchOption o N S → MatchOption o M T
front_found (Some a) none some m = some a m
front_found None none some m = none m

pub not_empty : (n : ℕ) (text rest : List ℕ) → n < 2 ^ 64 → text ≡ decimal n ++ rest → text ≡ [] → ⊥
not_empty n text rest lt e none = no_front (decimal n) rest (decimal_nonempty n lt) (sym none ∙ e)
  where
    no_front : (ds rest : List ℕ) → 0 < length ds → [] ≡ ds ++ rest → ⊥
    no_front [] rest some e = absurd (omega arith)
    no_front (d ∷ ds) rest some e = cc

-- ---- which bytes a number's digits are

-- every byte of these is from 48 to 57
unfoldable pub AreDigits : List ℕ → Type 0
AreDigits [] = Unit {0}
AreDigits (x ∷ xs) = (48 ≤ x) × (x ≤ 57) × AreDigits xs

are_digits : (ds : List ℕ) → all_ascii_digits ds ≡ true → AreDigits ds
unfolding AreDigits
are_digits [] h = tt
are_digits (x ∷ xs) h = let d = digit_range x xs h in (d.0, d.1, are_digits xs (tells_all_ascii_digits.parts x xs h).1)

pub AreDigits-decimal : (n : ℕ) → n < 2 ^ 64 → AreDigits (decimal n)
AreDigits-decimal n lt = are_digits (decimal n) (digits_decimal own n lt)

-- what is no digit stands in no number
pub lacks_digits : (c : ℕ) (ds : List ℕ) → (c < 48) ⊎ (57 < c) → AreDigits ds → Lacks c ds
unfolding AreDigits
lacks_digits c [] out d = tt
lacks_digits c (x ∷ xs) out d = (λ e. outside c x out d.0 d.1 e, lacks_digits c xs out d.2)
  where
    outside : (c x : ℕ) → (c < 48) ⊎ (57 < c) → 48 ≤ x → x ≤ 57 → x ≡ c → ⊥
    outside c x (inl low) l h e = absurd (omega arith)
    outside c x (inr high) l h e = absurd (omega arith)

pub Lacks-decimal : (c n : ℕ) → (c < 48) ⊎ (57 < c) → n < 2 ^ 64 → Lacks c (decimal n)
Lacks-decimal c n out lt = lacks_digits c (decimal n) out (AreDigits-decimal n lt)

-- ---- a number that is a whole word, or too great

pub whole_word : (n : ℕ) (word rest : List ℕ) → word ≡ decimal n ++ rest → rest ≡ [] → word ≡ decimal n
whole_word n word rest e none = e ∙ ap (λ (xs : List ℕ). decimal n ++ xs) none ∙ append-nil (decimal n)

pub not_word : (n m : ℕ) (word rest : List ℕ) → n < 2 ^ 64 → m < 2 ^ 64 → StopsAt 32 rest → word ≡ decimal m ++ rest → 0 < length rest → word ≡ decimal n → ⊥
not_word n m word rest lt small stops e some is =
    let same = same_cut 32 (decimal m) (decimal n) rest [] (Lacks-decimal 32 m (inl (omega arith)) small) (Lacks-decimal 32 n (inl (omega arith)) lt) stops tt (sym e ∙ is ∙ sym (append-nil (decimal n))) in
    absurd (omega (arith, some, ap length same.1))

-- one number stands in front of a text
pub same_front : (stop m n : ℕ) (text rest last : List ℕ) → stop < 48 → m < 2 ^ 64 → n < 2 ^ 64 → StopsAt stop rest → StopsAt stop last → text ≡ decimal m ++ rest → text ≡ decimal n ++ last → m ≡ n
same_front stop m n text rest last below ml nl sr sl a b =
    let same = same_cut stop (decimal m) (decimal n) rest last (Lacks-decimal stop m (inl below) ml) (Lacks-decimal stop n (inl below) nl) sr sl (sym a ∙ b) in
    decimal_injective m n ml nl same.0

-- a number has a digit, and its first byte is one
pub first_digit : (n x : ℕ) (xs : List ℕ) → n < 2 ^ 64 → decimal n ≡ x ∷ xs → (48 ≤ x) × (x ≤ 57)
unfolding AreDigits
first_digit n x xs lt e = let d = subst AreDigits e (AreDigits-decimal n lt) in (d.0, d.1)

-- a number that must be below a bound
narrowed : {E : Type 0} (bound : ℕ) (word : List ℕ) (n : ℕ) (r : Result ℕ E) → bound ≤ 2 ^ 64 → n < 2 ^ 64 → word ≡ decimal n → OkIff r (n < bound) n
    → MatchOption (result_ok r) ((m : ℕ) → m < bound → word ≡ decimal m → ⊥) (λ m. (m < bound) × (word ≡ decimal m))
narrowed bound word n (Ok x) fit lt e h = (omega (arith, h.0, h.1), e ∙ ap decimal (sym h.1))
narrowed bound word n (Err x) fit lt e h =
    λ (m : ℕ) below is.
    let same : n ≡ m = decimal_injective n m lt (omega arith) (sym e ∙ is) in
    h (omega arith)

pub narrow : {E : Type 0} (bound : ℕ) (word : List ℕ) (n : ℕ) (r : Result ℕ E) (found : Option ℕ) → bound ≤ 2 ^ 64 → n < 2 ^ 64 → word ≡ decimal n → OkIff r (n < bound) n → found ≡ result_ok r
    → IsRead (λ m. m < bound) decimal word found
narrow bound word n r found fit lt e h is = subst (λ (o : Option ℕ). IsRead (λ m. m < bound) decimal word o) (sym is) (narrowed bound word n r fit lt e h)
