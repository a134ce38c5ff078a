-- The fields of a line, as they are read.
use Rattle.std.proofs.Common.{inl, ◌≡◌, ℕ, zero, suc, ◌+◌, ◌^◌, ◌<◌, ◌≤◌, List, [], ◌∷◌, ◌++◌, length, drop, refl, sym, ap, ◌∙◌, append_assoc, arith}
use Rattle.std.specs.List.{flat_map}
use Rattle.std.specs.Fmt.{decimal}
use Rattle.std.proofs.lemmas.List.{length-append, length-drop, append-nil}
use Rattle.std.proofs.lemmas.List.Concat.{flat_map-append, flat_map-cons}
use Rattle.byteorder.specs.Endian.{little_bytes}
use Rattle.call_log.specs.Put.{AreWords, spell_words}
use Rattle.log_text.specs.LogText.{number_field}
use Rattle.log_text.specs.Reading.{ReadsNumbers}
use Rattle.text_words.specs.Words.{StopsAt}
use Rattle.text_words.proofs.Cutting.{same_cut}
use Rattle.text_words.proofs.Digits.{Lacks-decimal}

pub one_number : (text rest old new : List ℕ) (n : ℕ) → n < 2 ^ 32 → text ≡ number_field n ++ rest → new ≡ old ++ little_bytes 4 n → ReadsNumbers 1 text rest old new
unfolding spell_words
one_number text rest old new n lt e put = record {
  words = n ∷ [];
  count = refl;
  small = (lt, tt);
  spelled = e ∙ ap (λ (l : List ℕ). l ++ rest) (sym (append-nil (number_field n)));
  put = put;
}

pub no_number : (text rest old new : List ℕ) → text ≡ rest → new ≡ old → ReadsNumbers 0 text rest old new
unfolding spell_words
no_number text rest old new e put = record { words = []; count = refl; small = tt; spelled = e; put = put ∙ sym (append-nil old) }

AreWords-append : (ws vs : List ℕ) → AreWords ws → AreWords vs → AreWords (ws ++ vs)
AreWords-append [] vs p q = q
AreWords-append (w ∷ ws) vs p q = (p.0, AreWords-append ws vs p.1 q)

pub spell_words-append : (ws vs : List ℕ) → spell_words (ws ++ vs) ≡ spell_words ws ++ spell_words vs
unfolding spell_words
spell_words-append ws vs = flat_map-append (little_bytes 4) ws vs

-- some numbers, and then others
pub more_numbers : (n m : ℕ) (text rest last old mid new : List ℕ) → ReadsNumbers n text rest old mid → ReadsNumbers m rest last mid new → ReadsNumbers (n + m) text last old new
more_numbers n m text rest last old mid new p q = record {
  words = p.words ++ q.words;
  count = omega (arith, p.count, q.count, length-append p.words q.words);
  small = AreWords-append p.words q.words p.small q.small;
  spelled =
      p.spelled ∙ ap (λ (l : List ℕ). flat_map number_field p.words ++ l) q.spelled
      ∙ sym (append_assoc (flat_map number_field p.words) (flat_map number_field q.words) last)
      ∙ ap (λ (l : List ℕ). l ++ last) (sym (flat_map-append number_field p.words q.words));
  put =
      q.put ∙ ap (λ (l : List ℕ). l ++ spell_words q.words) p.put
      ∙ append_assoc old (spell_words p.words) (spell_words q.words)
      ∙ ap (λ (l : List ℕ). old ++ l) (sym (spell_words-append p.words q.words));
}

-- numbers and what follows them, or what follows alone, is empty or begins with a blank
pub stops_numbers : (ws rest : List ℕ) → StopsAt 32 rest → StopsAt 32 (flat_map number_field ws ++ rest)
stops_numbers [] rest stops = stops
stops_numbers (w ∷ ws) rest stops = refl

pub numbers_cons : (w : ℕ) (ws rest : List ℕ) → flat_map number_field (w ∷ ws) ++ rest ≡ number_field w ++ (flat_map number_field ws ++ rest)
numbers_cons w ws rest = ap (λ (l : List ℕ). l ++ rest) (flat_map-cons number_field w ws) ∙ append_assoc (number_field w) (flat_map number_field ws) rest

-- a number and what follows it are read in one way
pub same_number : (w v : ℕ) (x y : List ℕ) → w < 2 ^ 32 → v < 2 ^ 32 → StopsAt 32 x → StopsAt 32 y → number_field w ++ x ≡ number_field v ++ y → (decimal w ≡ decimal v) × (x ≡ y)
same_number w v x y p q sx sy e =
    same_cut 32 (decimal w) (decimal v) x y (Lacks-decimal 32 w (inl (omega arith)) (omega arith)) (Lacks-decimal 32 v (inl (omega arith)) (omega arith)) sx sy (ap (drop 1) e)

-- what follows some numbers is what follows as many of any reading
pub numbers_behind : (ws vs rest last : List ℕ) → AreWords ws → AreWords vs → StopsAt 32 rest → StopsAt 32 last → length ws ≤ length vs
    → flat_map number_field ws ++ rest ≡ flat_map number_field vs ++ last → rest ≡ flat_map number_field (drop (length ws) vs) ++ last
numbers_behind [] vs rest last p q sr sl le e = e
numbers_behind (w ∷ ws) [] rest last p q sr sl le e = absurd (omega arith)
numbers_behind (w ∷ ws) (v ∷ vs) rest last p q sr sl le e =
    let step = same_number w v _ _ p.0 q.0 (stops_numbers ws rest sr) (stops_numbers vs last sl) (sym (numbers_cons w ws rest) ∙ e ∙ numbers_cons v vs last) in
    numbers_behind ws vs rest last p.1 q.1 sr sl (omega arith) step.1

AreWords-drop : (n : ℕ) (vs : List ℕ) → AreWords vs → AreWords (drop n vs)
AreWords-drop zero vs p = p
AreWords-drop (suc n) [] p = tt
AreWords-drop (suc n) (v ∷ vs) p = AreWords-drop n vs p.1

-- numbers that begin with one that none stands for
next_bad : (vs rest last : List ℕ) → 0 < length vs → AreWords vs → StopsAt 32 last → rest ≡ flat_map number_field vs ++ last
    → ((w : ℕ) (more : List ℕ) → w < 2 ^ 32 → StopsAt 32 more → rest ≡ number_field w ++ more → ⊥) → ⊥
next_bad [] rest last pos small stops e none = absurd (omega arith)
next_bad (v ∷ vs) rest last pos small stops e none = none v (flat_map number_field vs ++ last) small.0 (stops_numbers vs last stops) (e ∙ numbers_cons v vs last)

-- where no number stands behind the first i, the text begins with no n numbers
pub numbers_bad : (n i : ℕ) (text rest old new : List ℕ) → i < n → ReadsNumbers i text rest old new → StopsAt 32 rest
    → ((w : ℕ) (more : List ℕ) → w < 2 ^ 32 → StopsAt 32 more → rest ≡ number_field w ++ more → ⊥)
    → (words last : List ℕ) → length words ≡ n → AreWords words → StopsAt 32 last → text ≡ flat_map number_field words ++ last → ⊥
numbers_bad n i text rest old new lt r sr none words last count small sl e =
    let behind = numbers_behind r.words words rest last r.small small sr sl (omega (arith, r.count)) (sym r.spelled ∙ e) in
    next_bad (drop (length r.words) words) rest last (omega (arith, length-drop (length r.words) words, r.count)) (AreWords-drop (length r.words) words small) sl behind none
