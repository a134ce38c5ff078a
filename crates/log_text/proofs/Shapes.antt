-- The fields of each layout, as they are read.
use Rattle.std.proofs.Common.{◌≡◌, ℕ, ◌+◌, ◌*◌, ◌/◌, ◌%◌, ◌^◌, ◌<◌, ◌≤◌, Bool, true, false, ◌&&◌, eqb, leb, List, [], ◌∷◌, ◌++◌, length, drop, refl, sym, ap, subst, ◌∙◌, append_assoc, arith}
use Rattle.std.specs.List.{flat_map}
use Rattle.std.proofs.lemmas.Bool.{eqb-true, leb-true, eq-eqb}
use Rattle.std.proofs.lemmas.Bool.Decides.{nat_tests}
use Rattle.std.proofs.lemmas.List.{length-append, length-drop, append-nil, drop-drop}
use Rattle.byteorder.specs.Endian.{little_bytes}
use Rattle.call_log.specs.Body.{word}
use Rattle.call_log.specs.Put.{spell_words}
use Rattle.call_log.specs.declared.kinds.Layout.TheVariants.{Words, Counted, Tokens, Free}
use Rattle.log_text.specs.LogText.{number_field, number_fields, bytes_field, fields}
use Rattle.log_text.specs.Reading.{ReadsNumbers, ReadsBytes, ReadsBody, PutsBody, HasLayout}
use Rattle.text_words.specs.Words.{AreBytes, StopsAt}
use Rattle.log_text.proofs.ByteFields.{field_count}
use Rattle.log_text.proofs.Bodies.{words_put, rest_put, rest_is, length-spell_words, AreBytes-append, AreBytes-spell_words, stops_field}

empty : (xs : List ℕ) → length xs ≡ 0 → xs ≡ []
empty [] e = refl
empty (x ∷ xs) e = absurd (omega arith)

-- a field of bytes is no shorter than twice the bytes
field_long : (bytes : List ℕ) → 2 * length bytes ≤ length (bytes_field bytes)
field_long bytes = omega (arith, field_count bytes)

-- what was read, put behind nothing
alone : (n : ℕ) (text rest old new : List ℕ) (r : ReadsNumbers n text rest old new) → ReadsNumbers n text rest [] (spell_words r.words)
alone n text rest old new r = record { words = r.words; count = r.count; small = r.small; spelled = r.spelled; put = refl }

alone_bytes : (text old new : List ℕ) (front : List ℕ) (b : ReadsBytes text old new) → ReadsBytes text front (front ++ b.bytes)
alone_bytes text old new front b = record { bytes = b.bytes; fit = b.fit; spelled = b.spelled; put = refl }

-- ---- numbers alone

numbers_found : (n : ℕ) (text rest new : List ℕ) → n < 256 → ReadsNumbers n text rest [] new → length rest ≡ 0 → ReadsBody (Words n) text new
unfolding fields
numbers_found n text rest new few r none =
    let put : new ≡ spell_words r.words ++ [] = r.put ∙ sym (append-nil (spell_words r.words)) in
    let long : length new ≡ 4 * n = omega (arith, ap length r.put, length-spell_words r.words, r.count) in
    record {
      shaped = record {
        fits = eq-eqb (length new) (4 * n) long;
        bytes = subst AreBytes (sym r.put) (AreBytes-spell_words r.words);
        small = omega arith;
      };
      spelled =
          r.spelled ∙ ap (λ (l : List ℕ). flat_map number_field r.words ++ l) (empty rest none) ∙ append-nil (flat_map number_field r.words)
          ∙ ap (flat_map number_field) (sym (words_put n r.words [] new r.count r.small put));
    }

pub numbers_put : (n : ℕ) (text rest old new : List ℕ) → n < 256 → ReadsNumbers n text rest old new → length rest ≡ 0 → PutsBody (Words n) text old new
numbers_put n text rest old new few r none = record { body = spell_words r.words; reads = numbers_found n text rest _ few (alone n text rest old new r) none; put = r.put }

pub numbers_text : (n : ℕ) (text body : List ℕ) → text ≡ fields (Words n) body → text ≡ number_fields n body ++ []
unfolding fields
numbers_text n text body e = e ∙ sym (append-nil (number_fields n body))

pub numbers_rest : (n : ℕ) (text rest old new body : List ℕ) → ReadsNumbers n text rest old new → StopsAt 32 rest → HasLayout (Words n) body → text ≡ fields (Words n) body → rest ≡ []
numbers_rest n text rest old new body r sr h e = rest_is n text rest old new body [] r sr h.bytes tt (numbers_text n text body e)

-- ---- numbers, and then bytes

pub bytes_text : (n : ℕ) (text body : List ℕ) → text ≡ fields (Counted n) body → text ≡ number_fields n body ++ bytes_field (drop (4 * n + 4) body)
unfolding fields
bytes_text n text body e = e

pub bytes_rest : (n : ℕ) (text rest old new body : List ℕ) → ReadsNumbers n text rest old new → StopsAt 32 rest → HasLayout (Counted n) body → text ≡ fields (Counted n) body
    → rest ≡ bytes_field (drop (4 * n + 4) body)
bytes_rest n text rest old new body r sr h e = rest_is n text rest old new body _ r sr h.bytes (stops_field (drop (4 * n + 4) body)) (bytes_text n text body e)

four_back : (n : ℕ) → n < 2 ^ 32 → n % 256 + 256 * ((n / 256) % 256 + 256 * ((n / 65536) % 256 + 256 * ((n / 16777216) % 256 + 256 * 0))) ≡ n
four_back n lt = omega arith

counted : (n m w b : ℕ) → w ≡ b → m ≡ 4 * n + 4 + b → leb (4 * n + 4) m && eqb m (4 * n + 4 + w) ≡ true
counted n m w b e is = grind (arith, nat_tests)

bytes_found : (n len : ℕ) (text rest mid more new : List ℕ) → n < 256 → length text < 2 ^ 32 → ReadsNumbers n text rest [] mid → more ≡ mid ++ little_bytes 4 len
    → ((bytes : List ℕ) → rest ≡ bytes_field bytes → len ≡ length bytes) → ReadsBytes rest more new → ReadsBody (Counted n) text new
unfolding fields
bytes_found n len text rest mid more new few small r put counts b =
    let bytes : List ℕ = b.bytes in
    let is : len ≡ length bytes = counts bytes b.spelled in
    let size : length text ≡ length (flat_map number_field r.words) + length rest = ap length r.spelled ∙ length-append (flat_map number_field r.words) rest in
    let lt : 2 * length bytes < 2 ^ 32 = omega (arith, size, ap length b.spelled, field_long bytes) in
    let whole : new ≡ spell_words r.words ++ (little_bytes 4 len ++ bytes) =
    b.put ∙ ap (λ (l : List ℕ). l ++ bytes) (put ∙ ap (λ (l : List ℕ). l ++ little_bytes 4 len) r.put) ∙ append_assoc (spell_words r.words) (little_bytes 4 len) bytes in
    let behind : drop (4 * n) new ≡ little_bytes 4 len ++ bytes = rest_put n r.words (little_bytes 4 len ++ bytes) new r.count whole in
    let long : length new ≡ 4 * n + 4 + length bytes =
    omega (arith, ap length whole, length-append (spell_words r.words) (little_bytes 4 len ++ bytes), length-spell_words r.words, r.count) in
    let says : word n new ≡ len = ap (λ (l : List ℕ). word 0 l) behind ∙ four_back len (omega arith) in
    let tail : drop (4 * n + 4) new ≡ bytes = sym (drop-drop 4 (4 * n) new) ∙ ap (drop 4) behind in
    record {
      shaped = record {
        fits = counted n (length new) (word n new) (length bytes) (says ∙ is) long;
        bytes = subst AreBytes (sym whole) (AreBytes-append _ _ (AreBytes-spell_words r.words) (AreBytes-append (little_bytes 4 len) bytes (omega arith, (omega arith, (omega arith, (omega arith, tt)))) b.fit));
        small = omega arith;
      };
      spelled =
          r.spelled ∙ ap (λ (l : List ℕ). flat_map number_field r.words ++ l) (b.spelled ∙ ap bytes_field (sym tail))
          ∙ ap (λ (ws : List ℕ). flat_map number_field ws ++ bytes_field (drop (4 * n + 4) new)) (sym (words_put n r.words (little_bytes 4 len ++ bytes) new r.count r.small whole));
    }

pub bytes_put : (n len : ℕ) (text rest old mid more new : List ℕ) → n < 256 → length text < 2 ^ 32 → ReadsNumbers n text rest old mid → more ≡ mid ++ little_bytes 4 len
    → ((bytes : List ℕ) → rest ≡ bytes_field bytes → len ≡ length bytes) → ReadsBytes rest more new → PutsBody (Counted n) text old new
bytes_put n len text rest old mid more new few small r put counts b =
    let front : List ℕ = spell_words r.words ++ little_bytes 4 len in
    record {
      body = front ++ b.bytes;
      reads = bytes_found n len text rest (spell_words r.words) front (front ++ b.bytes) few small (alone n text rest old mid r) refl counts (alone_bytes rest more new front b);
      put =
          b.put ∙ ap (λ (l : List ℕ). l ++ b.bytes) (put ∙ ap (λ (l : List ℕ). l ++ little_bytes 4 len) r.put ∙ append_assoc old (spell_words r.words) (little_bytes 4 len))
          ∙ append_assoc old front b.bytes;
    }

-- ---- a number, and then token words

pub tokens_text : (text body : List ℕ) → text ≡ fields Tokens body → text ≡ number_fields 1 body ++ bytes_field (drop 4 body)
unfolding fields
tokens_text text body e = e

pub tokens_rest : (text rest old new body : List ℕ) → ReadsNumbers 1 text rest old new → StopsAt 32 rest → HasLayout Tokens body → text ≡ fields Tokens body
    → rest ≡ bytes_field (drop 4 body)
tokens_rest text rest old new body r sr h e = rest_is 1 text rest old new body _ r sr h.bytes (stops_field (drop 4 body)) (tokens_text text body e)

pub both_true : (a b : Bool) → a && b ≡ true → (a ≡ true) × (b ≡ true)
both_true true true e = (refl, refl)
both_true true false e = absurd cc
both_true false b e = absurd cc

-- a body of this layout has whole token words
pub tokens_whole : (body : List ℕ) → HasLayout Tokens body → length (drop 4 body) % 4 ≡ 0
tokens_whole body h =
    let parts = both_true (leb 4 (length body)) (eqb (length body % 4) 0) h.fits in
    let le : 4 ≤ length body = leb-true _ _ parts.0 in
    let even : length body % 4 ≡ 0 = eqb-true _ _ parts.1 in
    omega (arith, length-drop 4 body)

whole_tokens : (m n : ℕ) → m ≡ 4 + n → n % 4 ≡ 0 → leb 4 m && eqb (m % 4) 0 ≡ true
whole_tokens m n is e = grind (arith, nat_tests)

tokens_found : (text rest mid new : List ℕ) (len : ℕ) → length text < 2 ^ 32 → ReadsNumbers 1 text rest [] mid
    → ((bytes : List ℕ) → rest ≡ bytes_field bytes → len ≡ length bytes) → len % 4 ≡ 0 → ReadsBytes rest mid new → ReadsBody Tokens text new
unfolding fields
tokens_found text rest mid new len small r counts even b =
    let bytes : List ℕ = b.bytes in
    let is : len ≡ length bytes = counts bytes b.spelled in
    let size : length text ≡ length (flat_map number_field r.words) + length rest = ap length r.spelled ∙ length-append (flat_map number_field r.words) rest in
    let lt : 2 * length bytes < 2 ^ 32 = omega (arith, size, ap length b.spelled, field_long bytes) in
    let whole : new ≡ spell_words r.words ++ bytes = b.put ∙ ap (λ (l : List ℕ). l ++ bytes) r.put in
    let tail : drop 4 new ≡ bytes = rest_put 1 r.words bytes new r.count whole in
    let long : length new ≡ 4 + length bytes = omega (arith, ap length whole, length-append (spell_words r.words) bytes, length-spell_words r.words, r.count) in
    record {
      shaped = record {
        fits = whole_tokens (length new) (length bytes) long (ap (λ (k : ℕ). k % 4) (sym is) ∙ even);
        bytes = subst AreBytes (sym whole) (AreBytes-append _ _ (AreBytes-spell_words r.words) b.fit);
        small = omega arith;
      };
      spelled =
          r.spelled ∙ ap (λ (l : List ℕ). flat_map number_field r.words ++ l) (b.spelled ∙ ap bytes_field (sym tail))
          ∙ ap (λ (ws : List ℕ). flat_map number_field ws ++ bytes_field (drop 4 new)) (sym (words_put 1 r.words bytes new r.count r.small whole));
    }

pub tokens_put : (text rest old mid new : List ℕ) (len : ℕ) → length text < 2 ^ 32 → ReadsNumbers 1 text rest old mid
    → ((bytes : List ℕ) → rest ≡ bytes_field bytes → len ≡ length bytes) → len % 4 ≡ 0 → ReadsBytes rest mid new → PutsBody Tokens text old new
tokens_put text rest old mid new len small r counts even b =
    let front : List ℕ = spell_words r.words in
    record {
      body = front ++ b.bytes;
      reads = tokens_found text rest front (front ++ b.bytes) len small (alone 1 text rest old mid r) counts even (alone_bytes rest mid new front b);
      put = b.put ∙ ap (λ (l : List ℕ). l ++ b.bytes) r.put ∙ append_assoc old front b.bytes;
    }

-- ---- bytes alone

pub body_text : (text body : List ℕ) → text ≡ fields Free body → text ≡ bytes_field body
unfolding fields
body_text text body e = e

body_found : (text new : List ℕ) → length text < 2 ^ 32 → ReadsBytes text [] new → ReadsBody Free text new
unfolding fields
body_found text new small b = record {
  shaped = record { fits = refl; bytes = subst AreBytes (sym b.put) b.fit; small = omega (arith, ap length b.put, ap length b.spelled, field_long b.bytes) };
  spelled = b.spelled ∙ ap bytes_field (sym b.put);
}

pub body_put : (text old new : List ℕ) → length text < 2 ^ 32 → ReadsBytes text old new → PutsBody Free text old new
body_put text old new small b = record { body = b.bytes; reads = body_found text b.bytes small (alone_bytes text old new [] b); put = b.put }
