-- No two records have the same line, and none begins another.
use Rattle.std.proofs.Common.{inl, ◌≡◌, ℕ, ◌+◌, ◌*◌, ◌%◌, ◌≤◌, eqb, leb, List, [], ◌∷◌, ◌++◌, length, drop, refl, sym, ap, subst, ◌∙◌, arith}
use Rattle.std.specs.List.{flat_map}
use Rattle.std.specs.Fmt.{decimal}
use Rattle.std.proofs.lemmas.Bool.{eqb-true, leb-true}
use Rattle.std.proofs.lemmas.Fmt.{decimal_injective}
use Rattle.std.proofs.lemmas.List.{length-drop, append-nil, drop-drop, drop_all}
use Rattle.byteorder.specs.Endian.{little_bytes}
use Rattle.hex.specs.Hex.{encode_lower, lower_digits, decode_of}
use Rattle.hex.proofs.HexLemmas.{decode_of-encode_lower, decode_of-same, length-encode_with}
use Rattle.call_log.specs.Body.{word}
use Rattle.call_log.specs.Put.{AreWords, spell_words}
use Rattle.call_log.specs.Grammar.{Frame}
use Rattle.call_log.specs.declared.kinds.Layout.{Layout}
use Rattle.call_log.specs.declared.kinds.Layout.TheVariants.{Words, Counted, Tokens, Free}
use Rattle.call_log.specs.Kinds.{Kind, kind_numbered}
use Rattle.log_text.specs.LogText.{number_field, number_fields, bytes_field, words_of, fields, bare_line, line, IsRecord}
use Rattle.log_text.specs.Reading.{HasLayout}
use Rattle.text_words.specs.Words.{AreBytes, StopsAt}
use Rattle.text_words.proofs.Cutting.{same_cut}
use Rattle.text_words.proofs.Digits.{Lacks-decimal}
use Rattle.text_words.proofs.Hex.{is_bytes}
use Rattle.log_text.proofs.Numbers.{same_number, stops_numbers, numbers_cons}
use Rattle.log_text.proofs.Bodies.{words_and_rest, AreWords-words_of, length-words_of, AreBytes-drop, stops_field, four_front}
use Rattle.log_text.proofs.Shapes.{both_true}
use Rattle.log_text.proofs.Names.{name_no_blank, same_name}
use Rattle.log_text.proofs.LineParts.{parts_of, stops_fields, some_same}
use Rattle.log_text.proofs.Lines.{no_feed, line_then}

-- ---- numbers and bytes

same_words : (ws vs x y : List ℕ) → length ws ≡ length vs → AreWords ws → AreWords vs → StopsAt 32 x → StopsAt 32 y → flat_map number_field ws ++ x ≡ flat_map number_field vs ++ y → (ws ≡ vs) × (x ≡ y)
same_words [] [] x y len p q sx sy e = (refl, e)
same_words [] (v ∷ vs) x y len p q sx sy e = absurd (omega arith)
same_words (w ∷ ws) [] x y len p q sx sy e = absurd (omega arith)
same_words (w ∷ ws) (v ∷ vs) x y len p q sx sy e =
    let step = same_number w v _ _ p.0 q.0 (stops_numbers ws x sx) (stops_numbers vs y sy) (sym (numbers_cons w ws x) ∙ e ∙ numbers_cons v vs y) in
    let first : w ≡ v = decimal_injective w v (omega (arith, p.0)) (omega (arith, q.0)) step.0 in
    let others = same_words ws vs x y (omega arith) p.1 q.1 sx sy step.1 in
    (λ i. first i ∷ others.0 i, others.1)

same_bytes_field : (b c : List ℕ) → AreBytes b → AreBytes c → bytes_field b ≡ bytes_field c → b ≡ c
same_bytes_field [] [] p q e = refl
same_bytes_field [] (c ∷ cs) p q e = absurd (omega (arith, ap length e, length-encode_with lower_digits (c ∷ cs)))
same_bytes_field (b ∷ bs) [] p q e = absurd (omega (arith, ap length e, length-encode_with lower_digits (b ∷ bs)))
same_bytes_field (b ∷ bs) (c ∷ cs) p q e =
    let text : encode_lower (b ∷ bs) ≡ encode_lower (c ∷ cs) = ap (drop 1) e in
    decode_of-same (encode_lower (b ∷ bs)) (b ∷ bs) (c ∷ cs) (decode_of-encode_lower (b ∷ bs) (is_bytes (b ∷ bs) p)) (ap decode_of text ∙ decode_of-encode_lower (c ∷ cs) (is_bytes (c ∷ cs) q))

-- ---- a body from its fields

whole_numbers : (n : ℕ) (b : List ℕ) → HasLayout (Words n) b → b ≡ spell_words (words_of n b) ++ []
whole_numbers n b h =
    let long : length b ≡ 4 * n = eqb-true _ _ h.fits in
    sym (words_and_rest n b h.bytes (omega arith)) ∙ ap (λ (l : List ℕ). spell_words (words_of n b) ++ l) (drop_all (4 * n) b (omega arith))

whole_bytes : (n : ℕ) (b : List ℕ) → HasLayout (Counted n) b → b ≡ spell_words (words_of n b) ++ (little_bytes 4 (length (drop (4 * n + 4) b)) ++ drop (4 * n + 4) b)
whole_bytes n b h =
    let parts = both_true (leb (4 * n + 4) (length b)) (eqb (length b) (4 * n + 4 + word n b)) h.fits in
    let le : 4 * n + 4 ≤ length b = leb-true _ _ parts.0 in
    let long : length b ≡ 4 * n + 4 + word n b = eqb-true _ _ parts.1 in
    let len : word n b ≡ length (drop (4 * n + 4) b) = omega (arith, length-drop (4 * n + 4) b) in
    let behind : drop (4 * n) b ≡ little_bytes 4 (word n b) ++ drop (4 * n + 4) b =
    sym (four_front (drop (4 * n) b) (AreBytes-drop (4 * n) b h.bytes) (omega (arith, length-drop (4 * n) b))) ∙ ap (λ (l : List ℕ). little_bytes 4 (word n b) ++ l) (drop-drop 4 (4 * n) b) in
    sym (words_and_rest n b h.bytes (omega arith))
    ∙ ap (λ (l : List ℕ). spell_words (words_of n b) ++ l) (behind ∙ ap (λ (k : ℕ). little_bytes 4 k ++ drop (4 * n + 4) b) len)

whole_tokens : (b : List ℕ) → HasLayout Tokens b → b ≡ spell_words (words_of 1 b) ++ drop 4 b
whole_tokens b h =
    let parts = both_true (leb 4 (length b)) (eqb (length b % 4) 0) h.fits in
    let le : 4 ≤ length b = leb-true _ _ parts.0 in
    sym (words_and_rest 1 b h.bytes (omega arith))

words_then : (n : ℕ) (b c x y : List ℕ) → AreBytes b → AreBytes c → StopsAt 32 x → StopsAt 32 y → number_fields n b ++ x ≡ number_fields n c ++ y → (words_of n b ≡ words_of n c) × (x ≡ y)
words_then n b c x y p q sx sy e =
    same_words (words_of n b) (words_of n c) x y (length-words_of n b ∙ sym (length-words_of n c)) (AreWords-words_of n b p) (AreWords-words_of n c q) sx sy e

same_fields : (layout : Layout) (b c : List ℕ) → HasLayout layout b → HasLayout layout c → fields layout b ≡ fields layout c → b ≡ c
unfolding fields
same_fields (Words n) b c p q e =
    let same = words_then n b c [] [] p.bytes q.bytes tt tt (append-nil (number_fields n b) ∙ e ∙ sym (append-nil (number_fields n c))) in
    whole_numbers n b p ∙ ap (λ (ws : List ℕ). spell_words ws ++ []) same.0 ∙ sym (whole_numbers n c q)
same_fields (Counted n) b c p q e =
    let same = words_then n b c _ _ p.bytes q.bytes (stops_field (drop (4 * n + 4) b)) (stops_field (drop (4 * n + 4) c)) e in
    let tail = same_bytes_field _ _ (AreBytes-drop (4 * n + 4) b p.bytes) (AreBytes-drop (4 * n + 4) c q.bytes) same.1 in
    whole_bytes n b p ∙ ap (λ (ws : List ℕ). spell_words ws ++ (little_bytes 4 (length (drop (4 * n + 4) b)) ++ drop (4 * n + 4) b)) same.0
    ∙ ap (λ (t : List ℕ). spell_words (words_of n c) ++ (little_bytes 4 (length t) ++ t)) tail ∙ sym (whole_bytes n c q)
same_fields Tokens b c p q e =
    let same = words_then 1 b c _ _ p.bytes q.bytes (stops_field (drop 4 b)) (stops_field (drop 4 c)) e in
    let tail = same_bytes_field _ _ (AreBytes-drop 4 b p.bytes) (AreBytes-drop 4 c q.bytes) same.1 in
    whole_tokens b p ∙ ap (λ (ws : List ℕ). spell_words ws ++ drop 4 b) same.0 ∙ ap (λ (t : List ℕ). spell_words (words_of 1 c) ++ t) tail ∙ sym (whole_tokens c q)
same_fields Free b c p q e = same_bytes_field b c p.bytes q.bytes e

-- ---- lines

same_bare : (f g : Frame) → IsRecord f → IsRecord g → bare_line f ≡ bare_line g → f ≡ g
same_bare f g r s e =
    let p = parts_of f r in
    let q = parts_of g s in
    let cf = r.frame.context_fits in
    let cg = s.frame.context_fits in
    let first =
    same_cut 32 (decimal f.context) (decimal g.context) (32 ∷ (p.kind_is.name ++ fields p.kind_is.layout f.body)) (32 ∷ (q.kind_is.name ++ fields q.kind_is.layout g.body))
    (Lacks-decimal 32 f.context (inl (omega arith)) (omega arith)) (Lacks-decimal 32 g.context (inl (omega arith)) (omega arith)) refl refl (sym p.spelled ∙ e ∙ q.spelled) in
    let context : f.context ≡ g.context = decimal_injective f.context g.context (omega arith) (omega arith) first.0 in
    let second =
    same_cut 32 p.kind_is.name q.kind_is.name (fields p.kind_is.layout f.body) (fields q.kind_is.layout g.body)
    (name_no_blank f.kind p.kind_is p.is) (name_no_blank g.kind q.kind_is q.is) (stops_fields p.kind_is.layout f.body) (stops_fields q.kind_is.layout g.body) (ap (drop 1) first.1) in
    let kind : f.kind ≡ g.kind = same_name f.kind g.kind p.kind_is q.kind_is p.is q.is second.0 in
    let forms : q.kind_is ≡ p.kind_is = some_same q.kind_is p.kind_is (kind_numbered g.kind) q.is (ap kind_numbered (sym kind) ∙ p.is) in
    let layout : q.kind_is.layout ≡ p.kind_is.layout = ap (λ (x : Kind). x.layout) forms in
    let body : f.body ≡ g.body =
    same_fields p.kind_is.layout f.body g.body p.shaped (subst (λ (x : Layout). HasLayout x g.body) layout q.shaped) (second.1 ∙ ap (λ (x : Layout). fields x g.body) layout) in
    λ i. record { kind = kind i; context = context i; body = body i }

pub line_front : (f g : Frame) (x y : List ℕ) → IsRecord f → IsRecord g → line f ++ x ≡ line g ++ y → (f ≡ g) × (x ≡ y)
line_front f g x y r s e =
    let same = same_cut 10 (bare_line f) (bare_line g) (10 ∷ x) (10 ∷ y) (no_feed f r) (no_feed g s) refl refl (sym (line_then f x) ∙ e ∙ line_then g y) in
    (same_bare f g r s same.0, ap (drop 1) same.1)
