-- A text is of one log, and has one first bad line if it is of none.
use Rattle.std.proofs.Common.{◌≡◌, ℕ, ◌<◌, inl, inr, List, [], ◌∷◌, ◌++◌, length, drop, refl, sym, ap, subst, ◌∙◌, append_assoc, arith}
use Rattle.std.specs.List.{flat_map, AllByRecursion}
use Rattle.std.specs.Fmt.{decimal}
use Rattle.std.proofs.lemmas.List.Concat.{flat_map-cons}
use Rattle.std.proofs.lemmas.List.Elements.{recursion_from_All}
use Rattle.call_log.specs.Grammar.{Frame, IsFrame, IsLog, header, end_record, spell}
use Rattle.call_log.specs.Grammar as grammar
use Rattle.call_log.proofs.OneReading.{one_log}
use Rattle.log_text.specs.LogText.{bare_line, line, first_line, end_line, text_of, IsRecord, IsTextOf, LogText, IsBadCall, IsBadAfterEnd, IsFirstBad}
use Rattle.text_words.specs.Words.{AreBytes, Lacks}
use Rattle.text_words.proofs.Cutting.{same_cut, lacks_not}
use Rattle.log_text.proofs.LineParts.{parts_of}
use Rattle.log_text.proofs.Lines.{no_feed, line_then}
use Rattle.log_text.proofs.SameLine.{line_front}

-- no record's line stands in front
record Stops (x : List ℕ) : Type 0 where
  none : (f : Frame) (more : List ℕ) → IsRecord f → x ≡ line f ++ more → ⊥

more : (f : Frame) (fs : List Frame) (x : List ℕ) → flat_map line (f ∷ fs) ++ x ≡ line f ++ (flat_map line fs ++ x)
more f fs x = ap (λ (l : List ℕ). l ++ x) (flat_map-cons line f fs) ∙ append_assoc (line f) (flat_map line fs) x

-- two readings of the same text are one
one_front : (fs gs : List Frame) (x y : List ℕ) → AllByRecursion IsRecord fs → AllByRecursion IsRecord gs → Stops x → Stops y → flat_map line fs ++ x ≡ flat_map line gs ++ y → (fs ≡ gs) × (x ≡ y)
one_front [] [] x y p q sx sy e = (refl, e)
one_front [] (g ∷ gs) x y p q sx sy e = absurd (sx.none g (flat_map line gs ++ y) q.0 (e ∙ more g gs y))
one_front (f ∷ fs) [] x y p q sx sy e = absurd (sy.none f (flat_map line fs ++ x) p.0 (sym e ∙ more f fs x))
one_front (f ∷ fs) (g ∷ gs) x y p q sx sy e =
    let first = line_front f g (flat_map line fs ++ x) (flat_map line gs ++ y) p.0 q.0 (sym (more f fs x) ∙ e ∙ more g gs y) in
    let others = one_front fs gs x y p.1 q.1 sx sy first.1 in
    (λ i. first.0 i ∷ others.0 i, others.1)

end_word : List ℕ
end_word = 101 ∷ 110 ∷ 100 ∷ []

end_lacks : (c : ℕ) → c < 100 → Lacks c end_word
unfolding end_word
end_lacks c lt = ((λ e. absurd (omega arith)), ((λ e. absurd (omega arith)), ((λ e. absurd (omega arith)), tt)))

-- the line that ends a text is no record's
end_stops : (rest : List ℕ) → Stops (end_line ++ rest)
unfolding end_word
end_stops rest = record {
  none = λ f m r e.
      let p = parts_of f r in
      let same = same_cut 10 end_word (bare_line f) (10 ∷ rest) (10 ∷ m) (end_lacks 10 (omega arith)) (no_feed f r) refl refl (e ∙ line_then f m) in
      lacks_not 32 end_word (decimal f.context) _ (end_lacks 32 (omega arith)) (same.0 ∙ p.spelled);
}

behind : (a b : List ℕ) → first_line ++ a ≡ first_line ++ b → a ≡ b
behind a b e = ap (drop 7) e

-- ---- one log, one text

pub one_list : (text : List ℕ) (fs gs : List Frame) → IsTextOf text fs → IsTextOf text gs → fs ≡ gs
one_list text fs gs p q = (one_front fs gs end_line end_line p.each q.each (end_stops []) (end_stops []) (behind _ _ (sym p.spelled ∙ q.spelled))).0

pub one_log_of : (text a b : List ℕ) → LogText text a → LogText text b → a ≡ b
one_log_of text a b p q =
    let same = one_list text p.frames q.frames p.writes q.writes in
    p.spells.spelled ∙ ap (λ (fs : List Frame). header ++ (flat_map spell fs ++ end_record)) same ∙ sym q.spells.spelled

pub one_text_of : (s t log : List ℕ) → LogText s log → LogText t log → s ≡ t
one_text_of s t log p q =
    let same = one_log log p.frames q.frames p.spells q.spells in
    p.writes.spelled ∙ ap text_of same ∙ sym q.writes.spelled

-- ---- every log of bytes has a text

front_bytes : (xs ys : List ℕ) → AreBytes (xs ++ ys) → AreBytes xs
front_bytes [] ys fit = tt
front_bytes (x ∷ xs) ys fit = (fit.0, front_bytes xs ys fit.1)

rest_bytes : (xs ys : List ℕ) → AreBytes (xs ++ ys) → AreBytes ys
rest_bytes [] ys fit = fit
rest_bytes (x ∷ xs) ys fit = rest_bytes xs ys fit.1

all_records : (fs : List Frame) (rest : List ℕ) → AllByRecursion IsFrame fs → AreBytes (flat_map spell fs ++ rest) → AllByRecursion IsRecord fs
all_records [] rest all fit = tt
all_records (f ∷ fs) rest all fit =
    let split : flat_map spell (f ∷ fs) ++ rest ≡ spell f ++ (flat_map spell fs ++ rest) =
    ap (λ (l : List ℕ). l ++ rest) (flat_map-cons spell f fs) ∙ append_assoc (spell f) (flat_map spell fs) rest in
    let both = subst AreBytes split fit in
    let first : AreBytes (spell f) = front_bytes (spell f) (flat_map spell fs ++ rest) both in
    (record { frame = all.0; bytes = first.1.1.1.1.1.1.1.1 }, all_records fs rest all.1 (rest_bytes (spell f) (flat_map spell fs ++ rest) both))

pub log_has_text : (log : List ℕ) (fs : List Frame) → grammar.AreBytes log → IsLog log fs → LogText (text_of fs) log
log_has_text log fs are is =
    let fit : AreBytes (header ++ (flat_map spell fs ++ end_record)) = subst AreBytes is.spelled (recursion_from_All (λ b. b < 256) log are) in
    record {
      frames = fs;
      writes = record { spelled = refl; each = all_records fs end_record is.each (rest_bytes header _ fit) };
      spells = is;
    }

pub read_back : (log back : List ℕ) (fs : List Frame) → grammar.AreBytes log → IsLog log fs → LogText (text_of fs) back → back ≡ log
read_back log back fs are is p = one_log_of (text_of fs) back log p (log_has_text log fs are is)

-- ---- one first bad line, or none

call_stops : (text : List ℕ) (n : ℕ) (b : IsBadCall text n) → Stops b.rest
call_stops text n b = record { none = b.no_call }

pub no_bad_line : (text log : List ℕ) (n : ℕ) → LogText text log → IsFirstBad text n → ⊥
no_bad_line text log n p (inl b) = b.0.none _ p.writes.spelled
no_bad_line text log n p (inr (inl b)) =
    let same = one_front p.frames b.frames end_line b.rest p.writes.each b.each (end_stops []) (call_stops text n b) (behind _ _ (sym p.writes.spelled ∙ b.spelled)) in
    b.no_end [] (sym same.1)
no_bad_line text log n p (inr (inr b)) =
    let same = one_front p.frames b.frames end_line (end_line ++ b.rest) p.writes.each b.each (end_stops []) (end_stops b.rest) (behind _ _ (sym p.writes.spelled ∙ b.spelled)) in
    let none : [] ≡ b.rest = ap (drop 4) same.1 in
    absurd (omega (arith, b.more, ap length none))

calls_once : (text : List ℕ) (m n : ℕ) → IsBadCall text m → IsBadCall text n → m ≡ n
calls_once text m n b d =
    let same = one_front b.frames d.frames b.rest d.rest b.each d.each (call_stops text m b) (call_stops text n d) (behind _ _ (sym b.spelled ∙ d.spelled)) in
    omega (arith, b.number, d.number, ap length same.0)

ends_once : (text : List ℕ) (m n : ℕ) → IsBadAfterEnd text m → IsBadAfterEnd text n → m ≡ n
ends_once text m n b d =
    let same = one_front b.frames d.frames (end_line ++ b.rest) (end_line ++ d.rest) b.each d.each (end_stops b.rest) (end_stops d.rest) (behind _ _ (sym b.spelled ∙ d.spelled)) in
    omega (arith, b.number, d.number, ap length same.0)

not_both : (text : List ℕ) (m n : ℕ) → IsBadCall text m → IsBadAfterEnd text n → ⊥
not_both text m n b d =
    let same = one_front b.frames d.frames b.rest (end_line ++ d.rest) b.each d.each (call_stops text m b) (end_stops d.rest) (behind _ _ (sym b.spelled ∙ d.spelled)) in
    b.no_end d.rest same.1

pub one_bad_line : (text : List ℕ) (m n : ℕ) → IsFirstBad text m → IsFirstBad text n → m ≡ n
one_bad_line text m n (inl b) (inl d) = b.1 ∙ sym d.1
one_bad_line text m n (inl b) (inr (inl d)) = absurd (b.0.none _ d.spelled)
one_bad_line text m n (inl b) (inr (inr d)) = absurd (b.0.none _ d.spelled)
one_bad_line text m n (inr (inl b)) (inl d) = absurd (d.0.none _ b.spelled)
one_bad_line text m n (inr (inr b)) (inl d) = absurd (d.0.none _ b.spelled)
one_bad_line text m n (inr (inl b)) (inr (inl d)) = calls_once text m n b d
one_bad_line text m n (inr (inr b)) (inr (inr d)) = ends_once text m n b d
one_bad_line text m n (inr (inl b)) (inr (inr d)) = absurd (not_both text m n b d)
one_bad_line text m n (inr (inr b)) (inr (inl d)) = absurd (not_both text n m d b)
