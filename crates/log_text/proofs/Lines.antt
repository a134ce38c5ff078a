-- The lines of a text.
use Rattle.std.proofs.Common.{◌≡◌, ℕ, ◌+◌, ◌*◌, ◌<◌, inl, inr, List, [], ◌∷◌, ◌++◌, length, drop, refl, sym, ap, subst, ◌∙◌, append_assoc, arith}
use Rattle.std.specs.List.{flat_map, AllByRecursion}
use Rattle.std.specs.Fmt.{decimal}
use Rattle.std.proofs.lemmas.List.{length-append, append-nil}
use Rattle.std.proofs.lemmas.List.Concat.{flat_map-append, flat_map-cons}
use Rattle.call_log.specs.Grammar.{Frame, IsFrame, header, end_record, spell}
use Rattle.call_log.specs.Put.{AreWords}
use Rattle.call_log.specs.declared.kinds.Layout.{Layout}
use Rattle.call_log.specs.declared.kinds.Layout.TheVariants.{Words, Counted, Tokens, Free}
use Rattle.log_text.specs.LogText.{number_field, bytes_field, words_of, fields, bare_line, line, first_line, end_line, IsRecord, LogText, IsFirstBad}
use Rattle.log_text.specs.Reading.{ReadsLine, Assembles}
use Rattle.text_words.specs.Words.{AreBytes, Lacks, Cut}
use Rattle.text_words.proofs.Cutting.{same_cut}
use Rattle.text_words.proofs.Digits.{Lacks-decimal}
use Rattle.text_words.proofs.Hex.{Lacks-encode_lower}
use Rattle.log_text.proofs.Bodies.{AreBytes-drop, AreWords-words_of}
use Rattle.log_text.proofs.Names.{name_no_feed}
use Rattle.log_text.proofs.LineParts.{parts_of}

-- ---- no line feed stands in a line

Lacks-append : (c : ℕ) (xs ys : List ℕ) → Lacks c xs → Lacks c ys → Lacks c (xs ++ ys)
Lacks-append c [] ys p q = q
Lacks-append c (x ∷ xs) ys p q = (p.0, Lacks-append c xs ys p.1 q)

not_blank : (n : ℕ) → n ≡ 32 → n ≡ 10 → ⊥
not_blank n p q = absurd (omega arith)

Lacks-numbers : (ws : List ℕ) → AreWords ws → Lacks 10 (flat_map number_field ws)
Lacks-numbers [] small = tt
Lacks-numbers (w ∷ ws) small =
    subst (Lacks 10) (sym (flat_map-cons number_field w ws))
    (Lacks-append 10 (number_field w) (flat_map number_field ws) (not_blank 32 refl, Lacks-decimal 10 w (inl (omega arith)) (omega arith)) (Lacks-numbers ws small.1))

Lacks-field : (bytes : List ℕ) → AreBytes bytes → Lacks 10 (bytes_field bytes)
Lacks-field [] fit = ((λ e. absurd (omega arith)), ((λ e. absurd (omega arith)), tt))
Lacks-field (b ∷ bs) fit = ((λ e. absurd (omega arith)), Lacks-encode_lower 10 (b ∷ bs) (omega arith) fit)

Lacks-fields : (layout : Layout) (body : List ℕ) → AreBytes body → Lacks 10 (fields layout body)
unfolding fields
Lacks-fields (Words n) body fit = Lacks-numbers (words_of n body) (AreWords-words_of n body fit)
Lacks-fields (Counted n) body fit = Lacks-append 10 _ _ (Lacks-numbers (words_of n body) (AreWords-words_of n body fit)) (Lacks-field _ (AreBytes-drop (4 * n + 4) body fit))
Lacks-fields Tokens body fit = Lacks-append 10 _ _ (Lacks-numbers (words_of 1 body) (AreWords-words_of 1 body fit)) (Lacks-field _ (AreBytes-drop 4 body fit))
Lacks-fields Free body fit = Lacks-field body fit

pub no_feed : (f : Frame) → IsRecord f → Lacks 10 (bare_line f)
no_feed f r =
    let p = parts_of f r in
    let lt = r.frame.context_fits in
    subst (Lacks 10) (sym p.spelled)
    (Lacks-append 10 (decimal f.context) _ (Lacks-decimal 10 f.context (inl (omega arith)) (omega arith))
    (not_blank 32 refl, Lacks-append 10 p.kind_is.name _ (name_no_feed f.kind p.kind_is p.is) (Lacks-fields p.kind_is.layout f.body r.bytes)))

-- ---- the line that stands in front

pub line_then : (f : Frame) (more : List ℕ) → line f ++ more ≡ bare_line f ++ 10 ∷ more
unfolding line
line_then f more = append_assoc (bare_line f) (10 ∷ []) more

pub line_cut : (f : Frame) (rest bare after more : List ℕ) → IsRecord f → Cut 10 rest bare (10 ∷ after) → rest ≡ line f ++ more → (bare ≡ bare_line f) × (after ≡ more)
line_cut f rest bare after more r cut e =
    let same = same_cut 10 bare (bare_line f) (10 ∷ after) (10 ∷ more) cut.lacks (no_feed f r) refl refl (sym cut.spelled ∙ e ∙ line_then f more) in
    (same.0, ap (drop 1) same.1)

end_lacks : Lacks 10 (101 ∷ 110 ∷ 100 ∷ [])
end_lacks = ((λ e. absurd (omega arith)), ((λ e. absurd (omega arith)), ((λ e. absurd (omega arith)), tt)))

pub end_cut : (rest bare after more : List ℕ) → Cut 10 rest bare (10 ∷ after) → rest ≡ end_line ++ more → (bare ≡ 101 ∷ 110 ∷ 100 ∷ []) × (after ≡ more)
end_cut rest bare after more cut e =
    let same = same_cut 10 bare (101 ∷ 110 ∷ 100 ∷ []) (10 ∷ after) (10 ∷ more) cut.lacks end_lacks refl refl (sym cut.spelled ∙ e) in
    (same.0, ap (drop 1) same.1)

first_lacks : Lacks 10 (100 ∷ 51 ∷ 108 ∷ 49 ∷ 32 ∷ 49 ∷ [])
first_lacks = ((λ e. absurd (omega arith)), ((λ e. absurd (omega arith)), ((λ e. absurd (omega arith)), ((λ e. absurd (omega arith)), ((λ e. absurd (omega arith)), ((λ e. absurd (omega arith)), tt))))))

pub first_cut : (text bare after more : List ℕ) → Cut 10 text bare (10 ∷ after) → text ≡ first_line ++ more → (bare ≡ 100 ∷ 51 ∷ 108 ∷ 49 ∷ 32 ∷ 49 ∷ []) × (after ≡ more)
first_cut text bare after more cut e =
    let same = same_cut 10 bare (100 ∷ 51 ∷ 108 ∷ 49 ∷ 32 ∷ 49 ∷ []) (10 ∷ after) (10 ∷ more) cut.lacks first_lacks refl refl (sym cut.spelled ∙ e) in
    (same.0, ap (drop 1) same.1)

-- ---- a text as it is read

-- no line stands in front
abbrev pub NoLine : List ℕ → Type 0
NoLine rest = (bare more : List ℕ) → rest ≡ bare ++ 10 ∷ more → ⊥

pub bad_first : (text : List ℕ) → ((more : List ℕ) → text ≡ first_line ++ more → ⊥) → IsFirstBad text 1
bad_first text none = inl (record { none = none }, refl)

pub bad_unended : (text rest log : List ℕ) (n : ℕ) → Assembles text rest log n → NoLine rest → IsFirstBad text n
bad_unended text rest log n a none = inr (inl (record {
  frames = a.frames;
  rest = rest;
  spelled = a.spelled;
  each = a.each;
  no_call = λ f more r e. none (bare_line f) more (e ∙ line_then f more);
  no_end = λ more e. none (101 ∷ 110 ∷ 100 ∷ []) more e;
  number = a.number;
}))

pub bad_call : (text rest log bare after : List ℕ) (n : ℕ) → Assembles text rest log n → Cut 10 rest bare (10 ∷ after)
    → ((f : Frame) → IsRecord f → bare ≡ bare_line f → ⊥) → (bare ≡ 101 ∷ 110 ∷ 100 ∷ [] → ⊥) → IsFirstBad text n
bad_call text rest log bare after n a cut no_record no_end = inr (inl (record {
  frames = a.frames;
  rest = rest;
  spelled = a.spelled;
  each = a.each;
  no_call = λ f more r e. no_record f r (line_cut f rest bare after more r cut e).0;
  no_end = λ more e. no_end (end_cut rest bare after more cut e).0;
  number = a.number;
}))

pub bad_after_end : (text rest log bare after : List ℕ) (n m : ℕ) → Assembles text rest log n → Cut 10 rest bare (10 ∷ after) → bare ≡ 101 ∷ 110 ∷ 100 ∷ [] → 0 < length after → m ≡ n + 1
    → IsFirstBad text m
bad_after_end text rest log bare after n m a cut is some next = inr (inr (record {
  frames = a.frames;
  rest = after;
  spelled = a.spelled ∙ ap (λ (l : List ℕ). first_line ++ (flat_map line a.frames ++ l)) (cut.spelled ∙ ap (λ (l : List ℕ). l ++ 10 ∷ after) is);
  each = a.each;
  more = some;
  number = omega (arith, a.number);
}))

all_frames : (fs : List Frame) → AllByRecursion IsRecord fs → AllByRecursion IsFrame fs
all_frames [] all = tt
all_frames (f ∷ fs) all = (all.0.frame, all_frames fs all.1)

pub whole_text : (text rest log ended bare after : List ℕ) (n : ℕ) → Assembles text rest log n → Cut 10 rest bare (10 ∷ after) → bare ≡ 101 ∷ 110 ∷ 100 ∷ [] → after ≡ [] → ended ≡ log ++ end_record
    → LogText text ended
whole_text text rest log ended bare after n a cut is none put = record {
  frames = a.frames;
  writes = record {
    spelled =
        a.spelled
        ∙ ap (λ (l : List ℕ). first_line ++ (flat_map line a.frames ++ l)) (cut.spelled ∙ ap (λ (l : List ℕ). l ++ 10 ∷ after) is ∙ ap (λ (l : List ℕ). (101 ∷ 110 ∷ 100 ∷ []) ++ 10 ∷ l) none);
    each = a.each;
  };
  spells = record {
    spelled = put ∙ ap (λ (l : List ℕ). l ++ end_record) a.put ∙ append_assoc header (flat_map spell a.frames) end_record;
    each = all_frames a.frames a.each;
  };
}

pub assembles_none : (text rest log bare : List ℕ) → Cut 10 text bare (10 ∷ rest) → bare ≡ 100 ∷ 51 ∷ 108 ∷ 49 ∷ 32 ∷ 49 ∷ [] → log ≡ header → Assembles text rest log 2
assembles_none text rest log bare cut is put = record {
  frames = [];
  each = tt;
  spelled = cut.spelled ∙ ap (λ (l : List ℕ). l ++ 10 ∷ rest) is;
  put = put;
  number = refl;
}

all_push : (fs : List Frame) (f : Frame) → AllByRecursion IsRecord fs → IsRecord f → AllByRecursion IsRecord (fs ++ f ∷ [])
all_push [] f all r = (r, tt)
all_push (g ∷ fs) f all r = (all.0, all_push fs f all.1 r)

pub flat_push : (F : Frame → List ℕ) (fs : List Frame) (f : Frame) → flat_map F (fs ++ f ∷ []) ≡ flat_map F fs ++ F f
flat_push F fs f = flat_map-append F fs (f ∷ []) ∙ ap (λ (l : List ℕ). flat_map F fs ++ l) (append-nil (F f))

pub assembles_more : (text rest log more bare after : List ℕ) (n : ℕ) → Assembles text rest log n → Cut 10 rest bare (10 ∷ after) → ReadsLine bare log more → Assembles text after more (n + 1)
assembles_more text rest log more bare after n a cut l = record {
  frames = a.frames ++ l.frame ∷ [];
  each = all_push a.frames l.frame a.each l.is_record;
  spelled =
      a.spelled
      ∙ ap (λ (t : List ℕ). first_line ++ (flat_map line a.frames ++ t)) (cut.spelled ∙ ap (λ (t : List ℕ). t ++ 10 ∷ after) l.spelled ∙ sym (line_then l.frame after))
      ∙ ap (λ (t : List ℕ). first_line ++ t) (sym (append_assoc (flat_map line a.frames) (line l.frame) after))
      ∙ ap (λ (t : List ℕ). first_line ++ (t ++ after)) (sym (flat_push line a.frames l.frame));
  put =
      l.put ∙ ap (λ (t : List ℕ). t ++ spell l.frame) a.put ∙ append_assoc header (flat_map spell a.frames) (spell l.frame)
      ∙ ap (λ (t : List ℕ). header ++ t) (sym (flat_push spell a.frames l.frame));
  number = omega (arith, a.number, length-append a.frames (l.frame ∷ []));
}
