-- The bytes of calls, put behind one another.
use Rattle.std.proofs.Common.{◌≡◌, ℕ, zero, suc, ◌+◌, ◌<◌, Bool, true, false, List, [], ◌∷◌, ◌++◌, length, get_or, take, refl, sym, ap, subst, ◌∙◌, append_assoc, arith}
use Rattle.std.specs.Prelude.{map, if◌then◌else◌, Result, Ok, Err, OnOk}
use Rattle.std.specs.List.{flat_map, AllByRecursion}
use Rattle.std.proofs.Math.Numerals.{add-one}
use Rattle.std.proofs.lemmas.List.{append-nil, map-append, take_more, length-append}
use Rattle.std.proofs.lemmas.List.Concat.{flat_map-append}
use Rattle.call_log.specs.declared.call.Call as code
use Rattle.call_log.specs.Call.{Call}
use Rattle.call_log.specs.Grammar.{header, end_record, spell}
use Rattle.call_log.specs.Put.{frame_of, IsPuttable}
use Rattle.call_log.specs.View.{call_view}
use Rattle.histogram_log.specs.Histogram.{opening, input_word, input_words, round, rounds, closing, histogram}
use Rattle.histogram_log.specs.Logged.{spelled, log_of}

pub spelled-nil : spelled [] ≡ []
unfolding spelled
spelled-nil = refl

pub spelled-append : (a b : List Call) → spelled (a ++ b) ≡ spelled a ++ spelled b
unfolding spelled
spelled-append a b =
    ap (flat_map spell) (map-append (frame_of 0) a b) ∙ flat_map-append spell (map (frame_of 0) a) (map (frame_of 0) b)

spelled_one : (c : Call) → spelled (c ∷ []) ≡ spell (frame_of 0 c)
unfolding spelled
spelled_one c = append-nil (spell (frame_of 0 c))

-- nothing was put
pub put_none : (old : List ℕ) → old ≡ old ++ spelled []
put_none old = sym (ap (λ (l : List ℕ). old ++ l) spelled-nil ∙ append-nil old)

-- some calls, and some more
pub put_more : (old a b : List ℕ) (p q : List Call) → a ≡ old ++ spelled p → b ≡ a ++ spelled q
    → b ≡ old ++ spelled (p ++ q)
put_more old a b p q e f =
    f ∙ ap (λ (l : List ℕ). l ++ spelled q) e ∙ append_assoc old (spelled p) (spelled q)
    ∙ ap (λ (l : List ℕ). old ++ l) (sym (spelled-append p q))

-- four pieces
pub put_four : (old a b c d : List ℕ) (p q r s : List Call) → a ≡ old ++ spelled p → b ≡ a ++ spelled q
    → c ≡ b ++ spelled r → d ≡ c ++ spelled s → d ≡ old ++ spelled (p ++ (q ++ (r ++ s)))
put_four old a b c d p q r s e f g h =
    put_more old c d ((p ++ q) ++ r) s (put_more old b c (p ++ q) r (put_more old a b p q e f) g) h
    ∙ ap (λ (l : List Call). old ++ spelled l) (append_assoc (p ++ q) r s ∙ append_assoc p q (r ++ s))

-- a call that isn't put after all
pub put_skipped : (old : List ℕ) (b : Bool) (cs : List Call) → b ≡ false → old ≡ old ++ spelled (if b then cs else [])
put_skipped old true cs e = absurd cc
put_skipped old false cs e = put_none old

-- one call of several
pub put_next : (xs : List code.Call) (i : ℕ) (d : code.Call) (old a b : List ℕ) → i < length xs
    → a ≡ old ++ spelled (map call_view (take i xs)) → b ≡ a ++ spell (frame_of 0 (call_view (get_or xs i d)))
    → b ≡ old ++ spelled (map call_view (take (i + 1) xs))
put_next xs i d old a b lt e f =
    let front : List code.Call = take i xs in
    let x : code.Call = get_or xs i d in
    put_more old a b (map call_view front) (call_view x ∷ []) e
    (f ∙ ap (λ (l : List ℕ). a ++ l) (sym (spelled_one (call_view x))))
    ∙ ap (λ (l : List Call). old ++ spelled l) (sym (map-append call_view front (x ∷ [])))
    ∙ ap (λ (l : List code.Call). old ++ spelled (map call_view l)) (sym (take_more xs i d lt))

pub each_puttable : (xs : List code.Call) (i : ℕ) (d : code.Call) → AllByRecursion IsPuttable (map call_view xs)
    → i < length xs → IsPuttable (call_view (get_or xs i d))
each_puttable [] i d h lt = absurd (omega arith)
each_puttable (x ∷ xs) zero d h lt = h.0
each_puttable (x ∷ xs) (suc i) d h lt = each_puttable xs i d h.1 (omega arith)

-- one round more
pub put_round_more : (i : ℕ) (old a b : List ℕ) → a ≡ old ++ spelled (rounds i) → b ≡ a ++ spelled (round (i + 1))
    → b ≡ old ++ spelled (rounds (i + 1))
unfolding rounds
put_round_more i old a b e f =
    subst (λ (n : ℕ). b ≡ old ++ spelled (rounds n)) (sym (add-one i))
    (put_more old a b (rounds i) (round (i + 1)) e f ∙ ap (λ (n : ℕ). old ++ spelled (rounds i ++ round n)) (add-one i))

pub no_rounds : (old : List ℕ) → old ≡ old ++ spelled (rounds 0)
unfolding rounds
no_rounds old = put_none old

-- a header, all calls, and the end
pub put_whole : (n : ℕ) (a b c d e f : List ℕ) → a ≡ [] → b ≡ a ++ header → c ≡ b ++ spelled opening
    → d ≡ c ++ spelled (rounds n) → e ≡ d ++ spelled closing → f ≡ e ++ end_record → f ≡ log_of (histogram n)
put_whole n a b c d e f none first opens turns closes ends =
    let calls : e ≡ b ++ spelled (histogram n) =
    put_more b d e (opening ++ rounds n) closing (put_more b c d opening (rounds n) opens turns) closes
    ∙ ap (λ (l : List Call). b ++ spelled l) (append_assoc opening (rounds n) closing) in
    let begins : b ≡ header = first ∙ ap (λ (l : List ℕ). l ++ header) none in
    ends ∙ ap (λ (l : List ℕ). l ++ end_record) calls ∙ append_assoc b (spelled (histogram n)) end_record
    ∙ ap (λ (l : List ℕ). l ++ (spelled (histogram n) ++ end_record)) begins

-- what holds where there is a value
pub on_ok : {T E : Type 0} {P Q : Type 0} (r : Result T E) → (P → Q) → OnOk r P → OnOk r Q
on_ok (Ok x) f h = f h
on_ok (Err e) f h = h

-- ---- the values of a discard

pub no_words : (i : ℕ) → [] ≡ input_words i 0
unfolding input_words
no_words i = refl

pub word_more : (i j w : ℕ) (a b : List ℕ) → a ≡ input_words i j → w ≡ input_word i j → b ≡ a ++ w ∷ []
    → b ≡ input_words i (j + 1)
unfolding input_words
word_more i j w a b e f g =
    subst (λ (n : ℕ). b ≡ input_words i n) (sym (add-one j))
    (g ∙ ap (λ (l : List ℕ). l ++ w ∷ []) e ∙ ap (λ (v : ℕ). input_words i j ++ v ∷ []) f)

pub length-input_words : (i j : ℕ) → length (input_words i j) ≡ j
unfolding input_words
length-input_words i zero = refl
length-input_words i (suc j) =
    omega (arith, length-append (input_words i j) (input_word i j ∷ []), length-input_words i j)
