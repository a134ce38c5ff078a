-- The record that spells a call spells no other, and a log may have it.
use Rattle.std.proofs.Common.{◌≡◌, ℕ, ◌+◌, ◌-◌, ◌*◌, ◌%◌, ◌^◌, ◌<◌, ◌≤◌, Bool, true, false, ◌&&◌, eqb, leb, List, length, Option, Some, refl, ap, subst, arith}
use Rattle.std.proofs.lemmas.Bool.{leb-true, eqb-true}
use Rattle.std.proofs.lemmas.Bool.Decides.{nat_tests}
use Rattle.call_log.specs.declared.kinds.Layout.{Layout}
use Rattle.call_log.specs.declared.kinds.Layout.TheVariants.{Free}
use Rattle.call_log.specs.Kinds.{kind_numbered}
use Rattle.call_log.proofs.KindTable.{AllBelow, at_below}
use Rattle.call_log.specs.Body.{word, layout, fits, fits_known, call_of}
use Rattle.call_log.specs.Call.{Call, Buffer, View, CreateShader, Query, Destroy, SetShader, SetConstant, SetSrv, SetUav, ClearState, Dispatch, DispatchIndirect, CopyRegion, Copy, Update, ClearUav, SetPredication, Begin, EndQuery, MapWrite, MapRead, GetData, Flush, FinishList, ExecuteList, Draw}
use Rattle.call_log.specs.Grammar.{IsFrame}
use Rattle.call_log.specs.Put.{spell_words, kind_of_call, words_of_call, bytes_of_call, body_of_call, body_length, frame_of, AreWords, IsPuttable}
use Rattle.std.proofs.lemmas.List.{length-append}
use Rattle.call_log.proofs.OneReading.{four_back}
use Rattle.call_log.proofs.Words.{length-spell_words}

both_true : (a b : Bool) → a && b ≡ true → (a ≡ true) × (b ≡ true)
both_true true true e = (refl, refl)
both_true true false e = absurd cc
both_true false b e = absurd cc

-- a draw's kind, by its bounds
draw_kind : (kind : ℕ) → leb 64 kind && leb kind 79 ≡ true → (64 ≤ kind) × (kind ≤ 79)
draw_kind kind e =
    let b = both_true (leb 64 kind) (leb kind 79) e in
    (leb-true _ _ b.0, leb-true _ _ b.1)

-- the kinds of draws
sixteen : (P : ℕ → Type 0) (kind : ℕ) → 64 ≤ kind → kind ≤ 79 → ((i : ℕ) → i < 16 → P (64 + i)) → P kind
sixteen P kind le ge each = let e : 64 + (kind - 64) ≡ kind = omega arith in subst P e (each (kind - 64) (omega arith))

-- a kind of draw: its bodies are of any length, and a record of it spells a draw
IsDraw : ℕ → Type 0
IsDraw kind = (layout kind ≡ Some Free) × ((body : List ℕ) → call_of kind body ≡ Draw kind body)

all_draws : AllBelow (λ i. IsDraw (64 + i)) 16
unfolding AllBelow IsDraw kind_numbered call_of
all_draws = (
  (refl, λ body. refl),
  (
    (refl, λ body. refl),
    (
      (refl, λ body. refl),
      (
        (refl, λ body. refl),
        (
          (refl, λ body. refl),
          (
            (refl, λ body. refl),
            (
              (refl, λ body. refl),
              (
                (refl, λ body. refl),
                (
                  (refl, λ body. refl),
                  (
                    (refl, λ body. refl),
                    (
                      (refl, λ body. refl),
                      (
                        (refl, λ body. refl),
                        (
                          (refl, λ body. refl),
                          (
                            (refl, λ body. refl),
                            (
                              (refl, λ body. refl),
                              (
                                (refl, λ body. refl),
                                tt,
                              ),
                            ),
                          ),
                        ),
                      ),
                    ),
                  ),
                ),
              ),
            ),
          ),
        ),
      ),
    ),
  ),
)

is_draw : (kind : ℕ) → 64 ≤ kind → kind ≤ 79 → IsDraw kind
is_draw kind le ge = sixteen IsDraw kind le ge (λ i lt. at_below (λ j. IsDraw (64 + j)) 16 i all_draws lt)

draw_back : (kind : ℕ) (body : List ℕ) → 64 ≤ kind → kind ≤ 79 → call_of kind body ≡ Draw kind body
unfolding IsDraw
draw_back kind body le ge = (is_draw kind le ge).1 body

draw_layout : (kind : ℕ) → 64 ≤ kind → kind ≤ 79 → layout kind ≡ Some Free
unfolding IsDraw
draw_layout kind le ge = (is_draw kind le ge).0

pub call_back : (c : Call) → IsPuttable c → AreWords (words_of_call c) → call_of (kind_of_call c) (body_of_call c) ≡ c
unfolding call_of spell_words
call_back (Buffer id size usage bind misc stride bytes) p h = λ i. Buffer (four_back id h.0 i) (four_back size h.1.0 i) (four_back usage h.1.1.0 i) (four_back bind h.1.1.1.0 i) (four_back misc h.1.1.1.1.0 i) (four_back stride h.1.1.1.1.1.0 i) bytes
call_back (View view res kind form components first count) p h = λ i. View (four_back view h.0 i) (four_back res h.1.0 i) (four_back kind h.1.1.0 i) (four_back form h.1.1.1.0 i) (four_back components h.1.1.1.1.0 i) (four_back first h.1.1.1.1.1.0 i) (four_back count h.1.1.1.1.1.1.0 i)
call_back (CreateShader id words) p h = λ i. CreateShader (four_back id h.0 i) words
call_back (Query id sort) p h = λ i. Query (four_back id h.0 i) (four_back sort h.1.0 i)
call_back (Destroy class id) p h = λ i. Destroy (four_back class h.0 i) (four_back id h.1.0 i)
call_back (SetShader id) p h = λ i. SetShader (four_back id h.0 i)
call_back (SetConstant slot res) p h = λ i. SetConstant (four_back slot h.0 i) (four_back res h.1.0 i)
call_back (SetSrv slot view) p h = λ i. SetSrv (four_back slot h.0 i) (four_back view h.1.0 i)
call_back (SetUav slot view) p h = λ i. SetUav (four_back slot h.0 i) (four_back view h.1.0 i)
call_back ClearState p h = refl
call_back (Dispatch x y z) p h = λ i. Dispatch (four_back x h.0 i) (four_back y h.1.0 i) (four_back z h.1.1.0 i)
call_back (DispatchIndirect res offset) p h = λ i. DispatchIndirect (four_back res h.0 i) (four_back offset h.1.0 i)
call_back (CopyRegion target target_offset source source_offset len) p h = λ i. CopyRegion (four_back target h.0 i) (four_back target_offset h.1.0 i) (four_back source h.1.1.0 i) (four_back source_offset h.1.1.1.0 i) (four_back len h.1.1.1.1.0 i)
call_back (Copy target source) p h = λ i. Copy (four_back target h.0 i) (four_back source h.1.0 i)
call_back (Update res offset bytes) p h = λ i. Update (four_back res h.0 i) (four_back offset h.1.0 i) bytes
call_back (ClearUav view v0 v1 v2 v3) p h = λ i. ClearUav (four_back view h.0 i) (four_back v0 h.1.0 i) (four_back v1 h.1.1.0 i) (four_back v2 h.1.1.1.0 i) (four_back v3 h.1.1.1.1.0 i)
call_back (SetPredication kind id offset value) p h = λ i. SetPredication (four_back kind h.0 i) (four_back id h.1.0 i) (four_back offset h.1.1.0 i) (four_back value h.1.1.1.0 i)
call_back (Begin query) p h = λ i. Begin (four_back query h.0 i)
call_back (EndQuery query) p h = λ i. EndQuery (four_back query h.0 i)
call_back (MapWrite res mode offset bytes) p h = λ i. MapWrite (four_back res h.0 i) (four_back mode h.1.0 i) (four_back offset h.1.1.0 i) bytes
call_back (MapRead res flag offset len) p h = λ i. MapRead (four_back res h.0 i) (four_back flag h.1.0 i) (four_back offset h.1.1.0 i) (four_back len h.1.1.1.0 i)
call_back (GetData query flag) p h = λ i. GetData (four_back query h.0 i) (four_back flag h.1.0 i)
call_back Flush p h = refl
call_back (FinishList list) p h = λ i. FinishList (four_back list h.0 i)
call_back (ExecuteList list flag) p h = λ i. ExecuteList (four_back list h.0 i) (four_back flag h.1.0 i)
call_back (Draw kind body) p h = let b = draw_kind kind p.fits in draw_back kind body b.0 b.1

-- a body that has as many bytes behind its words as its last word says
counted : (n m w b : ℕ) → w ≡ b → m ≡ 4 * n + 4 + b → leb (4 * n + 4) m && eqb m (4 * n + 4 + w) ≡ true
counted n m w b e is = grind (arith, nat_tests)

eq_true : (n : ℕ) → n ≡ 0 → eqb n 0 ≡ true
eq_true n e = rw e refl

both : (a b : Bool) → a ≡ true → b ≡ true → a && b ≡ true
both a b p q = rw (p, q) refl

whole_tokens : (m n : ℕ) → m ≡ 4 + n → eqb (n % 4) 0 ≡ true → leb 4 m && eqb (m % 4) 0 ≡ true
whole_tokens m n is e = let rest : n % 4 ≡ 0 = eqb-true _ _ e in both (leb 4 m) (eqb (m % 4) 0) (grind (arith, nat_tests)) (eq_true (m % 4) (omega arith))

pub fits_back : (c : Call) → IsPuttable c → AreWords (words_of_call c) → fits (kind_of_call c) (body_of_call c) ≡ true
unfolding kind_numbered spell_words
fits_back (Buffer id size usage bind misc stride bytes) p h = counted 6 (length (body_of_call (Buffer id size usage bind misc stride bytes))) (word 6 (body_of_call (Buffer id size usage bind misc stride bytes))) (length bytes) (four_back (length bytes) h.1.1.1.1.1.1.0) (omega arith)
fits_back (View view res kind form components first count) p h = refl
fits_back (CreateShader id words) p h = whole_tokens (length (body_of_call (CreateShader id words))) (length words) (omega arith) p.fits
fits_back (Query id sort) p h = refl
fits_back (Destroy class id) p h = refl
fits_back (SetShader id) p h = refl
fits_back (SetConstant slot res) p h = refl
fits_back (SetSrv slot view) p h = refl
fits_back (SetUav slot view) p h = refl
fits_back ClearState p h = refl
fits_back (Dispatch x y z) p h = refl
fits_back (DispatchIndirect res offset) p h = refl
fits_back (CopyRegion target target_offset source source_offset len) p h = refl
fits_back (Copy target source) p h = refl
fits_back (Update res offset bytes) p h = counted 2 (length (body_of_call (Update res offset bytes))) (word 2 (body_of_call (Update res offset bytes))) (length bytes) (four_back (length bytes) h.1.1.0) (omega arith)
fits_back (ClearUav view v0 v1 v2 v3) p h = refl
fits_back (SetPredication kind id offset value) p h = refl
fits_back (Begin query) p h = refl
fits_back (EndQuery query) p h = refl
fits_back (MapWrite res mode offset bytes) p h = counted 3 (length (body_of_call (MapWrite res mode offset bytes))) (word 3 (body_of_call (MapWrite res mode offset bytes))) (length bytes) (four_back (length bytes) h.1.1.1.0) (omega arith)
fits_back (MapRead res flag offset len) p h = refl
fits_back (GetData query flag) p h = refl
fits_back Flush p h = refl
fits_back (FinishList list) p h = refl
fits_back (ExecuteList list flag) p h = refl
fits_back (Draw kind body) p h =
    let b = draw_kind kind p.fits in
    ap (λ (shape : Option Layout). fits_known shape body) (draw_layout kind b.0 b.1)

kind_small : (c : Call) → IsPuttable c → kind_of_call c < 2 ^ 16
kind_small (Buffer id size usage bind misc stride bytes) p = omega arith
kind_small (View view res kind form components first count) p = omega arith
kind_small (CreateShader id words) p = omega arith
kind_small (Query id sort) p = omega arith
kind_small (Destroy class id) p = omega arith
kind_small (SetShader id) p = omega arith
kind_small (SetConstant slot res) p = omega arith
kind_small (SetSrv slot view) p = omega arith
kind_small (SetUav slot view) p = omega arith
kind_small ClearState p = omega arith
kind_small (Dispatch x y z) p = omega arith
kind_small (DispatchIndirect res offset) p = omega arith
kind_small (CopyRegion target target_offset source source_offset len) p = omega arith
kind_small (Copy target source) p = omega arith
kind_small (Update res offset bytes) p = omega arith
kind_small (ClearUav view v0 v1 v2 v3) p = omega arith
kind_small (SetPredication kind id offset value) p = omega arith
kind_small (Begin query) p = omega arith
kind_small (EndQuery query) p = omega arith
kind_small (MapWrite res mode offset bytes) p = omega arith
kind_small (MapRead res flag offset len) p = omega arith
kind_small (GetData query flag) p = omega arith
kind_small Flush p = omega arith
kind_small (FinishList list) p = omega arith
kind_small (ExecuteList list flag) p = omega arith
kind_small (Draw kind body) p = let b = draw_kind kind p.fits in omega arith

pub length-body_of_call : (c : Call) → length (body_of_call c) ≡ body_length c
length-body_of_call c = omega (arith, length-append (spell_words (words_of_call c)) (bytes_of_call c), length-spell_words (words_of_call c))

pub frame_back : (context : ℕ) (c : Call) → context < 2 ^ 16 → IsPuttable c → AreWords (words_of_call c) → IsFrame (frame_of context c)
frame_back context c lt p h = record { kind_fits = kind_small c p; context_fits = lt; body_fits = omega (arith, p.small, length-body_of_call c); whole = fits_back c p h }
