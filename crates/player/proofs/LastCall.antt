-- The last call of the generated log reads back 1,024 bytes at most: none where it were refused.
use Rattle.std.proofs.Common.{◌≡◌, ℕ, suc, ◌≤◌, List, [], ◌∷◌, ◌++◌, length, drop, Option, Some, None, refl, sym, ap, subst, ◌∙◌, append_assoc, arith}
use Rattle.std.specs.Prelude.{map, slice_get}
use Rattle.std.proofs.lemmas.List.{length-append, length-take, map-append}
use Rattle.dx_types.specs.declared.refusal.Refusal.{Refusal}
use Rattle.call_log.specs.Call.{Call, Issued, Copy, MapRead}
use Rattle.base_lemmas.proofs.Maps.{get-empty}
use Rattle.d3d_model.specs.D3dState.{bytes_of}
use Rattle.d3d_model.specs.InOrder.{State, before_call, call_at, verdict_in}
use Rattle.d3d_model.specs.ReplyText.{none_pending, answer_or_still, reply_unless, reply_to}
use Rattle.histogram_log.specs.Histogram.{opening, rounds, histogram}
use Rattle.histogram_log.specs.Logged.{issued_calls}
use Rattle.player.specs.Generated.{last_reply, read_back}

abbrev last_call : Call
last_call = MapRead 3 0 0 1024

abbrev alone : Call → Issued
alone c = record { context = 0; call = c }

-- the calls before it
abbrev front : ℕ → List Call
front n = opening ++ (rounds n ++ Copy 3 1 ∷ [])

ends_with : (n : ℕ) → histogram n ≡ front n ++ last_call ∷ []
ends_with n =
    ap (λ (l : List Call). opening ++ l) (sym (append_assoc (rounds n) (Copy 3 1 ∷ []) (last_call ∷ [])))
    ∙ sym (append_assoc opening (rounds n ++ Copy 3 1 ∷ []) (last_call ∷ []))

last_item : (xs : List Issued) (x : Issued) → slice_get (xs ++ x ∷ []) (length xs) ≡ Some x
last_item [] x = refl
last_item (y ∷ xs) x = last_item xs x

call_at_last : (xs : List Issued) (x : Issued) → call_at (xs ++ x ∷ []) (length (xs ++ x ∷ [])) ≡ Some x
call_at_last xs x =
    let e : length (xs ++ x ∷ []) ≡ suc (length xs) = omega (arith, length-append xs (x ∷ [])) in
    ap (call_at (xs ++ x ∷ [])) e ∙ last_item xs x

found_last : (n : ℕ) (log : List Issued) → log ≡ issued_calls (histogram n)
    → call_at log (length log) ≡ Some (alone last_call)
found_last n log e =
    let is : log ≡ map alone (front n) ++ alone last_call ∷ [] = e ∙ ap (map alone) (ends_with n)
    ∙ map-append alone (front n) (last_call ∷ []) in
    subst (λ (l : List Issued). call_at l (length l) ≡ Some (alone last_call)) (sym is)
    (call_at_last (map alone (front n)) (alone last_call))

short_unless : (m : ℕ) (s : State) (v : Option Refusal)
    → length (read_back (reply_unless none_pending m s last_call v)) ≤ 1024
short_unless m s (Some why) = omega arith
short_unless m s None =
    subst (λ (o : Option ℕ). length (read_back (answer_or_still m s last_call o)) ≤ 1024) (sym (get-empty ℕ m))
    (omega (arith, length-take 1024 (drop 0 (bytes_of s.memory 3))))

pub short_last : (n : ℕ) (log : List Issued) → log ≡ issued_calls (histogram n)
    → length (read_back (last_reply log)) ≤ 1024
short_last n log e =
    let s = before_call log (length log) in
    subst (λ (o : Option Issued). length (read_back (reply_to none_pending (length log) s o)) ≤ 1024)
    (sym (found_last n log e))
    (short_unless (length log) s (verdict_in s (alone last_call)))
