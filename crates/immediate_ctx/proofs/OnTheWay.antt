-- What is kept of the chunks on their way, as their list and the code's have it.
use Rattle.std.proofs.Common.{◌≡◌, ℕ, suc, ◌+◌, ◌-◌, Bool, true, cond, ◌&&◌, nat_lt, List, [], ◌∷◌, length, map}
use Rattle.std.proofs.Common.{sym, ap, ◌∙◌, Some, None, slice_get, arith}
use Rattle.std.proofs.lemmas.List.{length-map}
use Rattle.std.specs.Option.{option_map}
use Rattle.std.proofs.lemmas.Bool.{lt-ltb}
use Rattle.std.proofs.lemmas.Option.{slice_get-map}
use Rattle.immediate_ctx.specs.declared.flight.Sent.{Sent}
use Rattle.immediate_ctx.specs.Flight.{OnItsWay, view_of, last_of, awaited}

-- the last chunk's call is the last one's
pub last_of-some : (done : ℕ) (xs : List Sent) (s : Sent) → slice_get xs (length xs - 1) ≡ Some s
    → s.upto ≡ last_of done (map view_of xs)
last_of-some done [] s e = absurd (cc e)
last_of-some done (x ∷ []) s e = let same : x ≡ s = cc e in ap (λ (y : Sent). y.upto) (sym same)
last_of-some done (x ∷ y ∷ ys) s e =
    let less : suc (suc (length ys)) - 1 ≡ suc (suc (length ys) - 1) = omega arith in
    last_of-some x.upto (y ∷ ys) s (sym (ap (slice_get (x ∷ y ∷ ys)) less) ∙ e)

-- where 32 chunks and so many more are on their way, the chunk at that place is awaited
pub awaited-at : (taken done : ℕ) (xs : List Sent) (i : ℕ) (s : Sent) → i + 32 ≡ length xs → slice_get xs i ≡ Some s
    → awaited (record { taken = taken; done = done; kept = map view_of xs }) ≡ Some s.upto
awaited-at taken done xs i s count is =
    let cs = map view_of xs in
    let k = suc (taken + length cs) in
    let as_long : length cs ≡ length xs = length-map xs view_of in
    let above : nat_lt 32 k ≡ true = lt-ltb 32 k (omega (arith, as_long)) in
    let not_taken : nat_lt taken (k - 32) ≡ true = lt-ltb taken (k - 32) (omega (arith, as_long)) in
    let place : k - 32 - suc taken ≡ i = omega (arith, as_long) in
    let there : slice_get (map (λ (c : OnItsWay). c.upto) cs) (k - 32 - suc taken) ≡ Some s.upto =
    ap (slice_get (map (λ (c : OnItsWay). c.upto) cs)) place ∙ slice_get-map (λ (c : OnItsWay). c.upto) cs i
    ∙ ap (option_map (λ (c : OnItsWay). c.upto)) (slice_get-map view_of xs i ∙ ap (option_map view_of) is) in
    ap (λ (b : Bool). cond (b && nat_lt taken (k - 32))
    (slice_get (map (λ (c : OnItsWay). c.upto) cs) (k - 32 - suc taken)) None) above
    ∙ ap (λ (b : Bool). cond b (slice_get (map (λ (c : OnItsWay). c.upto) cs) (k - 32 - suc taken)) None) not_taken
    ∙ there
