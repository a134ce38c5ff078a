-- Where records begin, by the calls and by the records.
use Rattle.std.proofs.Common.{◌≡◌, ℕ, zero, suc, ◌+◌, ◌<◌, List, [], ◌∷◌, ◌++◌, length, take, sum_by, get_or, Some, sym, ap, subst, ◌∙◌, arith, add-one, length-append}
use Rattle.std.specs.Prelude.{slice_get}
use Rattle.std.specs.List.{flat_map}
use Rattle.std.proofs.lemmas.List.Sums.{sum_by-append, sum_by-cons}
use Rattle.std.proofs.lemmas.Grind.{flat_map-append}
use Rattle.call_log.specs.Call.{Issued}
use Rattle.call_log.specs.Body.{call_of}
use Rattle.call_log.specs.Grammar.{Frame, IsFrame, AreBytes, calls_of, frame_no, issued, spell, start_behind}
use Rattle.call_log.specs.Put.{body_length}
use Rattle.call_log.proofs.FrameBack.{frame_of-call_of}
use Rattle.call_log.proofs.ReadBack.{length-body_of_call}
use Rattle.d3d_plan.specs.Planned.{place_behind, record_length}

-- a record's body is as long as its call says
pub body_is_long : (f : Frame) → IsFrame f → AreBytes f.body → body_length (call_of f.kind f.body) ≡ length f.body
body_is_long f h are = sym (length-body_of_call (call_of f.kind f.body)) ∙ ap (λ (g : Frame). length g.body) (frame_of-call_of f h are)

-- numbers that are all bytes, with any default
pub are_bytes : (xs : List ℕ) → ((i : ℕ) → get_or xs i 0 < 256) → AreBytes xs
are_bytes [] fits k d below = absurd (omega (arith, below))
are_bytes (x ∷ xs) fits zero d below = fits 0
are_bytes (x ∷ xs) fits (suc k) d below = are_bytes xs (λ i. fits (suc i)) k d (omega (arith, below))

one_further : {X : Type 0} (xs : List X) (i : ℕ) (x : X) → slice_get xs i ≡ Some x → take (suc i) xs ≡ take i xs ++ x ∷ []
one_further [] i x e = absurd cc
one_further (y ∷ ys) zero x e = let same : y ≡ x = cc in ap (λ (z : _). z ∷ []) same
one_further (y ∷ ys) (suc i) x e = ap (λ (l : List _). y ∷ l) (one_further ys i x e)

issued_at : (frames : List Frame) (i : ℕ) (f : Frame) → slice_get frames i ≡ Some f → slice_get (calls_of frames) i ≡ Some (issued f)
issued_at [] i f e = absurd cc
issued_at (g ∷ gs) zero f e = let same : g ≡ f = cc in ap (λ (h : Frame). Some (issued h)) same
issued_at (g ∷ gs) (suc i) f e = issued_at gs i f e

length-spell : (f : Frame) → length (spell f) ≡ 8 + length f.body
length-spell f = omega arith

calls_further : (log : List Issued) (i : ℕ) (c : Issued) → slice_get log i ≡ Some c → place_behind log (suc i) ≡ place_behind log i + record_length c
calls_further log i c e =
    omega (arith, ap (λ (l : List Issued). sum_by record_length l) (one_further log i c e), sum_by-append record_length (take i log) (c ∷ []), sum_by-cons record_length c [])

single : (f : Frame) → length (flat_map spell (f ∷ [])) ≡ 8 + length f.body
single f = omega (arith, length-append (spell f) [], length-spell f)

records_further : (frames : List Frame) (i : ℕ) (f : Frame) → slice_get frames i ≡ Some f → start_behind frames (suc i) ≡ start_behind frames i + (8 + length f.body)
records_further frames i f e =
    omega (
      arith,
      ap (λ (l : List Frame). length (flat_map spell l)) (one_further frames i f e),
      ap (λ (l : List ℕ). length l) (flat_map-append spell (take i frames) (f ∷ [])),
      length-append (flat_map spell (take i frames)) (flat_map spell (f ∷ [])),
      single f,
    )

-- the record behind one that begins at the same place
pub place_next : (frames : List Frame) (i : ℕ) (f : Frame) → frame_no frames (i + 1) ≡ Some f → body_length (call_of f.kind f.body) ≡ length f.body
    → place_behind (calls_of frames) i ≡ start_behind frames i → place_behind (calls_of frames) (i + 1) ≡ start_behind frames (i + 1)
place_next frames i f there long same =
    let here : slice_get frames i ≡ Some f = subst (λ (n : ℕ). frame_no frames n ≡ Some f) (add-one i) there in
    subst (λ (n : ℕ). place_behind (calls_of frames) n ≡ start_behind frames n) (sym (add-one i))
    (calls_further (calls_of frames) i (issued f) (issued_at frames i f here) ∙ ap (λ n. place_behind (calls_of frames) i + (8 + n)) long
    ∙ ap (λ n. n + (8 + length f.body)) same ∙ sym (records_further frames i f here))
