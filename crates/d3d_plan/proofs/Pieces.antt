-- The tables of a plan, as they grow, and the entries that they show.
use Rattle.std.proofs.Common.{◌≡◌, Bool, ℕ, zero, suc, ◌-◌, ◌≤◌, ◌<◌, List, [], ◌∷◌, ◌++◌, length, map, take, drop, Option, Some, None, refl, sym, ap, ◌∙◌, arith, length-append, append-nil}
use Rattle.std.specs.Prelude.{slice_get, slice_index_or, if◌then◌else◌}
use Rattle.std.specs.List.{All}
use Rattle.std.specs.Option.{option_map}
use Rattle.std.proofs.lemmas.Bool.{ne_eqb}
use Rattle.std.proofs.lemmas.List.{map-append, take-append-le, drop-append-le, take_all, length-drop, length-map}
use Rattle.std.proofs.lemmas.List.Elements.{All-append, All-weaker}
use Rattle.std.proofs.Math.Seq.{drop-append_seam}
use Rattle.dx_types.specs.declared.range.ResRange.{ResRange}
use Rattle.dx_types.specs.declared.refusal.Refusal.{Refusal}
use Rattle.dx_types.specs.declared.range.Span.{Span}
use Rattle.d3d_model.specs.D3dState.{Shader}
use Rattle.d3d_effects.specs.Listed.{cut_at}
use Rattle.d3d_plan.specs.Keeping.{Grows}
use Rattle.d3d_plan.specs.Planned.{Planned, part_of, refused_as}
use Rattle.d3d_plan.specs.Shown.{Holds, IsWithin, IsWithinOf, Shows, between, bound_in, calls_in, ends_in, parts_at, shown, shown_entry, span_of}
use Rattle.d3d_plan.specs.declared.entry.Entry.{Entry}
use Rattle.d3d_plan.specs.declared.tables.Piece.{Piece}
use Rattle.d3d_plan.specs.declared.tables.Tables.{Tables}

-- ---- pieces

-- more behind a table leaves a piece as it is
between_kept : {X : Type 0} (xs more : List X) (start end : ℕ) → start ≤ end → end ≤ length xs → between (xs ++ more) start end ≡ between xs start end
between_kept xs more start end ordered ends =
    let starts : start ≤ length xs = omega (arith, ordered, ends) in
    let fits : end - start ≤ length (drop start xs) = omega (arith, length-drop start xs, ends) in
    ap (take (end - start)) (drop-append-le start xs more starts) ∙ take-append-le (end - start) (drop start xs) more fits

-- what is appended
pub between_own : {X : Type 0} (xs more all : List X) (start end : ℕ) → all ≡ xs ++ more → start ≡ length xs → end ≡ length all → between all start end ≡ more
between_own xs more all start end is starts ends =
    ap (λ l. between l start end) is
    ∙ ap (λ n. take (end - start) (drop n (xs ++ more))) starts
    ∙ ap (take (end - start)) (drop-append_seam xs more)
    ∙ take_all (end - start) more (omega (arith, starts, ends, ap (λ l. length l) is, length-append xs more))

-- nothing from one place to itself
pub between_same : {X : Type 0} (xs : List X) (k : ℕ) → between xs k k ≡ []
between_same xs k = ap (λ n. take n (drop k xs)) (let z : k - k ≡ 0 = omega arith in z)

stays : {X : Type 0} (xs ys : List X) (start end : ℕ) → ((more : List X) × (ys ≡ xs ++ more)) → start ≤ end → end ≤ length xs → between ys start end ≡ between xs start end
stays xs ys start end grows ordered ends = ap (λ l. between l start end) grows.1 ∙ between_kept xs grows.0 start end ordered ends

longer : {X : Type 0} (xs ys : List X) → ((more : List X) × (ys ≡ xs ++ more)) → length xs ≤ length ys
longer xs ys grows = omega (arith, ap (λ l. length l) grows.1, length-append xs grows.0)

within_more : (t more : Tables) (p : Piece) → Grows t more → IsWithin t p → IsWithin more p
within_more t more p g w = record {
  ordered = w.ordered;
  ends = omega (arith, w.ends, longer t.ranges.items more.ranges.items g.ranges);
  listed = w.listed;
  calls = omega (arith, w.calls, longer t.calls.items more.calls.items g.calls);
  marks = omega (arith, w.marks, longer t.ends.items more.ends.items g.ends);
}

bound_stays : (t more : Tables) (p : Piece) → Grows t more → IsWithin t p → bound_in more p ≡ bound_in t p
bound_stays t more p g w = stays t.ranges.items more.ranges.items p.start p.end g.ranges w.ordered w.ends

calls_stay : (t more : Tables) (p : Piece) → Grows t more → IsWithin t p → calls_in more p ≡ calls_in t p
calls_stay t more p g w = stays t.calls.items more.calls.items p.first p.last g.calls w.listed w.calls

parts_stay : (t more : Tables) (p : Piece) → Grows t more → IsWithin t p → parts_at more p ≡ parts_at t p
parts_stay t more p g w =
    ap (λ (rs : List ResRange). cut_at 0 rs (ends_in more p)) (bound_stays t more p g w)
    ∙ ap (cut_at 0 (bound_in t p)) (stays t.ends.items more.ends.items p.first p.last g.ends w.listed w.marks)

pub holds_more : (t more : Tables) (p : Piece) (bound : List ResRange) (calls : List ℕ) (parts : List (List ResRange)) → Grows t more → Holds t p bound calls parts → Holds more p bound calls parts
holds_more t more p bound calls parts g h = record {
  within = within_more t more p g h.within;
  bound = bound_stays t more p g h.within ∙ h.bound;
  calls = calls_stay t more p g h.within ∙ h.calls;
  parts = parts_stay t more p g h.within ∙ h.parts;
}

-- the empty piece
pub holds_none : (t : Tables) (p : Piece) → p ≡ record { start = 0; end = 0; first = 0; last = 0 } → Holds t p [] [] []
unfolding cut_at
holds_none t p is = rw is (record {
  within = record { ordered = omega arith; ends = omega arith; listed = omega arith; calls = omega arith; marks = omega arith };
  bound = refl;
  calls = refl;
  parts = refl;
})

pub grows_not : (t : Tables) → Grows t t
grows_not t = record {
  ranges = ([], sym (append-nil t.ranges.items));
  calls = ([], sym (append-nil t.calls.items));
  ends = ([], sym (append-nil t.ends.items));
}

-- ---- entries

tail_of : {X : Type 0} (P : X → Type 0) (x : X) (xs : List X) → All P (x ∷ xs) → All P xs
tail_of P x xs all = λ k d below. all (suc k) d (omega (arith, below))

head_of : {X : Type 0} (P : X → Type 0) (x : X) (xs : List X) → All P (x ∷ xs) → P x
head_of P x xs all = all 0 x (omega arith)

abbrev entry_with : Entry → List ResRange → List ℕ → List (List ResRange) → Planned
entry_with e bound calls parts = record { verdict = e.verdict; last_use = e.last_use; bound = bound; calls = calls; parts = parts; words = option_map span_of e.words; shader = e.shader }

entry_stays : (t more : Tables) (e : Entry) → Grows t more → IsWithinOf t e → shown_entry more e ≡ shown_entry t e
entry_stays t more e g w = λ i. entry_with e (bound_stays t more e.piece g w i) (calls_stay t more e.piece g w i) (parts_stay t more e.piece g w i)

shown_stays : (t more : Tables) (entries : List Entry) → Grows t more → All (IsWithinOf t) entries → shown more entries ≡ shown t entries
shown_stays t more [] g within = refl
shown_stays t more (e ∷ es) g within =
    ap (λ (p : Planned). p ∷ shown more es) (entry_stays t more e g (head_of (IsWithinOf t) e es within))
    ∙ ap (λ (ps : List Planned). shown_entry t e ∷ ps) (shown_stays t more es g (tail_of (IsWithinOf t) e es within))

pub shows_grown : (t more : Tables) (entries : List Entry) (plan : List Planned) → Grows t more → Shows entries t plan → Shows entries more plan
shows_grown t more entries plan g shows = record {
  same = shown_stays t more entries g shows.within ∙ shows.same;
  within = All-weaker (IsWithinOf t) (IsWithinOf more) (λ e w. within_more t more e.piece g w) entries shows.within;
}

single : {X : Type 0} (P : X → Type 0) (x : X) → P x → All P (x ∷ [])
single P x p zero d below = p
single P x p (suc k) d below = absurd (omega (arith, below))

-- a plan with one more entry
pub shows_more : (entries : List Entry) (t : Tables) (plan : List Planned) (e : Entry) (p : Planned) → Shows entries t plan → IsWithinOf t e → shown_entry t e ≡ p
    → Shows (entries ++ e ∷ []) t (plan ++ p ∷ [])
shows_more entries t plan e p shows within is = record {
  same =
      map-append (shown_entry t) entries (e ∷ [])
      ∙ ap (λ (ps : List Planned). ps ++ shown_entry t e ∷ []) shows.same
      ∙ ap (λ (q : Planned). plan ++ q ∷ []) is;
  within = All-append (IsWithinOf t) entries (e ∷ []) shows.within (single (IsWithinOf t) e within);
}

-- a refused call
pub shown_refused : (t : Tables) (why : Refusal) (e : Entry) → e ≡ record { verdict = Some why; last_use = None; words = None; shader = None; piece = record { start = 0; end = 0; first = 0; last = 0 } }
    → (IsWithinOf t e) × (shown_entry t e ≡ refused_as why)
unfolding cut_at
shown_refused t why e is = rw is ((holds_none t (record { start = 0; end = 0; first = 0; last = 0 }) refl).within, refl)

-- an accepted one
pub shown_accepted : (t : Tables) (e : Entry) (use_ : Option ℕ) (bound : List ResRange) (calls : List ℕ) (parts : List (List ResRange)) (words : Option Span) (shader : Option Shader)
    → e.verdict ≡ None → e.last_use ≡ use_ → Holds t e.piece bound calls parts → option_map span_of e.words ≡ words → e.shader ≡ shader
    → shown_entry t e ≡ record { verdict = None; last_use = use_; bound = bound; calls = calls; parts = parts; words = words; shader = shader }
shown_accepted t e use_ bound calls parts words shader ev eu h ew es = λ i.
    record { verdict = ev i; last_use = eu i; bound = h.bound i; calls = h.calls i; parts = h.parts i; words = ew i; shader = es i }

-- ---- the ranges of an item

cut_none : (start : ℕ) (ranges : List ResRange) (ends : List ℕ) → length ends ≡ 0 → cut_at start ranges ends ≡ []
unfolding cut_at
cut_none start ranges [] e = refl
cut_none start ranges (x ∷ ends) e = absurd (omega (arith, e))

-- of a call without a list
pub part_whole : (p : Planned) (ends : List ℕ) (item : ℕ) → p.parts ≡ cut_at 0 p.bound ends → length ends ≡ 0 → item ≡ 0 → p.bound ≡ part_of p item
part_whole p ends item is none first = rw (is ∙ cut_none 0 p.bound ends none, first) refl

pub part_item : (p : Planned) (ends : List ℕ) (item : ℕ) → p.parts ≡ cut_at 0 p.bound ends → (length ends ≡ 0 → item ≡ 0 → ⊥) → slice_index_or (cut_at 0 p.bound ends) item [] ≡ part_of p item
unfolding cut_at
part_item p [] zero is apart = absurd (apart refl refl)
part_item p [] (suc k) is apart = rw is (sym (ap (λ (b : Bool). if b then p.bound else []) (ne_eqb (suc k) 0 (λ e. absurd (omega (arith, e))))))
part_item p (x ∷ ends) item is apart = rw is refl

got : {X Y : Type 0} (f : X → Y) (xs : List X) (i : ℕ) (x : X) → i < length xs → slice_get (map f xs) i ≡ Some (f (slice_index_or xs i x))
got f [] i x below = absurd (omega (arith, below))
got f (y ∷ ys) zero x below = refl
got f (y ∷ ys) (suc i) x below = got f ys i x (omega (arith, below))

-- what is shown of an entry
pub entry_shown : (plan : List Planned) (t : Tables) (es : List Entry) (n : ℕ) (e : Entry) → shown t es ≡ plan → 1 ≤ n → n ≤ length plan → e ≡ slice_index_or es (n - 1) e → slice_get plan (n - 1) ≡ Some (shown_entry t e)
entry_shown plan t es n e is first last at =
    let below : n - 1 < length es = omega (arith, first, last, ap (λ (l : List Planned). length l) is, length-map es (shown_entry t)) in
    ap (λ (l : List Planned). slice_get l (n - 1)) (sym is) ∙ got (shown_entry t) es (n - 1) e below ∙ ap (λ (k : Entry). Some (shown_entry t k)) (sym at)
