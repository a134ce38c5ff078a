-- The bytes of a log have one list of records, and one first fault if they are no log.
use Rattle.std.proofs.Common.{◌≡◌, ℕ, zero, suc, ◌+◌, ◌*◌, ◌/◌, ◌%◌, ◌^◌, ◌<◌, Bool, true, false, cond, not, ◌||◌, eqb, ltb, List, [], ◌∷◌, ◌++◌, length, take, drop, Option, Some, None, refl, sym, ap, ◌∙◌, append_assoc, arith, inl, inr}
use Rattle.std.specs.List.{flat_map, AllByRecursion}
use Rattle.std.specs.Option.{is_some}
use Rattle.std.proofs.lemmas.List.{length-append, take_at, drop_at}
use Rattle.std.proofs.lemmas.List.Concat.{flat_map-cons}
use Rattle.std.proofs.lemmas.Bool.{le-ltb}
use Rattle.std.proofs.lemmas.Bool.Decides.{nat_tests}
use Rattle.byteorder.specs.Endian.{little_number}
use Rattle.call_log.specs.declared.fault.LogFault.{LogFault}
use Rattle.call_log.specs.declared.fault.LogKind.TheVariants.{Magic, Version, Truncated}
use Rattle.call_log.specs.declared.fault.Head.{Head}
use Rattle.call_log.specs.declared.fault.Head.TheVariants.{Whole, End, Broken}
use Rattle.call_log.specs.declared.kinds.Layout.{Layout}
use Rattle.call_log.specs.Kinds.{kind_numbered}
use Rattle.call_log.specs.Body.{layout, fits, fits_known}
use Rattle.call_log.specs.Grammar.{Frame, IsFrame, IsLog, IsFault, IsFaultAfter, header_fault, spell, header, end_record, head_at, is_kind, kind_of, context_of, length_of, body_of, frame_at}

two_back : (n : ℕ) → n < 2 ^ 16 → n % 256 + 256 * ((n / 256) % 256 + 256 * 0) ≡ n
two_back n lt = omega arith

pub four_back : (n : ℕ) → n < 2 ^ 32 → n % 256 + 256 * ((n / 256) % 256 + 256 * ((n / 65536) % 256 + 256 * ((n / 16777216) % 256 + 256 * 0))) ≡ n
four_back n lt = omega arith

-- what a record's bytes say, whatever stands behind them
pub record Says (f : Frame) (rest : List ℕ) : Type 0 where
  pub kind : kind_of (spell f ++ rest) ≡ f.kind
  pub context : context_of (spell f ++ rest) ≡ f.context
  pub size : length_of (spell f ++ rest) ≡ length f.body
  pub behind : drop 8 (spell f ++ rest) ≡ f.body ++ rest

pub says : (f : Frame) (rest : List ℕ) → IsFrame f → Says f rest
says f rest h = record { kind = two_back f.kind h.kind_fits; context = two_back f.context h.context_fits; size = four_back (length f.body) h.body_fits; behind = refl }

pub frame_back : (f : Frame) (rest : List ℕ) → IsFrame f → frame_at (spell f ++ rest) ≡ f
frame_back f rest h =
    let s = says f rest h in
    let body : body_of (spell f ++ rest) ≡ f.body = ap (λ (n : ℕ). take n (f.body ++ rest)) s.size ∙ take_at f.body rest (length f.body) refl in
    λ i. record { kind = s.kind i; context = s.context i; body = body i }

pub rest_back : (f : Frame) (rest : List ℕ) → IsFrame f → drop (length_of (spell f ++ rest)) (drop 8 (spell f ++ rest)) ≡ rest
rest_back f rest h = ap (λ (n : ℕ). drop n (f.body ++ rest)) (says f rest h).size ∙ drop_at f.body rest (length f.body) refl

-- no record's bytes begin another's
pub spell_front : (f g : Frame) (x y : List ℕ) → IsFrame f → IsFrame g → spell f ++ x ≡ spell g ++ y → (f ≡ g) × (x ≡ y)
spell_front f g x y p q e = (
  sym (frame_back f x p) ∙ ap frame_at e ∙ frame_back g y q,
  sym (rest_back f x p) ∙ ap (λ (l : List ℕ). drop (length_of l) (drop 8 l)) e ∙ rest_back g y q,
)

by_tests : (a b k c d e : Bool) (f g j h i : Head) → a ≡ false → b ≡ false → not k ≡ false → c ≡ false → d ≡ false → e ≡ true → cond a f (cond b g (cond (not k) j (cond c g (cond d h (cond e Whole i))))) ≡ Whole
by_tests a b k c d e f g j h i pa pb pk pc pd pe = rw (pa, pb, pk, pc, pd, pe) refl

-- what fits is of a known kind, and that is not the end's
known_layout : (shape : Option Layout) (body : List ℕ) → fits_known shape body ≡ true → is_some shape ≡ true
known_layout None body e = absurd cc
known_layout (Some shape) body e = refl

either : (b : Bool) → not (b || true) ≡ false
either true = refl
either false = refl

known : (b c : Bool) → c ≡ true → not (b || c) ≡ false
known b c e = rw e (either b)

no_end : (kind : ℕ) (body : List ℕ) → fits kind body ≡ true → eqb kind 0 ≡ false
unfolding kind_numbered
no_end zero body e = absurd cc
no_end (suc kind) body e = grind (arith, nat_tests)

pub head_spell : (p : ℕ) (f : Frame) (rest : List ℕ) → IsFrame f → head_at p (spell f ++ rest) ≡ Whole
unfolding head_at
head_spell p f rest h =
    let s = says f rest h in
    let all : List ℕ = spell f ++ rest in
    let len : length all ≡ 8 + (length f.body + length rest) = omega (arith, length-append f.body rest) in
    let a : eqb (length all) 0 ≡ false = grind (arith, nat_tests) in
    let b : ltb (length all) 8 ≡ false = grind (arith, nat_tests) in
    let c : ltb (length all) (8 + length_of all) ≡ false = rw s.size (grind (arith, nat_tests)) in
    let e : fits (kind_of all) (body_of all) ≡ true = ap (λ (x : Frame). fits x.kind x.body) (frame_back f rest h) ∙ h.whole in
    let d : eqb (kind_of all) 0 ≡ false = no_end (kind_of all) (body_of all) e in
    let k : not (is_kind (kind_of all)) ≡ false = known (eqb (kind_of all) 0) (is_some (layout (kind_of all))) (known_layout (layout (kind_of all)) (body_of all) e) in
    by_tests (eqb (length all) 0) (ltb (length all) 8) (is_kind (kind_of all)) (ltb (length all) (8 + length_of all)) (eqb (kind_of all) 0) (fits (kind_of all) (body_of all)) _ _ _ _ _ a b k c d e

pub head_end : (p : ℕ) → head_at p end_record ≡ End
unfolding head_at
head_end p = refl

pub whole_not_broken : (d : LogFault) → Whole ≡ Broken d → ⊥
whole_not_broken d e = cc

pub end_not_broken : (d : LogFault) → End ≡ Broken d → ⊥
end_not_broken d e = cc

pub whole_not_end : Whole ≡ End → ⊥
whole_not_end e = cc

same_broken : (d e : LogFault) → Broken d ≡ Broken e → d ≡ e
same_broken d e p = cc

-- no record stands in front
pub record Stops (x : List ℕ) : Type 0 where
  pub place : ℕ
  pub none : head_at place x ≡ Whole → ⊥

more : (f : Frame) (fs : List Frame) (x : List ℕ) → flat_map spell (f ∷ fs) ++ x ≡ spell f ++ (flat_map spell fs ++ x)
more f fs x = ap (λ (l : List ℕ). l ++ x) (flat_map-cons spell f fs) ∙ append_assoc (spell f) (flat_map spell fs) x

not_stopped : (x : List ℕ) (g : Frame) (gs : List Frame) (y : List ℕ) → Stops x → IsFrame g → x ≡ flat_map spell (g ∷ gs) ++ y → ⊥
not_stopped x g gs y stop is e = stop.none (ap (head_at stop.place) (e ∙ more g gs y) ∙ head_spell stop.place g (flat_map spell gs ++ y) is)

-- two readings of the same bytes are one
pub one_front : (fs gs : List Frame) (x y : List ℕ) → AllByRecursion IsFrame fs → AllByRecursion IsFrame gs → Stops x → Stops y → flat_map spell fs ++ x ≡ flat_map spell gs ++ y → (fs ≡ gs) × (x ≡ y)
one_front [] [] x y p q sx sy e = (refl, e)
one_front [] (g ∷ gs) x y p q sx sy e = absurd (not_stopped x g gs y sx q.0 e)
one_front (f ∷ fs) [] x y p q sx sy e = absurd (not_stopped y f fs x sy p.0 (sym e))
one_front (f ∷ fs) (g ∷ gs) x y p q sx sy e =
    let first = spell_front f g (flat_map spell fs ++ x) (flat_map spell gs ++ y) p.0 q.0 (sym (more f fs x) ∙ e ∙ more g gs y) in
    let others = one_front fs gs x y p.1 q.1 sx sy first.1 in
    (λ i. first.0 i ∷ others.0 i, others.1)

end_stops : Stops end_record
end_stops = record { place = 0; none = λ e. whole_not_end (sym e ∙ head_end 0) }

broken_stops : (p : ℕ) (x : List ℕ) (d : LogFault) → head_at p x ≡ Broken d → Stops x
broken_stops p x d h = record { place = p; none = λ e. whole_not_broken d (sym e ∙ h) }

behind : (a b : List ℕ) → header ++ a ≡ header ++ b → a ≡ b
behind a b e = ap (λ (l : List ℕ). drop 8 l) e

pub one_log : (bytes : List ℕ) (fs gs : List Frame) → IsLog bytes fs → IsLog bytes gs → fs ≡ gs
one_log bytes fs gs p q = (one_front fs gs end_record end_record p.each q.each end_stops end_stops (behind _ _ (sym p.spelled ∙ q.spelled))).0

no_fault_behind : (bytes : List ℕ) (fs : List Frame) (d : LogFault) → IsLog bytes fs → IsFaultAfter bytes d → ⊥
no_fault_behind bytes fs d p q =
    let same = one_front fs q.frames end_record q.rest p.each q.each end_stops (broken_stops _ q.rest d q.broken) (behind _ _ (sym p.spelled ∙ q.spelled)) in
    end_not_broken d (sym (head_end _) ∙ ap (head_at (8 + length (flat_map spell q.frames))) same.1 ∙ q.broken)

none_not_some : (d : LogFault) → None ≡ Some d → ⊥
none_not_some d e = cc

three_tests : (a b c : Bool) (d e f : LogFault) → a ≡ false → b ≡ false → c ≡ false → cond a (Some d) (cond b (Some e) (cond c (Some f) None)) ≡ None
three_tests a b c d e f p q r = rw (p, q, r) refl

or_false : (a b : Bool) → a ≡ false → b ≡ false → a || b ≡ false
or_false a b p q = rw (p, q) refl

header_good : (z : List ℕ) → header_fault (header ++ z) ≡ None
unfolding header_fault
header_good z =
    let a : ltb (length (header ++ z)) 4 ≡ false = le-ltb _ _ (omega arith) in
    let b : ltb (length (header ++ z)) 8 ≡ false = le-ltb _ _ (omega arith) in
    three_tests (ltb (length (header ++ z)) 4 || not (eqb (little_number 4 (header ++ z)) 827077444)) (ltb (length (header ++ z)) 8) (not (eqb (little_number 4 (drop 4 (header ++ z))) 1))
    (record { at = 0; kind = Magic }) (record { at = 4; kind = Truncated }) (record { at = 4; kind = Version })
    (or_false (ltb (length (header ++ z)) 4) (not (eqb (little_number 4 (header ++ z)) 827077444)) a refl) b refl

no_header_fault : (bytes z : List ℕ) (d : LogFault) → bytes ≡ header ++ z → header_fault bytes ≡ Some d → ⊥
no_header_fault bytes z d is e = none_not_some d (sym (header_good z) ∙ ap header_fault (sym is) ∙ e)

pub no_fault : (bytes : List ℕ) (fs : List Frame) (d : LogFault) → IsLog bytes fs → IsFault bytes d → ⊥
no_fault bytes fs d p (inl h) = no_header_fault bytes _ d p.spelled h
no_fault bytes fs d p (inr q) = no_fault_behind bytes fs d p q

same_some : (d e : LogFault) → Some d ≡ Some e → d ≡ e
same_some d e p = cc

behind_once : (bytes : List ℕ) (d e : LogFault) → IsFaultAfter bytes d → IsFaultAfter bytes e → d ≡ e
behind_once bytes d e p q =
    let same = one_front p.frames q.frames p.rest q.rest p.each q.each (broken_stops _ p.rest d p.broken) (broken_stops _ q.rest e q.broken) (behind _ _ (sym p.spelled ∙ q.spelled)) in
    same_broken d e (sym p.broken ∙ ap (λ (fs : List Frame). head_at (8 + length (flat_map spell fs)) p.rest) same.0 ∙ ap (head_at (8 + length (flat_map spell q.frames))) same.1 ∙ q.broken)

pub one_fault : (bytes : List ℕ) (d e : LogFault) → IsFault bytes d → IsFault bytes e → d ≡ e
one_fault bytes d e (inl p) (inl q) = same_some d e (sym p ∙ q)
one_fault bytes d e (inl p) (inr q) = absurd (no_header_fault bytes _ d q.spelled p)
one_fault bytes d e (inr p) (inl q) = absurd (no_header_fault bytes _ e p.spelled q)
one_fault bytes d e (inr p) (inr q) = behind_once bytes d e p q
