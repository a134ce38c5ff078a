-- A log that is all that the checks of the calls make sure of.
use Rattle.std.proofs.Common.{◌≡◌, ℕ, ◌+◌, ◌<◌, ◌≤◌, Bool, true, false, List, [], ◌∷◌, ◌++◌, refl, sym, ap, ◌∙◌}
use Rattle.std.proofs.Common.{subst, Some, None, arith, append_assoc, append-nil}
use Rattle.std.specs.List.{AllByRecursion}
use Rattle.dx_types.specs.declared.range.Range.{Range}
use Rattle.vk_types.specs.Hazards.{is_touched}
use Rattle.vk_types.specs.Effects.{Meaning}
use Rattle.core_model.specs.Script.{Stage, Turn, Refused, Passed, Flushed, Asked, Item, Script, at_start, in_order}
use Rattle.core_model.specs.Chunking.{call_of, ends_call}
use Rattle.core_model.specs.Owners.{in_ranges}
use Rattle.core_model.specs.Lawful.{play_touches, play_shaders, ClassFits, FewLive, UsesRightly, ComesNext}
use Rattle.core_model.specs.Lawful.{AsksRightly, Fits, PlaysRightly, may_bind, IsLawful}
use Rattle.core_model.specs.Formed.{PlayIsFormed}
use Rattle.core_model.specs.OtherParts.{created, is_among}
use Rattle.dx_types.specs.declared.limits.TheConstants.{MAX_BUFFER_SIZE}
use Rattle.core_model.specs.WorkedLogs.{no_shaders, sixteen, all_of, buffer, copy, update_copy_map}

-- what holds at each turn, of the turns before it and behind it
abbrev pub AtEach : (List Turn → Turn → List Turn → Type 0) → List Turn → List Turn → Type 0
AtEach P pre [] = Unit {0}
AtEach P pre (t ∷ ts) = P pre t ts × AtEach P (pre ++ t ∷ []) ts

pub at_turn : (P : List Turn → Turn → List Turn → Type 0) (pre turns : List Turn) → AtEach P pre turns
    → (front : List Turn) (t : Turn) (back : List Turn) → turns ≡ front ++ t ∷ back → P (pre ++ front) t back
at_turn P pre [] h [] t back e = absurd (cc e)
at_turn P pre [] h (f ∷ front) t back e = absurd (cc e)
at_turn P pre (x ∷ xs) h [] t back e =
    let s : x ≡ t = cc e in
    let r : xs ≡ back = cc e in
    subst (λ l. P l t back) (sym (append-nil pre)) (subst (λ t. P pre t back) s (subst (λ b. P pre x b) r h.0))
at_turn P pre (x ∷ xs) h (f ∷ front) t back e =
    let s : x ≡ f = cc e in
    subst (λ l. P l t back) (append_assoc pre (x ∷ []) front
    ∙ ap (λ y. pre ++ y ∷ front) s) (at_turn P (pre ++ x ∷ []) xs h.1 front t back (cc e))

-- each field by cases on the turn
abbrev pub Calls : List Turn → Turn → List Turn → Type 0
Calls front t back = (0 < call_of t) × ((u : Turn) (others : List Turn) → back ≡ u ∷ others → ComesNext t u)
    × (back ≡ [] → ends_call t ≡ true)

abbrev pub Uses : Meaning → Script → List Turn → Turn → List Turn → Type 0
Uses meaning script front (Refused call) back = Unit {0}
Uses meaning script front (Passed call) back = Unit {0}
Uses meaning script front (Flushed call) back = Unit {0}
Uses meaning script front (Asked call ask used may_pend) back = UsesRightly front call ask used
    × AsksRightly meaning script front ask
Uses meaning script front (Item call item ends play bound) back = Unit {0}

abbrev pub Items : Meaning → Script → List Turn → Turn → List Turn → Type 0
Items meaning script front (Refused call) back = Unit {0}
Items meaning script front (Passed call) back = Unit {0}
Items meaning script front (Flushed call) back = Unit {0}
Items meaning script front (Asked call ask used may_pend) back = Unit {0}
Items meaning script front (Item call item ends play bound) back =
    PlaysRightly meaning script front call play
    × AllByRecursion (λ r. Fits meaning script front r × (r.from < r.to)) bound
    × ((b i : ℕ) → is_touched (play_touches play) b i ≡ true → in_ranges bound b i ≡ true)
    × AllByRecursion (λ t. t.range.from < t.range.to) (play_touches play)
    × (may_bind play ≡ false → bound ≡ [])
    × PlayIsFormed play
    × AllByRecursion (λ shader. is_among shader (created front) ≡ true) (play_shaders play)

-- so a script is lawful
pub lawful_by : (meaning : Meaning) (script : Script) → AtEach Calls [] script.turns
    → AtEach (Uses meaning script) [] script.turns → AtEach (Items meaning script) [] script.turns
    → ((buffer : ℕ) → script.size buffer ≤ MAX_BUFFER_SIZE)
    → ((buffer : ℕ) → ClassFits script buffer (script.class buffer))
    → ((buffer : ℕ) → script.is_staging buffer ≡ true → script.class buffer ≡ None)
    → ((front back : List Turn) → script.turns ≡ front ++ back
    → FewLive script (in_order meaning script front at_start).live) → IsLawful meaning script
lawful_by meaning script calls uses items sizes classes staging few =
    let ts = script.turns in
    let U = Uses meaning script in
    let I = Items meaning script in
    record {
      numbers = λ front t back e. (at_turn Calls [] ts calls front t back e).0;
      calls = λ front t u back e. (at_turn Calls [] ts calls front t (u ∷ back) e).1 u back refl;
      ends = λ front t e. (at_turn Calls [] ts calls front t [] e).2 refl;
      uses = λ front call ask used may_pend back e. (at_turn U [] ts uses front (Asked call ask used may_pend) back
          e).0;
      asks = λ front call ask used may_pend back e. (at_turn U [] ts uses front (Asked call ask used may_pend) back
          e).1;
      plays = λ front call item ends play bound back e. (at_turn I [] ts items front
          (Item call item ends play bound) back e).0;
      fits = λ front call item ends play bound back e. (at_turn I [] ts items front (Item call item ends play bound)
          back e).1;
      binds = λ front call item ends play bound back e. (at_turn I [] ts items front
          (Item call item ends play bound) back e).2;
      filled = λ front call item ends play bound back e. (at_turn I [] ts items front
          (Item call item ends play bound) back e).3;
      quiet = λ front call item ends play bound back e. (at_turn I [] ts items front
          (Item call item ends play bound) back e).4;
      formed = λ front call item ends play bound back e. (at_turn I [] ts items front
          (Item call item ends play bound) back e).5;
      shaders = λ front call item ends play bound back e. (at_turn I [] ts items front
          (Item call item ends play bound) back e).6;
      sizes = sizes;
      classes = classes;
      staging = staging;
      few = few;
    }

-- where no buffer has a class, few of a class live
pub none_live : (script : Script) (live : ℕ → Bool) → ((buffer : ℕ) → script.class buffer ≡ None) → FewLive script live
none_live script live none class [] apart h = omega arith
none_live script live none class (b ∷ bs) apart h = let l = h.0.1 in
    absurd (let z : None ≡ Some class = sym (none b) ∙ l in cc z)

-- An update, a copy, a read -----------------------------------------------------------------------------------------

-- its update
abbrev update : Turn
update = Item 3 3 true (Stage sixteen (Some (all_of 1)) None) (all_of 1 ∷ [])

-- a call that ends is followed by a later one
pub rises : (m n : ℕ) (t v u : Turn) (others rest : List Turn) → ends_call t ≡ true → m < n → call_of t ≡ m
    → call_of v ≡ n → v ∷ rest ≡ u ∷ others → ComesNext t u
rises m n t v u others rest ends less a b e =
    let l : call_of t < call_of v = omega (arith, less, a, b) in let s : v ≡ u = cc e in
    subst (ComesNext t) s ((λ h. l), (λ h. absurd (let z : true ≡ false = sym ends ∙ h in cc z)))

calls : AtEach Calls [] update_copy_map.turns
calls = (
  ((omega arith), (λ u o e. rises 1 2 (buffer 1 []) _ u o _ refl (omega arith) refl refl e), (λ e. absurd (cc e))),
  (
    ((omega arith), (λ u o e. rises 2 3 (buffer 2 []) _ u o _ refl (omega arith) refl refl e), (λ e. absurd (cc e))),
    (
      ((omega arith), (λ u o e. rises 3 4 update _ u o _ refl (omega arith) refl refl e), (λ e. absurd (cc e))),
      (
        ((omega arith), (λ u o e. rises 4 5 (copy 4 2 1) _ u o _ refl (omega arith) refl refl e), (λ e. absurd (cc e))),
        (((omega arith), (λ u o e. absurd (cc e)), (λ e. refl)), tt),
      ),
    ),
  ),
)

uses : AtEach (Uses no_shaders update_copy_map) [] update_copy_map.turns
uses = (tt, (tt, (tt, (tt, ((refl, ((refl, (omega arith)), refl, (omega arith))), tt)))))

staged_to : (r : Range) → Some (all_of 1) ≡ Some r → r.to ≡ r.from + 16
staged_to r e = let s : all_of 1 ≡ r = cc e in subst (λ r. r.to ≡ r.from + 16) s refl

items : AtEach (Items no_shaders update_copy_map) [] update_copy_map.turns
items = (
  ((refl, (omega arith), refl), tt, (λ b i h. absurd (cc h)), tt, (λ h. refl), tt, tt),
  (
    ((refl, (omega arith), refl), tt, (λ b i h. absurd (cc h)), tt, (λ h. refl), tt, tt),
    (
      (
        ((omega arith), staged_to),
        (((refl, (omega arith)), (omega arith)), tt),
        (λ b i h. h),
        ((omega arith), tt),
        (λ h. absurd (cc h)),
        tt,
        tt,
      ),
      (
        (
          tt,
          (((refl, (omega arith)), (omega arith)), (((refl, (omega arith)), (omega arith)), tt)),
          (λ b i h. h),
          ((omega arith), ((omega arith), tt)),
          (λ h. absurd (cc h)),
          (refl, tt),
          tt,
        ),
        (tt, tt),
      ),
    ),
  ),
)

pub update_copy_map_lawful : IsLawful no_shaders update_copy_map
update_copy_map_lawful =
    lawful_by no_shaders update_copy_map calls uses items (λ buffer. omega arith) (λ buffer. tt) (λ buffer h. refl)
    (λ front back e. none_live update_copy_map _ (λ b. refl))
