-- A completion can be finished wherever the posts have a place: each block that goes home finds a vacant place of its
-- class.
use Rattle.std.proofs.Common.{◌≡◌, ℕ, zero, suc, ◌+◌, ◌*◌, ◌/◌, ◌<◌, ◌≤◌, Bool, true, false, cond, ◌==◌, List, []}
use Rattle.std.proofs.Common.{◌∷◌, ◌++◌, length, map, refl, sym, ap, ◌∙◌, subst, inl, inr, ◌⊎◌, Option, Some, None}
use Rattle.std.proofs.Common.{slice_get, slice_set, arith, append_assoc}
use Rattle.std.specs.List.{AllByRecursion}
use Rattle.std.proofs.lemmas.Bool.{cases_Bool, eqb-true, eqb-false, eq-eqb}
use Rattle.base_lemmas.specs.Lists.{Pairwise, numbers_from}
use Rattle.vk_types.specs.Effects.{Meaning}
use Rattle.base_lemmas.proofs.Lists.{all_front, all_back, all_both, all_map}
use Rattle.vk_types.specs.declared.message.Placed.{Placed}
use Rattle.core_model.specs.Script.{Script, updated}
use Rattle.core_model.specs.CoreState.{Message, Owner, Unmade, Home, Returning, Spare, Live, Retired, Paged, Dropped}
use Rattle.core_model.specs.CoreState.{has_class, Core, of_messages, of_running, finished_count, marks}
use Rattle.core_model.specs.Readings.{First_choices, has_place}
use Rattle.core_model.specs.Owners.{finish_owner}
use Rattle.core_model.specs.CoreStep.{Finish, Come_home, Step, first_vacant, AllComeHome, CoreStep}
use Rattle.core_model.specs.OtherParts.{is_among}
use Rattle.core_model.specs.Succession.{only_class}
use Rattle.core_model.specs.Lawful.{IsLawful}
use Rattle.core_model.specs.Invariant.{handed}
use Rattle.core_model.specs.Kept.{PlacesRight}
use Rattle.core_model.specs.Marked.{IsReturning}
use Rattle.core_model.proofs.Steps.Binding.{or_left, or_right}
use Rattle.core_model.proofs.Blocks.BlocksEnough.{no_longer}
use Rattle.core_model.proofs.Blocks.HomeComing.{homes}
use Rattle.core_model.proofs.Messages.Placements.{places_of, places_of_append}
use Rattle.core_model.proofs.Ends.MarkedOnce.{Differs, marks_at}
use Rattle.core_model.proofs.Ends.Progress.{AreLong}
use Rattle.core_model.proofs.Ends.CoreReached.{Based, based_step}

-- Places ------------------------------------------------------------------------------------------------------------

-- a list of places has a vacant one, or a block in each
find_vacant : (at : ℕ) (ps : List (Option ℕ)) → ((j : ℕ) × (first_vacant at ps ≡ Some (at + j))
    × (slice_get ps j ≡ Some None)) ⊎ ((bs : List ℕ) × (ps ≡ map Some bs))
find_vacant at [] = inr ([], refl)
find_vacant at (None ∷ ps) = inl (0, (let z : at ≡ at + 0 = omega arith in ap Some z), refl)
find_vacant at (Some b ∷ ps) = elim (find_vacant (suc at) ps) [
  | inl x ↦ inl (suc x.0, x.1 ∙ (let z : suc at + x.0 ≡ at + suc x.0 = omega arith in ap Some z), x.2)
  | inr x ↦ inr (b ∷ x.0, ap (λ l. Some b ∷ l) x.1)
]

length_map : {A B : Type 0} (f : A → B) (xs : List A) → length (map f xs) ≡ length xs
length_map f [] = refl
length_map f (x ∷ xs) = ap suc (length_map f xs)

-- what holds of the block at each place holds of each block
at_places : (P : ℕ → Type 0) (bs : List ℕ) → ((j b : ℕ) → slice_get (map Some bs) j ≡ Some (Some b) → P b)
    → AllByRecursion P bs
at_places P [] f = tt
at_places P (b ∷ bs) f = (f 0 b refl, at_places P bs (λ j c e. f (suc j) c e))

apart_places : (bs : List ℕ) → ((p q b : ℕ) → slice_get (map Some bs) p ≡ Some (Some b)
    → slice_get (map Some bs) q ≡ Some (Some b) → p ≡ q) → Pairwise Differs bs
apart_places [] f = tt
apart_places (b ∷ bs) f = (
  at_places (Differs b) bs (λ j c e same. let z : 0 ≡ suc j = f 0 (suc j) c (ap (λ b. Some (Some b)) same) e in cc z),
  apart_places bs (λ p q c e g. let z : suc p ≡ suc q = f (suc p) (suc q) c e g in cc z),
)

-- the numbers of a class
in_numbers : (from n b : ℕ) → from ≤ b → b < from + n → is_among b (numbers_from from n) ≡ true
in_numbers from zero b l u = absurd (omega (arith, l, u))
in_numbers from (suc n) b l u = elim (cases_Bool (from == b)) [
  | inl t ↦ or_left (from == b) (is_among b (numbers_from (suc from) n)) t
  | inr f ↦ or_right (from == b) (is_among b (numbers_from (suc from) n))
      (in_numbers (suc from) n b (let z = eqb-false from b f in omega (arith, l, z)) (omega (arith, u)))
]

length_numbers : (from n : ℕ) → length (numbers_from from n) ≡ n
length_numbers from zero = refl
length_numbers from (suc n) = ap suc (length_numbers (suc from) n)

class_all : (P : ℕ → Type 0) (bs : List ℕ) → AllByRecursion P bs → AllByRecursion P (only_class bs)
class_all P [] h = tt
class_all P (b ∷ bs) h = by (has_class b) (class_all P bs h.1)
  where
    by : (c : Bool) → AllByRecursion P (only_class bs) → AllByRecursion P (cond c (b ∷ only_class bs) (only_class bs))
    by true r = (h.0, r)
    by false r = r

all_among : (bs : List ℕ) (P : ℕ → Type 0) → ((b : ℕ) → is_among b bs ≡ true → P b) → AllByRecursion P bs
all_among [] P f = tt
all_among (b ∷ bs) P f = (
  f b (or_left (b == b) (is_among b bs) (eq-eqb b b refl)),
  all_among bs P (λ c h. f c (or_right (b == c) (is_among c bs) h)),
)

-- Owners ------------------------------------------------------------------------------------------------------------

abbrev pub Away : Owner → Type 0
Away o = (k : ℕ) × (o ≡ Returning k)

returning_away : (n : ℕ) (o : Owner) → IsReturning n o → Away o
returning_away n Unmade h = absurd h
returning_away n (Home k) h = absurd h
returning_away n (Returning k) h = (k, refl)
returning_away n Spare h = absurd h
returning_away n (Live buffer since bound) h = absurd h
returning_away n (Retired k since bound) h = absurd h
returning_away n (Paged k since bound) h = absurd h
returning_away n Dropped h = absurd h

-- a block that is on its way finds a place
pub place_for : (old : Core) → PlacesRight old.board old.pool old.owner old.fence → AreLong old.board
    → (b class : ℕ) → class * 64 ≤ b → b < class * 64 + 64 → Away (old.owner b)
    → (place : ℕ) × (first_vacant 0 (old.board.places class) ≡ Some place)
    × (slice_get (old.board.places class) place ≡ Some None)
place_for old p lengths b class low high away = elim (find_vacant 0 (old.board.places class)) [
  | inl x ↦ (x.0, x.1 ∙ (let z : 0 + x.0 ≡ x.0 = omega arith in ap Some z), x.2)
  | inr x ↦
      let bs = x.0 in
      let at : (j c : ℕ) → slice_get (map Some bs) j ≡ Some (Some c)
      → slice_get (old.board.places class) j ≡ Some (Some c) = λ j c e. ap (λ l. slice_get l j) x.1 ∙ e in
      let others : AllByRecursion (Differs b) bs =
      at_places (Differs b) bs (λ j c e same. let h = p.home class j c (at j c e) in
      let z : Returning away.0 ≡ Home h.2 = sym away.1 ∙ ap old.owner same ∙ h.3 in cc z) in
      let all : Pairwise Differs (b ∷ bs) =
      (others, apart_places bs (λ i j c e f. p.apart class i j c (at i c e) (at j c f))) in
      let within : AllByRecursion (λ c. is_among c (numbers_from (class * 64) 64) ≡ true) (b ∷ bs) = (
        in_numbers (class * 64) 64 b low high,
        at_places (λ c. is_among c (numbers_from (class * 64) 64) ≡ true) bs
            (λ j c e. let h = p.home class j c (at j c e) in in_numbers (class * 64) 64 c h.0 h.1),
      ) in
      let many = no_longer (b ∷ bs) (numbers_from (class * 64) 64) all within in
      let count = length_numbers (class * 64) 64 in
      let long = lengths class in
      let same : length (old.board.places class) ≡ length bs = ap length x.1 ∙ length_map Some bs in
      absurd (omega (arith, many, count, long, same))
]

module _ (meaning : Meaning) (script : Script) (lawful : IsLawful meaning script) where
  -- so all come home
  abbrev Comes : List ℕ → Core → Type 0
  Comes bs old = (new : Core) × AllComeHome meaning script bs old new

  all_home : (bs : List ℕ) (old : Core) → Based meaning script lawful old → Pairwise Differs (only_class bs)
      → AllByRecursion (λ b. Away (old.owner b)) (only_class bs) → Comes bs old
  all_home [] old base once away = (old, refl)
  all_home (b ∷ bs) old base once away = by (has_class b) refl once away (λ mid m o a. all_home bs mid m o a)
    where
      after : (k class place : ℕ) → Core
      after k class place = record old {
        owner = updated b (Home k) old.owner;
        board = record old.board {
          places = updated class (slice_set (old.board.places class) place (Some b))
              old.board.places;
        };
      }

      stay : (k class place c : ℕ) → (b ≡ c → ⊥) → Away (old.owner c) → Away ((after k class place).owner c)
      stay k class place c n w =
          let other : (c == b) ≡ false = elim (cases_Bool (c == b))
          [ inl t ↦ absurd (n (sym (eqb-true c b t))) | inr f ↦ f ] in
          (w.0, ap (λ x. cond x (Home k) (old.owner c)) other ∙ w.1)

      by : (c : Bool) → has_class b ≡ c → Pairwise Differs (cond c (b ∷ only_class bs) (only_class bs))
          → AllByRecursion (λ b. Away (old.owner b)) (cond c (b ∷ only_class bs) (only_class bs))
          → ((mid : Core) → Based meaning script lawful mid → Pairwise Differs (only_class bs)
          → AllByRecursion (λ b. Away (mid.owner b)) (only_class bs) → (new : Core)
          × AllComeHome meaning script bs mid new)
          → (new : Core) × AllComeHome meaning script (b ∷ bs) old new
      by false e o a rec = let r = rec old base o a in (r.0, inl (e, r.1))
      by true e o a rec =
          let class = b / 64 in
          let low : class * 64 ≤ b = omega arith in
          let high : b < class * 64 + 64 = omega arith in
          let p = place_for old base.holds.0.beside.places base.progress.long b class low high a.0 in
          let k = a.0.0 in
          let mid = after k class p.0 in
          let step : Step meaning First_choices script old (Come_home b p.0) mid =
          (class, k, a.0.1, low, high, p.2, refl) in
          let r = rec mid (based_step meaning script lawful old (Come_home b p.0) mid step base) o.1
          (all_map (λ c. Differs b c × Away (old.owner c)) (λ c. Away (mid.owner c))
          (λ c h. stay k class p.0 c h.0 h.1) (only_class bs)
          (all_both (Differs b) (λ c. Away (old.owner c)) (only_class bs) o.0 a.1)) in
          (r.0, inr (e, class, p.0, low, high, p.1, mid, step, r.1))

  class_apart : (bs : List ℕ) → Pairwise Differs bs → Pairwise Differs (only_class bs)
  class_apart [] h = tt
  class_apart (b ∷ bs) h = by (has_class b) (class_apart bs h.1) (class_all (Differs b) bs h.0)
    where
      by : (c : Bool) → Pairwise Differs (only_class bs) → AllByRecursion (Differs b) (only_class bs)
          → Pairwise Differs (cond c (b ∷ only_class bs) (only_class bs))
      by true r a = (a, r)
      by false r a = r

  -- the oldest completion is finished
  pub finish_goes : (old : Core) → Based meaning script lawful old → old.ended ≡ false
      → (m : Message) (ms : List Message) → old.completions ≡ m ∷ ms
      → has_place First_choices (length old.posts) ≡ true
      → (new : Core) × CoreStep meaning script old Finish new
  finish_goes old base goes_on m ms e room =
      let n = suc (finished_count old) in
      let mid : Core = record old {
        completions = ms;
        posts = old.posts ++ m ∷ [];
        owner =
            λ b. finish_owner n b (old.owner b);
      } in
      let step : Step meaning First_choices script old Finish mid = (m, ms, e, room, refl) in
      let P : List Placed → Type 0 = λ ps. Pairwise Differs (marks_at ps) in
      let rest = of_running old.accepted ++ (old.submissions ++ (old.batches ++ old.chunks)) in
      let front = old.taken ++ of_messages old.posts in
      let behind = of_messages ms ++ rest in
      let line : handed old ≡ front ++ m.segment ∷ behind =
      ap (λ l. old.taken ++ (of_messages old.posts ++ (of_messages l ++ rest))) e
      ∙ sym (append_assoc old.taken (of_messages old.posts) (m.segment ∷ behind)) in
      let all : AllByRecursion P (places_of (front ++ m.segment ∷ behind)) =
      subst (λ l. AllByRecursion P (places_of l)) line (all_front P (places_of (handed old))
      (old.open_chunk.placed ∷ []) base.held.1) in
      let here = all_back P (places_of front) (m.segment.placed ∷ places_of behind)
      (subst (AllByRecursion P) (places_of_append front (m.segment ∷ behind)) all) in
      let once : Pairwise Differs (only_class (marks m.segment)) = class_apart (marks m.segment) here.0 in
      let goes : (b : ℕ) → is_among b (only_class (marks m.segment)) ≡ true → Away (mid.owner b) =
      λ b a. returning_away n (mid.owner b)
      ((homes meaning First_choices script old m ms e mid step base.holds.0 base.sorts base.held.0 b).1 a) in
      let r = all_home (marks m.segment) mid (based_step meaning script lawful old Finish mid step base) once
      (all_among (only_class (marks m.segment)) (λ b. Away (mid.owner b)) goes) in
      (r.0, (goes_on, (mid, step, m, ms, e, r.1)))
