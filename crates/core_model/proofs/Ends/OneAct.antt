-- What App's next act leaves is determined by the state, with the choices of the core that is stepped.
use Rattle.std.proofs.Common.{◌≡◌, ℕ, ◌+◌, true, false, List, [], ◌∷◌, ◌++◌, length, map, refl, sym, ap, ◌∙◌, subst}
use Rattle.std.proofs.Common.{inl, inr, Some, None, slice_get, slice_set}
use Rattle.dx_types.specs.declared.range.Range.{Range}
use Rattle.vk_types.specs.Memory.{range, number_at}
use Rattle.core_model.specs.Script.{Play, Create, Discard, No_overwrite, Stage, Command, Destroy, Create_shader}
use Rattle.core_model.specs.Script.{Mark_query, Set_state, Turn, Refused, Passed, Flushed, Asked, Item, Script}
use Rattle.core_model.specs.Script.{updated, padded}
use Rattle.core_model.specs.Renaming.{range_on}
use Rattle.core_model.specs.Owners.{retired}
use Rattle.core_model.specs.CoreState.{Pool, Board, Core, open_number}
use Rattle.core_model.specs.Readings.{First_choices}
use Rattle.core_model.specs.Placing.{BlockChoice, Takes, From_home, New_made, TakesBlock, Staged, PageChoice, Stages}
use Rattle.core_model.specs.Placing.{On_newest, On_spare, On_new, with_length, KeepsLength, StagesBytes}
use Rattle.core_model.specs.Adding.{with_turn, with_write, fenced, with_placed, placed_at, with_bound, with_staging}
use Rattle.core_model.specs.Adding.{gives_block, with_page, staged_range, staged_command, length_of, retired_by}
use Rattle.core_model.specs.Playing.{HasBlock, Own, Of_class, Plays}
use Rattle.core_model.specs.AppActs.{TakesTurn, Acts}

pub two : {A B C : Type 0} (F : A → B → C) (a c : A) (b d : B) → a ≡ c → b ≡ d → F a b ≡ F c d
two F a c b d e f = ap (λ x. F x b) e ∙ ap (λ y. F c y) f

-- a list is parted at one place
pub split_once : {A : Type 0} (xs ys : List A) (x y : A) (ss ts : List A) → length xs ≡ length ys
    → xs ++ x ∷ ss ≡ ys ++ y ∷ ts → (xs ≡ ys) × (x ≡ y) × (ss ≡ ts)
split_once [] [] x y ss ts l e = (refl, cc e, cc e)
split_once [] (v ∷ ys) x y ss ts l e = absurd (cc l)
split_once (u ∷ xs) [] x y ss ts l e = absurd (cc l)
split_once (u ∷ xs) (v ∷ ys) x y ss ts l e =
    let rest : xs ++ x ∷ ss ≡ ys ++ y ∷ ts = cc e in
    let head : u ≡ v = cc e in
    let long : length xs ≡ length ys = cc l in
    let r = split_once xs ys x y ss ts long rest in
    (two (λ a b. a ∷ b) u v xs ys head r.0, r.1, r.2)

-- Blocks and pages --------------------------------------------------------------------------------------------------

takes_once : (x y : BlockChoice) (class b c : ℕ) (old m n : Board) → x ≡ y → Takes x class b old m
    → Takes y class c old n → (b ≡ c) × (m ≡ n)
takes_once x y class b c old m n e (From_home _ _ place _ h) (From_home _ _ other _ g) =
    let s : place ≡ other = cc e in
    let z : Some (Some b) ≡ Some (Some c) = sym h ∙ ap (λ p. slice_get (old.places class) p) s ∙ g in
    (cc z, ap (λ p. record old { places = updated class (slice_set (old.places class) p None) old.places }) s)
takes_once x y class b c old m n e (From_home _ _ place _ h) (New_made _ _ less) = absurd (cc e)
takes_once x y class b c old m n e (New_made _ _ less) (From_home _ _ place _ h) = absurd (cc e)
takes_once x y class b c old m n e (New_made _ _ less) (New_made _ _ more) = (refl, refl)

class_once : (class b c : ℕ) (old m n : Board) → TakesBlock First_choices class b old m
    → TakesBlock First_choices class c old n → (b ≡ c) × (m ≡ n)
class_once class b c old m n p q = takes_once p.0 q.0 class b c old m n (p.2 refl ∙ sym (q.2 refl)) p.1 q.1

has_once : (script : Script) (buffer b c : ℕ) (old m n : Core) → HasBlock First_choices script buffer b old m
    → HasBlock First_choices script buffer c old n → (b ≡ c) × (m ≡ n)
has_once script buffer b c old m n (Own _ _ _ _ e) (Own _ _ _ _ f) = (refl, refl)
has_once script buffer b c old m n (Own _ _ _ _ e) (Of_class _ _ _ class _ _ board f t) =
    let z : None ≡ Some class = sym e ∙ f in absurd (cc z)
has_once script buffer b c old m n (Of_class _ _ _ class _ _ board e t) (Own _ _ _ _ f) =
    let z : None ≡ Some class = sym f ∙ e in absurd (cc z)
has_once script buffer b c old m n (Of_class _ _ _ class _ _ board e t) (Of_class _ _ _ class2 _ _ board2 f u) =
    let z : Some class2 ≡ Some class = sym f ∙ e in
    let same : class2 ≡ class = cc z in
    let r = class_once class b c old.board board board2 t (subst
    (λ k. TakesBlock First_choices k c old.board board2) same u) in
    (r.0, ap (λ x. record old { board = x }) r.1)

stages_once : (x y : PageChoice) (len : ℕ) (s t : Staged) (old m n : Pool) → x ≡ y → Stages x len s old m
    → Stages y len t old n → KeepsLength x s old → KeepsLength y t old → (s ≡ t) × (m ≡ n)
stages_once x y len s t old m n e (On_newest _ _ a h j) (On_newest _ _ b g k) u v =
    let z : Some a ≡ Some b = sym h ∙ g in
    let same : a ≡ b = cc z in (
      ap (λ a. record { block = a.page.block; at = a.used; added = [] }) same,
      ap (λ a. record old { newest = Some (record a { used = a.used + len }) }) same,
    )
stages_once x y len s t old m n e (On_newest _ _ a h j) (On_spare _ _ front p back size g k l) u v = absurd (cc e)
stages_once x y len s t old m n e (On_newest _ _ a h j) (On_new _ _ k) u v = absurd (cc e)
stages_once x y len s t old m n e (On_spare _ _ front p back size g k l) (On_newest _ _ a h j) u v = absurd (cc e)
stages_once x y len s t old m n e (On_spare _ _ front p back size g k l) (On_spare _ _ front2 p2 back2 size2 g2 k2 l2)
    u v =
    let long : length front ≡ length front2 = cc e in
    let r = split_once front front2 p p2 back back2 long (sym g ∙ g2) in
    let both : Some (with_length p size) ≡ Some (with_length p2 size2) =
    sym u.0 ∙ ap (λ i. slice_get old.spare i) long ∙ v.0 in
    let page : with_length p size ≡ with_length p2 size2 = cc both in (
      ap (λ p. record { block = p.block; at = 0; added = p ∷ [] }) page,
      two (λ spare p. record old { spare = spare; newest = Some (record { page = p; used = len }) }) (front ++ back)
          (front2 ++ back2) (with_length p size) (with_length p2 size2)
          (two (λ a b. a ++ b) front front2 back back2 r.0 r.2) page,
    )
stages_once x y len s t old m n e (On_spare _ _ front p back size g k l) (On_new _ _ h) u v = absurd (cc e)
stages_once x y len s t old m n e (On_new _ _ h) (On_newest _ _ a g j) u v = absurd (cc e)
stages_once x y len s t old m n e (On_new _ _ h) (On_spare _ _ front p back size g k l) u v = absurd (cc e)
stages_once x y len s t old m n e (On_new _ _ h) (On_new _ _ g) u v = (refl, refl)

bytes_once : (len : ℕ) (s t : Staged) (old m n : Pool) → StagesBytes First_choices len s old m
    → StagesBytes First_choices len t old n → (s ≡ t) × (m ≡ n)
bytes_once len s t old m n p q = stages_once p.0 q.0 len s t old m n (p.2 refl ∙ sym (q.2 refl)) p.1 q.1 (p.3 refl)
    (q.3 refl)

-- Items -------------------------------------------------------------------------------------------------------------

module _ (script : Script) (call item : ℕ) where
  abbrev created_with : ℕ → List ℕ → Core → ℕ → Core → Core
  created_with buffer bytes old block mid = with_placed (placed_at call item (Some block) None None)
      (record (with_write call (range block 0 (length_of script buffer)) (padded 0 bytes (length_of script buffer))
      (gives_block buffer block (fenced (retired_by (old.owner block)) mid))) {
        copies = updated block (number_at bytes) mid.copies;
        is_staging =
            updated block (script.is_staging buffer) mid.is_staging;
      })

  abbrev discarded_with : ℕ → ℕ → List ℕ → Core → ℕ → Core → Core
  discarded_with buffer from bytes old block mid = with_placed
      (placed_at call item (Some block) (old.blocks buffer) None)
      (with_write call (range block 0 (script.size buffer)) (padded from bytes (script.size buffer))
      (gives_block buffer block (fenced (retired_by (old.owner block))
      (record mid { owner = retired (old.blocks buffer) (open_number old) mid.owner }))))

  plays_once : (play : Play) (bound : List Range) (old a b : Core)
      → Plays First_choices script call item play bound old a
      → Plays First_choices script call item play bound old b → a ≡ b
  plays_once (Create buffer bytes) bound old a b p q =
      let r = has_once script buffer p.0 q.0 old p.1 q.1 p.2 q.2 in
      p.3 ∙ two (created_with buffer bytes old) p.0 q.0 p.1 q.1 r.0 r.1 ∙ sym q.3
  plays_once (Discard buffer from bytes) bound old a b p q =
      let r = has_once script buffer p.0 q.0 old p.1 q.1 p.2 q.2 in
      p.3 ∙ two (discarded_with buffer from bytes old) p.0 q.0 p.1 q.1 r.0 r.1 ∙ sym q.3
  plays_once (No_overwrite buffer from bytes) bound old a b p q = p ∙ sym q
  plays_once (Stage [] target skip) bound old a b p q = p ∙ sym q
  plays_once (Stage (x ∷ xs) target skip) bound old a b p q =
      let len = length (x ∷ xs) in
      let F : Staged → Pool → Core = λ s pool. with_placed (placed_at call item None None (Some (staged_range s len)))
      (with_staging script bound
      (with_bound (staged_range s len ∷ map (range_on old.blocks) bound)
      (staged_command call (staged_range s len) target skip
      (with_write call (staged_range s len) (x ∷ xs) (with_page s pool old))))) in
      let r = bytes_once len p.0 q.0 old.pool p.1 q.1 p.2 q.2 in
      p.3 ∙ two F p.0 q.0 p.1 q.1 r.0 r.1 ∙ sym q.3
  plays_once (Command w skip) bound old a b p q = p ∙ sym q
  plays_once (Destroy buffer) bound old a b p q = p ∙ sym q
  plays_once Create_shader bound old a b p q = p ∙ sym q
  plays_once (Mark_query query begins) bound old a b p q = p ∙ sym q
  plays_once Set_state bound old a b p q = p ∙ sym q

-- An act ------------------------------------------------------------------------------------------------------------

turn_once : (script : Script) (t : Turn) (turns : List Turn) (old a b : Core)
    → TakesTurn First_choices script t turns old a → TakesTurn First_choices script t turns old b → a ≡ b
turn_once script (Refused call) turns old a b p q = p ∙ sym q
turn_once script (Passed call) turns old a b p q = p ∙ sym q
turn_once script (Flushed call) turns old a b p q = p ∙ sym q
turn_once script (Asked call ask used may_pend) turns old a b (inl p) (inl q) = p.1 ∙ sym q.1
turn_once script (Asked call ask used may_pend) turns old a b (inl p) (inr q) = let z : true ≡ false = sym p.0
    ∙ q.0 in absurd (cc z)
turn_once script (Asked call ask used may_pend) turns old a b (inr p) (inl q) = let z : true ≡ false = sym q.0
    ∙ p.0 in absurd (cc z)
turn_once script (Asked call ask used may_pend) turns old a b (inr p) (inr q) = p.2 ∙ sym q.2
turn_once script (Item call item ends play bound) turns old a b p q =
    plays_once script call item play bound (with_turn (Item call item ends play bound) turns old) a b p q

pub acts_once : (script : Script) (old a b : Core) → Acts First_choices script old a
    → Acts First_choices script old b → a ≡ b
acts_once script old a b p q = elim p.1 [
  | inl x ↦ elim q.1 [
    | inl y ↦ x.2 ∙ sym y.2
    | inr y ↦ elim y [
      | inl z ↦ (let e : true ≡ false = sym x.0
          ∙ z.0 in absurd (cc e))
      | inr z ↦ (let e : true ≡ false = sym x.0 ∙ z.0 in absurd (cc e))
    ]
  ]
  | inr x ↦ elim q.1 [
    | inl y ↦ elim x [
      | inl z ↦ (let e : true ≡ false = sym y.0
          ∙ z.0 in absurd (cc e))
      | inr z ↦ (let e : true ≡ false = sym y.0 ∙ z.0 in absurd (cc e))
    ]
    | inr y ↦ elim x [
      | inl u ↦ elim y [
        | inl v ↦
            let e : u.1 ∷ u.2 ≡ v.1 ∷ v.2 = sym u.3 ∙ v.3 in
            let t : v.1 ≡ u.1 = cc e in
            let ts : v.2 ≡ u.2 = cc e in
            turn_once script u.1 u.2 old a b u.4 (subst (λ s. TakesTurn First_choices script s u.2 old b) t
            (subst (λ ss. TakesTurn First_choices script v.1 ss old b) ts v.4))
        | inr v ↦ let e : u.1 ∷ u.2 ≡ [] = sym u.3 ∙ v.1 in absurd (cc e)
      ]
      | inr u ↦ elim y [
        | inl v ↦ let e : v.1 ∷ v.2 ≡ [] = sym v.3 ∙ u.1 in absurd (cc e)
        | inr v ↦ u.3 ∙ sym v.3
      ]
    ]
  ]
]
