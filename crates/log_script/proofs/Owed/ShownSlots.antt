-- What slots show, in rising order, and the sizes of views.
use Rattle.std.proofs.Common.{◌≡◌, ℕ, suc, ◌+◌, ◌-◌, ◌*◌, ◌<◌, ◌≤◌, List, [], ◌∷◌, ◌++◌, length}
use Rattle.std.proofs.Common.{Option, Some, None, refl, sym, ap, ◌∙◌, inl, inr, arith}
use Rattle.std.specs.Prelude.{◌%◌, min}
use Rattle.std.specs.List.{find, AllByRecursion}
use Rattle.std.proofs.Math.Nat.{min-eq_left, min-eq_right, add-mul, mul-zero, zero-mod}
use Rattle.std.proofs.lemmas.Nat.{mul-mod_second}
use Rattle.std.proofs.lemmas.Bool.{cases_lt}
use Rattle.dx_types.specs.declared.range.ResRange.{ResRange}
use Rattle.dx_types.specs.declared.shape.ViewShape.{ViewShape}
use Rattle.dx_types.specs.declared.shape.Form.{Form}
use Rattle.dx_types.specs.declared.shape.Form.TheVariants.{Raw, Structured, Typed}
use Rattle.shader_model.specs.declared.tree.Declared.{Declared}
use Rattle.vk_types.specs.declared.command.SlotName.{SlotName}
use Rattle.vk_types.specs.declared.command.SlotRange.{SlotRange}
use Rattle.base_lemmas.specs.Lists.{Pairwise}
use Rattle.d3d_model.specs.Memory.{is_declared, shown_from}
use Rattle.d3d_model.specs.Past.{Past}
use Rattle.core_model.specs.Formed.{IsSlot, slot_rank, SlotsRise}
use Rattle.log_script.specs.Makers.{of_maker}
use Rattle.log_script.specs.Plays.{slots_from}
use Rattle.log_script.specs.Standing.{WholeUnit}
use Rattle.log_script.proofs.Owed.StayingFit.{all_both, all_append}

-- ---- what slots show

-- what holds of each slot holds of what it shows
pub all_shown : {X : Type 0} (P : X → Type 0) (R : Option ResRange → Type 0) (show : Option Declared → X
    → Option ResRange) → ((d : Option Declared) (x : X) → P x → R (show d x))
    → (ds : List Declared) (opcode i : ℕ) (xs : List X)
    → AllByRecursion P xs → AllByRecursion R (shown_from show ds opcode i xs)
all_shown P R show f ds opcode i [] h = tt
all_shown P R show f ds opcode i (x ∷ xs) h = (
  f (find (is_declared opcode i) ds) x h.0,
  all_shown P R show f ds opcode (suc i) xs h.1,
)

pub pairs_shown : {X : Type 0} (P : X → X → Type 0) (R : Option ResRange → Option ResRange
    → Type 0) (show : Option Declared → X → Option ResRange)
    → ((d e : Option Declared) (x y : X) → P x y → R (show d x) (show e y))
    → (ds : List Declared) (opcode i : ℕ) (xs : List X) → Pairwise P xs → Pairwise R (shown_from show ds opcode i xs)
pairs_shown P R show f ds opcode i [] h = tt
pairs_shown P R show f ds opcode i (x ∷ xs) h = (
  all_shown (P x) (R (show (find (is_declared opcode i) ds) x)) show
      (λ e y k. f (find (is_declared opcode i) ds) e x y k) ds opcode (suc i) xs h.0,
  pairs_shown P R show f ds opcode (suc i) xs h.1,
)

pub length_shown : {X : Type 0} (show : Option Declared → X → Option ResRange) (ds : List Declared) (opcode i : ℕ)
    (xs : List X) → length (shown_from show ds opcode i xs) ≡ length xs
length_shown show ds opcode i [] = refl
length_shown show ds opcode i (x ∷ xs) = ap suc (length_shown show ds opcode (suc i) xs)

-- and of the slots that show something
pub all_slots : (past : Past) (name : ℕ → SlotName) (R : Option ResRange → Type 0) (S : SlotRange → Type 0)
    → ((j : ℕ) (r : ResRange) → R (Some r) → S (record { slot = name j; range = of_maker past r }))
    → (i : ℕ) (shown : List (Option ResRange)) → AllByRecursion R shown
    → AllByRecursion S (slots_from past name i shown)
all_slots past name R S f i [] h = tt
all_slots past name R S f i (None ∷ shown) h = all_slots past name R S f (suc i) shown h.1
all_slots past name R S f i (Some r ∷ shown) h = (f i r h.0, all_slots past name R S f (suc i) shown h.1)

pub pair_slots : (past : Past) (name : ℕ → SlotName) (R : Option ResRange → Option ResRange → Type 0) (S : SlotRange
    → SlotRange → Type 0)
    → ((j k : ℕ) (r q : ResRange) → R (Some r) (Some q) → S (record { slot = name j; range = of_maker past r })
    (record { slot = name k; range = of_maker past q }))
    → (i : ℕ) (shown : List (Option ResRange)) → Pairwise R shown → Pairwise S (slots_from past name i shown)
pair_slots past name R S f i [] h = tt
pair_slots past name R S f i (None ∷ shown) h = pair_slots past name R S f (suc i) shown h.1
pair_slots past name R S f i (Some r ∷ shown) h = (
  all_slots past name (R (Some r)) (S (record { slot = name i; range = of_maker past r })) (λ k q p. f i k r q p)
      (suc i) shown h.0,
  pair_slots past name R S f (suc i) shown h.1,
)

-- slots that exist, and rise
pub exist : (past : Past) (name : ℕ → SlotName) (most : ℕ) → ((j : ℕ) → j < most → IsSlot (name j))
    → (i : ℕ) (shown : List (Option ResRange)) → i + length shown ≤ most
    → AllByRecursion (λ s. IsSlot s.slot) (slots_from past name i shown)
exist past name most f i [] h = tt
exist past name most f i (None ∷ shown) h = exist past name most f (suc i) shown (omega (arith, h))
exist past name most f i (Some r ∷ shown) h = (
  f i (omega (arith, h)),
  exist past name most f (suc i) shown (omega (arith, h)),
)

pub rise : (past : Past) (name : ℕ → SlotName) (base : ℕ) → ((j : ℕ) → slot_rank (name j) ≡ base + j)
    → (most : ℕ) (others : List SlotRange) → ((least : ℕ) → least ≤ most → SlotsRise least others)
    → (i : ℕ) (shown : List (Option ResRange)) → base + (i + length shown) ≤ most → (least : ℕ) → least ≤ base + i
    → SlotsRise least (slots_from past name i shown ++ others)
rise past name base rank most others f i [] h least l = f least (omega (arith, h, l))
rise past name base rank most others f i (None ∷ shown) h least l =
    rise past name base rank most others f (suc i) shown (omega (arith, h)) least (omega (arith, l))
rise past name base rank most others f i (Some r ∷ shown) h least l = let q = rank i in (
  omega (arith, q, l),
  rise past name base rank most others f (suc i) shown (omega (arith, h)) (suc (slot_rank (name i))) (omega (arith, q)),
)

pub pair_append : {A : Type 0} (R : A → A → Type 0) (xs ys : List A) → Pairwise R xs → Pairwise R ys
    → AllByRecursion (λ x. AllByRecursion (R x) ys) xs → Pairwise R (xs ++ ys)
pair_append R [] ys h k a = k
pair_append R (x ∷ xs) ys h k a = (all_append (R x) xs ys h.0 a.0, pair_append R xs ys h.1 k a.1)

pub pair_both : {A : Type 0} (P : A → Type 0) (R : A → A → Type 0) (xs : List A) → AllByRecursion P xs → Pairwise R xs
    → Pairwise (λ x y. P x × (P y × R x y)) xs
pair_both P R [] p h = tt
pair_both P R (x ∷ xs) p h = (
  all_both P (R x) (λ y. P x × (P y × R x y)) (λ y a b. (p.0, (a, b))) xs p.1 h.0,
  pair_both P R xs p.1 h.1,
)

-- ---- whole words

pub least_words : (n : ℕ) → n % 4 ≡ 0 → (min 65536 n - 0) % 4 ≡ 0
least_words n h = elim (cases_lt n 65536) [
  | inl less ↦ let plain : n - 0 ≡ n = omega arith in ap (λ m. (m - 0) % 4) (min-eq_right (omega (arith, less)))
      ∙ ap (λ m. m % 4) plain ∙ h
  | inr more ↦ ap (λ m. (m - 0) % 4) (min-eq_left more)
]

-- the elements of a view, of so many bytes each
pub element_size : (first count unit : ℕ) → (first + count) * unit - first * unit ≡ count * unit
element_size first count unit = let e = add-mul first count unit in omega (arith, e)

-- of whole words, or of twice or four times as much
pub multiple : (count unit n : ℕ) → unit % n ≡ 0 → (count * unit) % n ≡ 0
multiple count unit n h = sym (mul-mod_second count unit n) ∙ ap (λ u. (count * u) % n) h
    ∙ ap (λ m. m % n) (mul-zero count) ∙ zero-mod n

pub view_size : (v : ViewShape) (n : ℕ) → v.unit % n ≡ 0 → ((v.first + v.count) * v.unit - v.first * v.unit) % n ≡ 0
view_size v n h = ap (λ m. m % n) (element_size v.first v.count v.unit) ∙ multiple v.count v.unit n h

pub unit_words : (form : Form) (unit : ℕ) → WholeUnit form unit → unit % 4 ≡ 0
unit_words Raw unit h = ap (λ u. u % 4) h
unit_words Structured unit h = h.0
unit_words Typed unit (inl h) = ap (λ u. u % 4) h
unit_words Typed unit (inr (inl h)) = ap (λ u. u % 4) h
unit_words Typed unit (inr (inr h)) = ap (λ u. u % 4) h
