-- What stands at the slots of one kind, once the listed slots were bound one after another.
use Rattle.std.proofs.Common.{◌≡◌, ℕ, suc, ◌+◌, ◌<◌, Bool, true, false, cond, ◌==◌, List, [], ◌∷◌, length, map, Option, Some, None, inl, inr, refl, sym, ap, ◌∙◌, arith}
use Rattle.std.specs.Prelude.{slice_index_or, slice_set}
use Rattle.std.specs.List.{AllByRecursion}
use Rattle.std.proofs.lemmas.List.{length-set, get_or-set_same, get_or-set_other}
use Rattle.std.proofs.lemmas.Bool.{cases_eq, cond-true, cond-false, eq-eqb, eqb-false, ne_eqb}
use Rattle.vk_types.specs.declared.command.SlotName.{SlotName}
use Rattle.vk_types.specs.declared.command.SlotName.TheVariants as slot
use Rattle.vk_types.specs.declared.command.SlotRange.{SlotRange}
use Rattle.base_lemmas.specs.Lists.{Pairwise, numbers_from}
use Rattle.vk_types.specs.Memory.{Memory}
use Rattle.vk_types.specs.Effects.{is_constant, is_srv, is_uav, slot_words, words_in}
use Rattle.device_memory.specs.Ranges.{AreApart, is_same}

-- ---- lists of facts

pub all_of : {A : Type 0} (P Q : A → Type 0) → ((x : A) → P x → Q x) → (xs : List A) → AllByRecursion P xs → AllByRecursion Q xs
all_of P Q f [] h = h
all_of P Q f (x ∷ xs) h = (f x h.0, all_of P Q f xs h.1)

pub all_of_both : {A : Type 0} (P Q R : A → Type 0) → ((x : A) → P x → Q x → R x) → (xs : List A) → AllByRecursion P xs → AllByRecursion Q xs → AllByRecursion R xs
all_of_both P Q R f [] h k = h
all_of_both P Q R f (x ∷ xs) h k = (f x h.0 k.0, all_of_both P Q R f xs h.1 k.1)

-- ---- kinds of slots

-- the number of a slot of the kind
abbrev pub Kind : Type 0
Kind = SlotName → Option ℕ

abbrev pub constant_of : Kind
constant_of (slot.Constant i) = Some i
constant_of (slot.Srv i) = None
constant_of (slot.Uav i) = None

abbrev pub srv_of : Kind
srv_of (slot.Constant i) = None
srv_of (slot.Srv i) = Some i
srv_of (slot.Uav i) = None

abbrev pub uav_of : Kind
uav_of (slot.Constant i) = None
uav_of (slot.Srv i) = None
uav_of (slot.Uav i) = Some i

abbrev pub has_number : ℕ → Option ℕ → Bool
has_number n None = false
has_number n (Some i) = n == i

-- a slot of the kind and number has no name that differs from it
abbrev pub Tells : Kind → Type 0
Tells kind = (n : ℕ) (s t : SlotName) → kind s ≡ Some n → is_same s t ≡ false → has_number n (kind t) ≡ false

numbers_differ : (n i j : ℕ) → Some i ≡ Some n → (i == j) ≡ false → (n == j) ≡ false
numbers_differ n i j e d = let same : i ≡ n = cc e in ap (λ (k : ℕ). k == j) (sym same) ∙ d

pub constants_tell : Tells constant_of
constants_tell n (slot.Constant i) (slot.Constant j) e d = numbers_differ n i j e d
constants_tell n (slot.Constant i) (slot.Srv j) e d = refl
constants_tell n (slot.Constant i) (slot.Uav j) e d = refl
constants_tell n (slot.Srv i) t e d = absurd (cc e)
constants_tell n (slot.Uav i) t e d = absurd (cc e)

pub srvs_tell : Tells srv_of
srvs_tell n (slot.Srv i) (slot.Srv j) e d = numbers_differ n i j e d
srvs_tell n (slot.Srv i) (slot.Constant j) e d = refl
srvs_tell n (slot.Srv i) (slot.Uav j) e d = refl
srvs_tell n (slot.Constant i) t e d = absurd (cc e)
srvs_tell n (slot.Uav i) t e d = absurd (cc e)

pub uavs_tell : Tells uav_of
uavs_tell n (slot.Uav i) (slot.Uav j) e d = numbers_differ n i j e d
uavs_tell n (slot.Uav i) (slot.Constant j) e d = refl
uavs_tell n (slot.Uav i) (slot.Srv j) e d = refl
uavs_tell n (slot.Constant i) t e d = absurd (cc e)
uavs_tell n (slot.Srv i) t e d = absurd (cc e)

pub constant_test : (n : ℕ) (s : SlotName) → is_constant n s ≡ has_number n (constant_of s)
constant_test n (slot.Constant i) = refl
constant_test n (slot.Srv i) = refl
constant_test n (slot.Uav i) = refl

pub srv_test : (n : ℕ) (s : SlotName) → is_srv n s ≡ has_number n (srv_of s)
srv_test n (slot.Constant i) = refl
srv_test n (slot.Srv i) = refl
srv_test n (slot.Uav i) = refl

pub uav_test : (n : ℕ) (s : SlotName) → is_uav n s ≡ has_number n (uav_of s)
uav_test n (slot.Constant i) = refl
uav_test n (slot.Srv i) = refl
uav_test n (slot.Uav i) = refl

-- ---- slots of a kind

module _ {A : Type 0} (kind : Kind) (f : SlotRange → A) where
  abbrev pub place : Option ℕ → A → List A → List A
  place None x xs = xs
  place (Some i) x xs = slice_set xs i x

  -- what the listed slots of the kind have, each at its number
  abbrev pub placed : List SlotRange → List A → List A
  placed [] xs = xs
  placed (s ∷ ss) xs = placed ss (place (kind s.slot) (f s) xs)

  -- what the first listed slot of the number has
  abbrev pub at_number : ℕ → List SlotRange → A → A
  at_number n [] x = x
  at_number n (s ∷ ss) x = cond (has_number n (kind s.slot)) (f s) (at_number n ss x)

  length_place : (o : Option ℕ) (x : A) (xs : List A) → length (place o x xs) ≡ length xs
  length_place None x xs = refl
  length_place (Some i) x xs = length-set xs i x

  pub length_placed : (ss : List SlotRange) (xs : List A) → length (placed ss xs) ≡ length xs
  length_placed [] xs = refl
  length_placed (s ∷ ss) xs = length_placed ss (place (kind s.slot) (f s) xs) ∙ length_place (kind s.slot) (f s) xs

  at_none : (n : ℕ) (x : A) (ss : List SlotRange) → AllByRecursion (λ t. has_number n (kind t.slot) ≡ false) ss → at_number n ss x ≡ x
  at_none n x [] h = refl
  at_none n x (s ∷ ss) h = cond-false (has_number n (kind s.slot)) (f s) (at_number n ss x) h.0 ∙ at_none n x ss h.1

  pub placed_at : Tells kind → (n : ℕ) (d : A) (ss : List SlotRange) → Pairwise AreApart ss → (xs : List A) → n < length xs
      → slice_index_or (placed ss xs) n d ≡ at_number n ss (slice_index_or xs n d)
  placed_at tells n d [] apart xs lt = refl
  placed_at tells n d (s ∷ ss) apart xs lt = by (placed_at tells n d ss apart.1) (kind s.slot) refl
    where
      others : kind s.slot ≡ Some n → AllByRecursion (λ t. has_number n (kind t.slot) ≡ false) ss
      others e = all_of (AreApart s) (λ t. has_number n (kind t.slot) ≡ false) (λ t a. tells n s.slot t.slot e a.names) ss apart.0

      by : ((ys : List A) → n < length ys → slice_index_or (placed ss ys) n d ≡ at_number n ss (slice_index_or ys n d)) → (o : Option ℕ) → kind s.slot ≡ o
          → slice_index_or (placed ss (place o (f s) xs)) n d ≡ cond (has_number n o) (f s) (at_number n ss (slice_index_or xs n d))
      by later None e = later xs lt
      by later (Some i) e =
          let more : n < length (slice_set xs i (f s)) = omega (arith, lt, length-set xs i (f s)) in
          later (slice_set xs i (f s)) more
          ∙ elim (cases_eq n i) as (λ v. at_number n ss (slice_index_or (slice_set xs i (f s)) n d) ≡ cond (n == i) (f s) (at_number n ss (slice_index_or xs n d))) [
            | inl same ↦
                at_none n (slice_index_or (slice_set xs i (f s)) n d) ss (others (e ∙ ap (λ (k : ℕ). Some k) (sym same)))
                ∙ ap (λ (k : ℕ). slice_index_or (slice_set xs k (f s)) n d) (sym same)
                ∙ get_or-set_same xs n (f s) d lt
                ∙ sym (cond-true (n == i) (f s) (at_number n ss (slice_index_or xs n d)) (eq-eqb n i same))
            | inr other ↦
                ap (at_number n ss) (get_or-set_other xs i n (f s) d other)
                ∙ sym (cond-false (n == i) (f s) (at_number n ss (slice_index_or xs n d)) (ne_eqb n i other))
          ]

-- two readings that agree at the slots of the kind
pub at_alike : {A : Type 0} (kind : Kind) (f g : SlotRange → A) (n : ℕ) (x : A) (ss : List SlotRange) → AllByRecursion (λ s. has_number n (kind s.slot) ≡ true → f s ≡ g s) ss
    → at_number kind f n ss x ≡ at_number kind g n ss x
at_alike kind f g n x [] h = refl
at_alike {A} kind f g n x (s ∷ ss) h = by (at_alike kind f g n x ss h.1) (has_number n (kind s.slot)) refl
  where
    by : at_number kind f n ss x ≡ at_number kind g n ss x → (t : Bool) → has_number n (kind s.slot) ≡ t → cond t (f s) (at_number kind f n ss x) ≡ cond t (g s) (at_number kind g n ss x)
    by later true e = h.0 e
    by later false e = later

-- the words of a slot as an effect reads them
pub slot_words_at : (kind : Kind) (test : SlotName → Bool) (n : ℕ) → ((s : SlotName) → test s ≡ has_number n (kind s)) → (m : Memory) (ss : List SlotRange)
    → at_number kind (λ s. words_in m s.range) n ss [] ≡ slot_words m test ss
slot_words_at kind test n same m [] = refl
slot_words_at kind test n same m (s ∷ ss) =
    ap (λ (t : Bool). cond t (words_in m s.range) (at_number kind (λ s. words_in m s.range) n ss [])) (sym (same s.slot))
    ∙ ap (cond (test s.slot) (words_in m s.range)) (slot_words_at kind test n same m ss)

-- a list is what it has at each number
pub by_numbers : {A : Type 0} (d : A) (g : ℕ → A) (i : ℕ) (xs : List A) → ((n : ℕ) → n < length xs → slice_index_or xs n d ≡ g (i + n)) → xs ≡ map g (numbers_from i (length xs))
by_numbers d g i [] h = refl
by_numbers {A} d g i (x ∷ xs) h =
    let first : x ≡ g i = h 0 (omega arith) ∙ ap g (omega arith) in
    let later : xs ≡ map g (numbers_from (suc i) (length xs)) = by_numbers d g (suc i) xs (λ n lt. h (suc n) (omega (arith, lt)) ∙ ap g (omega arith)) in
    ap (λ (y : A). y ∷ xs) first ∙ ap (λ (ys : List A). g i ∷ ys) later

-- ---- a slot that is listed

is_same_back : (s t : SlotName) → is_same s t ≡ false → is_same t s ≡ false
is_same_back (slot.Constant i) (slot.Constant j) e = ne_eqb j i (λ same. eqb-false i j e (sym same))
is_same_back (slot.Constant i) (slot.Srv j) e = refl
is_same_back (slot.Constant i) (slot.Uav j) e = refl
is_same_back (slot.Srv i) (slot.Constant j) e = refl
is_same_back (slot.Srv i) (slot.Srv j) e = ne_eqb j i (λ same. eqb-false i j e (sym same))
is_same_back (slot.Srv i) (slot.Uav j) e = refl
is_same_back (slot.Uav i) (slot.Constant j) e = refl
is_same_back (slot.Uav i) (slot.Srv j) e = refl
is_same_back (slot.Uav i) (slot.Uav j) e = ne_eqb j i (λ same. eqb-false i j e (sym same))

-- what a number has is what the slot of that number has
abbrev pub Shows : {A : Type 0} → Kind → (SlotRange → A) → (ℕ → A) → SlotRange → Type 0
Shows kind f at s = (i : ℕ) → kind s.slot ≡ Some i → at i ≡ f s

pub listed_shows : {A : Type 0} (kind : Kind) (f : SlotRange → A) (x : ℕ → A) → Tells kind → (ss : List SlotRange) → Pairwise AreApart ss → AllByRecursion (Shows kind f (λ i. at_number kind f i ss (x i))) ss
listed_shows kind f x tells [] apart = apart
listed_shows {A} kind f x tells (s ∷ ss) apart = (first, all_of_both _ _ (Shows kind f (λ i. at_number kind f i (s ∷ ss) (x i))) later ss apart.0 (listed_shows kind f x tells ss apart.1))
  where
    first : Shows kind f (λ i. at_number kind f i (s ∷ ss) (x i)) s
    first i e = cond-true (has_number i (kind s.slot)) (f s) (at_number kind f i ss (x i)) (ap (has_number i) e ∙ eq-eqb i i refl)

    later : (t : SlotRange) → AreApart s t → Shows kind f (λ i. at_number kind f i ss (x i)) t → Shows kind f (λ i. at_number kind f i (s ∷ ss) (x i)) t
    later t a shows i e = cond-false (has_number i (kind s.slot)) (f s) (at_number kind f i ss (x i)) (tells i t.slot s.slot e (is_same_back s.slot t.slot a.names)) ∙ shows i e
