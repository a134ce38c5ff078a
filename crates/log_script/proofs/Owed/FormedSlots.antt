-- The slots of a dispatch are formed: they exist and rise, have whole words, and what a shader may write is apart
-- from the rest.
use Rattle.std.proofs.Common.{◌≡◌, ℕ, suc, ◌-◌, ◌≤◌, true, false, ◌||◌, List, [], ◌∷◌, ◌++◌, length}
use Rattle.std.proofs.Common.{Option, Some, None, refl, sym, ap, ◌∙◌, subst, arith, append-nil}
use Rattle.std.specs.Prelude.{◌%◌, ⊤, is_some, min, if◌then◌else◌}
use Rattle.std.specs.List.{AllByRecursion}
use Rattle.std.proofs.Math.Nat.{min-le_right}
use Rattle.dx_types.specs.declared.range.ResRange.{ResRange}
use Rattle.dx_types.specs.declared.shape.Shape.{Shape}
use Rattle.dx_types.specs.declared.shape.ViewShape.{ViewShape}
use Rattle.shader_model.specs.declared.tree.Declared.{Declared}
use Rattle.vk_types.specs.declared.command.SlotName.{SlotName}
use Rattle.vk_types.specs.declared.command.SlotName.TheVariants as slot
use Rattle.vk_types.specs.declared.command.SlotRange.{SlotRange}
use Rattle.vk_types.specs.declared.command.Groups.{Groups}
use Rattle.base_lemmas.specs.Lists.{Pairwise}
use Rattle.base_lemmas.specs.IdMap.{get}
use Rattle.d3d_model.specs.Check.{has}
use Rattle.d3d_model.specs.Resource.{size_of}
use Rattle.d3d_model.specs.View.{view_range}
use Rattle.d3d_model.specs.Binding.{Bindings, BoundView}
use Rattle.d3d_model.specs.Shader.{declared_by, fits_slot}
use Rattle.d3d_model.specs.D3dState.{Objects, buffer_of, words_set}
use Rattle.d3d_model.specs.Memory.{constant_shown, view_shown, constants_shown, srvs_shown}
use Rattle.d3d_model.specs.Memory.{uavs_shown}
use Rattle.d3d_model.specs.Past.{Past}
use Rattle.core_model.specs.Formed.{range_size, is_written_slot, IsSlot, SlotsRise, SlotIsFormed}
use Rattle.core_model.specs.Formed.{SlotsApart, GroupsAreFormed, DispatchIsFormed}
use Rattle.log_script.specs.Makers.{maker}
use Rattle.log_script.specs.Plays.{slots_from, slots_listed}
use Rattle.log_script.specs.Standing.{ViewWhole}
use Rattle.log_script.specs.Fitting.{ConstantFits, ViewFits, SetFits, Distinct, ViewsApart}
use Rattle.log_script.proofs.Owed.StayingFit.{all_by, all_both, all_append}
use Rattle.log_script.proofs.Owed.FittingCalls.{BuffersFit, ViewsFit}
use Rattle.log_script.proofs.Meant.AgreeingDispatch.{AllSlots}
pub use Rattle.log_script.proofs.Owed.ShownSlots.{view_size, unit_words}
use Rattle.log_script.proofs.Owed.ShownSlots.{all_shown, pairs_shown, length_shown, all_slots, pair_slots, exist}
use Rattle.log_script.proofs.Owed.ShownSlots.{rise, pair_append, pair_both, least_words}

-- ---- the slots of a dispatch

-- what a slot shows has whole words, no more than a buffer
abbrev ShownWords : Option ResRange → Type 0
ShownWords None = ⊤
ShownWords (Some r) = ((r.to - r.from) % 4 ≡ 0) × (r.to - r.from ≤ 16777216)

-- what it shows is of a live buffer of constants, or of one that views show
abbrev OfConstants : Objects → Option ResRange → Type 0
OfConstants o None = ⊤
OfConstants o (Some r) = (s : Shape) × (buffer_of o r.res ≡ Some s) × (has s.bind 1 ≡ true)

abbrev OfViews : Objects → Option ResRange → Type 0
OfViews o None = ⊤
OfViews o (Some r) = (s : Shape) × (buffer_of o r.res ≡ Some s) × ((has s.bind 2 || has s.bind 4) ≡ true)

-- two slots show ranges of two live buffers, if both show one
abbrev OfTwo : Objects → Option ResRange → Option ResRange → Type 0
OfTwo o None q = ⊤
OfTwo o (Some r) None = ⊤
OfTwo o (Some r) (Some q) = (is_some (buffer_of o r.res) ≡ true) × (is_some (buffer_of o q.res) ≡ true)
    × (r.res ≡ q.res → ⊥)

module _ (past : Past) (o : Objects) (own : (id other : ℕ) → is_some (buffer_of o id) ≡ true
    → is_some (buffer_of o other) ≡ true → maker past id ≡ maker past other → id ≡ other)
    (buffers : BuffersFit o) (views : ViewsFit o) (whole : (id : ℕ) (v : ViewShape) → get o.views id ≡ Some v
    → ViewWhole v) (b : Bindings) (set : SetFits o b) (slots : AllSlots b) (apart : ViewsApart b) where
  abbrev ds : List Declared
  ds = declared_by (words_set o b)

  constant_words : (d : Option Declared) (x : Option ResRange) → ConstantFits o x → ShownWords (constant_shown o d x)
  constant_words None x h = tt
  constant_words (Some d) None h = tt
  constant_words (Some d) (Some r) h =
      let s = h.shape in
      let has_bytes = buffers r.res s h.lives in
      let size : size_of (buffer_of o r.res) ≡ s.size = ap size_of h.lives in
      let few = has_bytes.few in (
        ap (λ (t : ℕ). (min t (size_of (buffer_of o r.res)) - r.from) % 4) h.ends
            ∙ ap (λ (f : ℕ). (min 65536 (size_of (buffer_of o r.res)) - f) % 4) h.starts
            ∙ least_words (size_of (buffer_of o r.res)) (ap (λ (n : ℕ). n % 4) size ∙ has_bytes.words),
        let m = min-le_right r.to (size_of (buffer_of o r.res)) in omega (arith, m, size, few),
      )

  view_words : (d : Option Declared) (x : Option BoundView) → ViewFits o x → ShownWords (view_shown d x)
  view_words None x h = tt
  view_words (Some d) None h = tt
  view_words (Some d) (Some v) h = elim (fits_slot d v.shape) as
      (λ c. ShownWords (if c then Some (view_range v.shape) else None)) [
        | true ↦ (
          view_size v.shape 4 (unit_words v.shape.form v.shape.unit (whole v.view v.shape h.lives).words),
          let f = h.fits.fits in let few = (buffers v.shape.res h.fits.shape h.fits.lives).few in omega (arith, f, few),
        )
        | false ↦ tt
      ]

  constant_of : (d : Option Declared) (x : Option ResRange) → ConstantFits o x → OfConstants o (constant_shown o d x)
  constant_of None x h = tt
  constant_of (Some d) None h = tt
  constant_of (Some d) (Some r) h = (h.shape, h.lives, h.constants)

  view_of : (d : Option Declared) (x : Option BoundView) → ViewFits o x → OfViews o (view_shown d x)
  view_of None x h = tt
  view_of (Some d) None h = tt
  view_of (Some d) (Some v) h = elim (fits_slot d v.shape) as
      (λ c. OfViews o (if c then Some (view_range v.shape) else None)) [
        | true ↦ let r = views v.view v.shape h.lives in (r.shape, r.lives, r.shows)
        | false ↦ tt
      ]

  two_views : (d e : Option Declared) (x y : Option BoundView) → ViewFits o x × (ViewFits o y × Distinct x y)
      → OfTwo o (view_shown d x) (view_shown e y)
  two_views None e x y h = tt
  two_views (Some d) e None y h = tt
  two_views (Some d) e (Some v) y h = elim (fits_slot d v.shape) as
      (λ c. OfTwo o (if c then Some (view_range v.shape) else None) (view_shown e y)) [
        | true ↦ second e y h.1
        | false ↦ tt
      ]
    where
      lives : (w : BoundView) → ViewFits o (Some w) → is_some (buffer_of o w.shape.res) ≡ true
      lives w f = ap is_some f.fits.lives

      second : (e : Option Declared) (y : Option BoundView) → ViewFits o y × Distinct (Some v) y
          → OfTwo o (Some (view_range v.shape)) (view_shown e y)
      second None y k = tt
      second (Some e) None k = tt
      second (Some e) (Some w) k = elim (fits_slot e w.shape) as
          (λ c. OfTwo o (Some (view_range v.shape)) (if c then Some (view_range w.shape) else None)) [
            | true ↦ (lives v h.0, lives w k.0, k.1)
            | false ↦ tt
          ]

  abbrev constants : List SlotRange
  constants = slots_from past slot.Constant 0 (constants_shown o b ds)

  abbrev srvs : List SlotRange
  srvs = slots_from past slot.Srv 0 (srvs_shown b ds)

  abbrev uavs : List SlotRange
  uavs = slots_from past slot.Uav 0 (uavs_shown b ds)

  abbrev Words : SlotRange → Type 0
  Words s = (range_size s.range % 4 ≡ 0) × (range_size s.range ≤ 16777216)

  all_words : AllByRecursion Words (constants ++ (srvs ++ uavs))
  all_words =
      all_append Words constants (srvs ++ uavs)
      (all_slots past slot.Constant ShownWords Words (λ j r h. h) 0 (constants_shown o b ds)
      (all_shown (ConstantFits o) ShownWords (constant_shown o) constant_words ds 3 0 b.constants set.constants))
      (all_append Words srvs uavs
      (all_slots past slot.Srv ShownWords Words (λ j r h. h) 0 (srvs_shown b ds)
      (all_shown (ViewFits o) ShownWords view_shown view_words ds 4 0 b.srvs set.srvs))
      (all_slots past slot.Uav ShownWords Words (λ j r h. h) 0 (uavs_shown b ds)
      (all_shown (ViewFits o) ShownWords view_shown view_words ds 5 0 b.uavs set.uavs)))

  constants_long : length (constants_shown o b ds) ≡ 14
  constants_long = length_shown (constant_shown o) ds 3 0 b.constants ∙ slots.constants

  srvs_long : length (srvs_shown b ds) ≡ 16
  srvs_long = length_shown view_shown ds 4 0 b.srvs ∙ slots.srvs

  uavs_long : length (uavs_shown b ds) ≡ 8
  uavs_long = length_shown view_shown ds 5 0 b.uavs ∙ slots.uavs

  all_exist : AllByRecursion (λ s. IsSlot s.slot) (constants ++ (srvs ++ uavs))
  all_exist =
      let c = constants_long in
      let s = srvs_long in
      let u = uavs_long in
      all_append (λ s. IsSlot s.slot) constants (srvs ++ uavs)
      (exist past slot.Constant 14 (λ j h. h) 0 (constants_shown o b ds) (omega (arith, c)))
      (all_append (λ s. IsSlot s.slot) srvs uavs (exist past slot.Srv 16 (λ j h. h) 0 (srvs_shown b ds)
      (omega (arith, s))) (exist past slot.Uav 8 (λ j h. h) 0 (uavs_shown b ds) (omega (arith, u))))

  all_rise : SlotsRise 0 (constants ++ (srvs ++ uavs))
  all_rise =
      let c = constants_long in
      let s = srvs_long in
      let u = uavs_long in
      rise past slot.Constant 0 (λ j. omega arith) 256 (srvs ++ uavs)
      (λ least l. subst (λ l. SlotsRise least (srvs ++ l)) (append-nil uavs)
      (rise past slot.Srv 256 (λ j. refl) 512 (uavs ++ []) (λ least k. rise past slot.Uav 512 (λ j. refl) 600 []
      (λ least m. tt) 0 (uavs_shown b ds) (omega (arith, u)) least (omega (arith, k))) 0 (srvs_shown b ds)
      (omega (arith, s)) least (omega (arith, l))))
      0 (constants_shown o b ds) (omega (arith, c)) 0 (omega arith)

  -- ranges of two live buffers are of two makers
  two_makers : (r q : ResRange) → OfTwo o (Some r) (Some q) → maker past r.res ≡ maker past q.res → ⊥
  two_makers r q h same = h.2 (own r.res q.res h.0 h.1 same)

  -- no buffer of constants is one that views show
  constant_apart : (r q : ResRange) → OfConstants o (Some r) → OfViews o (Some q)
      → maker past r.res ≡ maker past q.res → ⊥
  constant_apart r q c v same =
      let res : r.res ≡ q.res = own r.res q.res (ap is_some c.1) (ap is_some v.1) same in
      let shape : c.0 ≡ v.0 = one_shape (buffer_of o q.res) c.0 v.0 (sym (ap (buffer_of o) res) ∙ c.1) v.1 in
      let none : (has v.0.bind 2 || has v.0.bind 4) ≡ false =
      subst (λ (s : Shape). (has s.bind 2 || has s.bind 4) ≡ false) shape
      ((buffers r.res c.0 c.1).constants c.2) in
      let z : true ≡ false = sym v.2 ∙ none in cc z
    where
      one_shape : (g : Option Shape) (s t : Shape) → g ≡ Some s → g ≡ Some t → s ≡ t
      one_shape g s t e f = let z : Some s ≡ Some t = sym e ∙ f in cc z

  -- a row of views against another
  rows : AllByRecursion (λ u. AllByRecursion (λ s. ViewFits o u × (ViewFits o s × Distinct u s)) b.srvs) b.uavs
  rows =
      all_both (ViewFits o) (λ u. AllByRecursion (Distinct u) b.srvs)
      (λ u. AllByRecursion (λ s. ViewFits o u × (ViewFits o s × Distinct u s)) b.srvs)
      (λ u f k. all_both (ViewFits o) (Distinct u) (λ s. ViewFits o u
      × (ViewFits o s × Distinct u s)) (λ s g d. (f, (g, d))) b.srvs set.srvs k) b.uavs set.uavs apart.srvs

  -- each slot that may be written is of another buffer than each shader resource
  written_apart : AllByRecursion (λ u. AllByRecursion (λ s. s.range.block ≡ u.range.block → ⊥) srvs) uavs
  written_apart =
      all_slots past slot.Uav (λ x. AllByRecursion (OfTwo o x) (srvs_shown b ds))
      (λ u. AllByRecursion (λ s. s.range.block ≡ u.range.block → ⊥) srvs)
      (λ j r h. all_slots past slot.Srv (OfTwo o (Some r)) (λ s. s.range.block ≡ maker past r.res
      → ⊥) (λ k q t e. two_makers r q t (sym e)) 0 (srvs_shown b ds) h) 0 (uavs_shown b ds)
      (all_shown (λ u. AllByRecursion (λ s. ViewFits o u × (ViewFits o s × Distinct u s)) b.srvs)
      (λ x. AllByRecursion (OfTwo o x) (srvs_shown b ds)) view_shown
      (λ d u h. all_shown (λ s. ViewFits o u × (ViewFits o s × Distinct u s)) (OfTwo o (view_shown d u)) view_shown
      (λ e s k. two_views d e u s k) ds 4 0 b.srvs h) ds 5 0 b.uavs rows)

  uavs_apart : Pairwise SlotsApart uavs
  uavs_apart =
      pair_slots past slot.Uav (OfTwo o) SlotsApart (λ j k r q h w. two_makers r q h) 0 (uavs_shown b ds)
      (pairs_shown (λ u w. ViewFits o u × (ViewFits o w × Distinct u w)) (OfTwo o) view_shown two_views ds 5 0
      b.uavs (pair_both (ViewFits o) Distinct b.uavs set.uavs apart.uavs))

  constants_views : AllByRecursion (λ c. AllByRecursion (λ u. c.range.block ≡ u.range.block → ⊥) uavs) constants
  constants_views =
      all_slots past slot.Constant (OfConstants o) (λ c. AllByRecursion (λ u. c.range.block ≡ u.range.block → ⊥) uavs)
      (λ j r h. all_slots past slot.Uav (OfViews o) (λ u. maker past r.res ≡ u.range.block
      → ⊥) (λ k q v. constant_apart r q h v) 0 (uavs_shown b ds)
      (all_shown (ViewFits o) (OfViews o) view_shown view_of ds 5 0 b.uavs set.uavs))
      0 (constants_shown o b ds) (all_shown (ConstantFits o) (OfConstants o) (constant_shown o) constant_of ds 3 0
      b.constants set.constants)

  -- a list of slots of one kind that no shader may write
  abbrev Read : SlotRange → Type 0
  Read s = is_written_slot s.slot ≡ false

  both_read : (s t : SlotRange) → Read s → Read t → SlotsApart s t
  both_read s t e f w = absurd (let z : false ≡ true = sym (ap (λ c. c || is_written_slot t.slot) e ∙ f) ∙ w in cc z)

  read_rows : (xs ys : List SlotRange) → AllByRecursion Read xs → AllByRecursion Read ys
      → AllByRecursion (λ x. AllByRecursion (SlotsApart x) ys) xs
  read_rows [] ys h k = tt
  read_rows (x ∷ xs) ys h k = (all_by Read (SlotsApart x) (λ y r. both_read x y h.0 r) ys k, read_rows xs ys h.1 k)

  read_pairs : (xs : List SlotRange) → AllByRecursion Read xs → Pairwise SlotsApart xs
  read_pairs [] h = tt
  read_pairs (x ∷ xs) h = (all_by Read (SlotsApart x) (λ y r. both_read x y h.0 r) xs h.1, read_pairs xs h.1)

  all_read : (name : ℕ → SlotName) → ((j : ℕ) → is_written_slot (name j) ≡ false)
      → (i : ℕ) (shown : List (Option ResRange)) → AllByRecursion Read (slots_from past name i shown)
  all_read name f i [] = tt
  all_read name f i (None ∷ shown) = all_read name f (suc i) shown
  all_read name f i (Some r ∷ shown) = (f i, all_read name f (suc i) shown)

  constants_read : AllByRecursion Read constants
  constants_read = all_read slot.Constant (λ j. refl) 0 (constants_shown o b ds)

  srvs_read : AllByRecursion Read srvs
  srvs_read = all_read slot.Srv (λ j. refl) 0 (srvs_shown b ds)

  -- rows the other way round
  turned : (us ss : List SlotRange)
      → AllByRecursion (λ u. AllByRecursion (λ s. s.range.block ≡ u.range.block → ⊥) ss) us
      → AllByRecursion (λ s. AllByRecursion (SlotsApart s) us) ss
  turned [] ss h = each ss
    where
      each : (ss : List SlotRange) → AllByRecursion (λ s. AllByRecursion (SlotsApart s) []) ss
      each [] = tt
      each (s ∷ ss) = (tt, each ss)
  turned (u ∷ us) ss h =
      all_both (λ s. s.range.block ≡ u.range.block → ⊥) (λ s. AllByRecursion (SlotsApart s) us)
      (λ s. AllByRecursion (SlotsApart s) (u ∷ us)) (λ s f k. ((λ w. f), k)) ss h.0 (turned us ss h.1)

  all_apart : Pairwise SlotsApart (constants ++ (srvs ++ uavs))
  all_apart =
      pair_append SlotsApart constants (srvs ++ uavs) (read_pairs constants constants_read)
      (pair_append SlotsApart srvs uavs (read_pairs srvs srvs_read) uavs_apart (turned uavs srvs written_apart))
      (all_both (λ c. AllByRecursion (SlotsApart c) srvs) (λ c. AllByRecursion (λ u. c.range.block ≡ u.range.block
      → ⊥) uavs) (λ c. AllByRecursion (SlotsApart c) (srvs ++ uavs))
      (λ c f g. all_append (SlotsApart c) srvs uavs f (all_by (λ u. c.range.block ≡ u.range.block
      → ⊥) (SlotsApart c) (λ u k w. k) uavs g)) constants (read_rows constants srvs constants_read srvs_read)
      constants_views)

  pub dispatch_formed : (counts : Groups) → GroupsAreFormed counts → DispatchIsFormed counts (slots_listed past o b)
  dispatch_formed counts g = record {
    groups = g;
    rise = all_rise;
    each = all_both (λ s. IsSlot s.slot) Words SlotIsFormed (λ s e w. record {
      exists = e;
      words = w.0;
      limit =
          w.1;
    }) (constants ++ (srvs ++ uavs)) all_exist all_words;
    apart = all_apart;
  }
