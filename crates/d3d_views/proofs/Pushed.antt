-- Ranges are appended slot by slot.
use Rattle.std.proofs.Common.{◌≡◌, ℕ, ◌+◌, ◌<◌, List, [], ◌∷◌, ◌++◌, length, take, get_or, Option, Some, None, refl, sym, ap, ◌∙◌, append_assoc}
use Rattle.std.specs.List.{filter_map}
use Rattle.std.proofs.lemmas.List.{take_more}
use Rattle.std.proofs.lemmas.List.Elements.{filter_map-append}
use Rattle.dx_types.specs.declared.range.ResRange.{ResRange}
use Rattle.d3d_model.specs.Binding.{Bindings, bound_range, predicate_range, constant_ranges, view_ranges, footprint}

one_given : {X Y : Type 0} (h : X → Option Y) (x : X) (y : Y) → h x ≡ Some y → filter_map h (x ∷ []) ≡ y ∷ []
one_given h x y e = rw e refl

none_given : {X Y : Type 0} (h : X → Option Y) (x : X) → h x ≡ None → filter_map h (x ∷ []) ≡ []
none_given h x e = rw e refl

more : {X Y : Type 0} (h : X → Option Y) (xs : List X) (i : ℕ) (d : X) → i < length xs
    → filter_map h (take (i + 1) xs) ≡ filter_map h (take i xs) ++ filter_map h (get_or xs i d ∷ [])
more h xs i d below = ap (filter_map h) (take_more xs i d below) ∙ filter_map-append h (take i xs) (get_or xs i d ∷ [])

-- a slot that is set gives its range
pub pushed : {X Y : Type 0} (h : X → Option Y) (xs : List X) (i : ℕ) (d : X) (before items after : List Y) (y : Y) → i < length xs → h (get_or xs i d) ≡ Some y
    → items ≡ before ++ filter_map h (take i xs) → after ≡ items ++ y ∷ [] → after ≡ before ++ filter_map h (take (i + 1) xs)
pushed h xs i d before items after y below gives so_far pushes =
    pushes ∙ ap (λ (l : List _). l ++ y ∷ []) so_far ∙ append_assoc before (filter_map h (take i xs)) (y ∷ [])
    ∙ ap (λ (l : List _). before ++ l) (ap (λ (l : List _). filter_map h (take i xs) ++ l) (sym (one_given h (get_or xs i d) y gives)) ∙ sym (more h xs i d below))

-- an empty slot gives none
pub skipped : {X Y : Type 0} (h : X → Option Y) (xs : List X) (i : ℕ) (d : X) (before items : List Y) → i < length xs → h (get_or xs i d) ≡ None
    → items ≡ before ++ filter_map h (take i xs) → items ≡ before ++ filter_map h (take (i + 1) xs)
skipped h xs i d before items below gives so_far =
    so_far ∙ ap (λ (l : List _). before ++ l) (sym (more h xs i d below ∙ ap (λ (l : List _). filter_map h (take i xs) ++ l) (none_given h (get_or xs i d) gives) ∙ simp append_nil))
  where
    append_nil : {Y : Type 0} (l : List Y) → l ++ [] ≡ l
    append_nil [] = refl
    append_nil (x ∷ l) = ap (λ (r : List _). x ∷ r) (append_nil l)

-- the four parts of a dispatch's ranges
pub all_parts : (b : Bindings) (r0 r1 r2 r3 r4 : List ResRange) → r0 ≡ [] → r1 ≡ r0 ++ filter_map (λ slot. slot) b.constants → r2 ≡ r1 ++ filter_map bound_range b.srvs
    → r3 ≡ r2 ++ filter_map bound_range b.uavs → r4 ≡ r3 ++ predicate_range b.predicate → r4 ≡ footprint b
unfolding constant_ranges view_ranges
all_parts b r0 r1 r2 r3 r4 e0 e1 e2 e3 e4 =
    e4 ∙ ap (λ (l : List ResRange). l ++ predicate_range b.predicate) (e3 ∙ ap (λ (l : List ResRange). l ++ filter_map bound_range b.uavs)
    (e2 ∙ ap (λ (l : List ResRange). l ++ filter_map bound_range b.srvs) (e1 ∙ ap (λ (l : List ResRange). l ++ filter_map (λ slot. slot) b.constants) e0)))
    ∙ append_assoc (filter_map (λ slot. slot) b.constants ++ filter_map bound_range b.srvs) (filter_map bound_range b.uavs) (predicate_range b.predicate)
    ∙ append_assoc (filter_map (λ slot. slot) b.constants) (filter_map bound_range b.srvs) (filter_map bound_range b.uavs ++ predicate_range b.predicate)
