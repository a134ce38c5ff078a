-- Ranges are appended slot by slot.
use Rattle.std.proofs.Common.{◌≡◌, ℕ, ◌+◌, ◌≤◌, ◌<◌, List, [], ◌∷◌, ◌++◌, length, map, take, get_or, Option, Some, None, refl, sym, ap, ◌∙◌, append_assoc}
use Rattle.std.specs.List.{filter_map}
use Rattle.std.specs.Option.{option_map, option_to_list}
use Rattle.std.proofs.lemmas.List.{take_all, take_more}
use Rattle.std.proofs.lemmas.List.Elements.{filter_map-append}
use Rattle.dx_types.specs.declared.range.ResRange.{ResRange}
use Rattle.d3d_model.specs.Binding.{Bindings, bound_range, constant_ranges, predicate_range, view_ranges}
use Rattle.d3d_model.specs.D3dState.{Objects}
use Rattle.d3d_model.specs.Stream.{cut, dispatch_ranges}

one_value : {X Y : Type 0} (h : X → Option Y) (x : X) (o : Option Y) → h x ≡ o → filter_map h (x ∷ []) ≡ option_to_list o
one_value h x None e = rw e refl
one_value h x (Some y) e = rw e refl

-- one more slot gives what it has
pub one_more : {X Y : Type 0} (h : X → Option Y) (xs : List X) (i : ℕ) (d : X) (before items after : List Y) (y : Option Y) → i < length xs → y ≡ h (get_or xs i d)
    → items ≡ before ++ filter_map h (take i xs) → after ≡ items ++ option_to_list y → after ≡ before ++ filter_map h (take (i + 1) xs)
one_more h xs i d before items after y below gives so_far pushes =
    pushes ∙ ap (λ (l : List _). l ++ option_to_list y) so_far ∙ append_assoc before (filter_map h (take i xs)) (option_to_list y)
    ∙ ap (λ (l : List _). before ++ l)
    (ap (λ (l : List _). filter_map h (take i xs) ++ l) (sym (one_value h (get_or xs i d) y (sym gives)))
    ∙ sym (ap (filter_map h) (take_more xs i d below) ∙ filter_map-append h (take i xs) (get_or xs i d ∷ [])))

-- all slots
pub all_slots : {X Y : Type 0} (h : X → Option Y) (xs : List X) (n : ℕ) (before after : List Y) → length xs ≤ n → after ≡ before ++ filter_map h (take n xs) → after ≡ before ++ filter_map h xs
all_slots h xs n before after long e = e ∙ ap (λ (l : List _). before ++ filter_map h l) (take_all n xs long)

-- what is set, each cut
pub each_cut : {X Y : Type 0} (f : X → Y) (xs : List (Option X)) → filter_map (λ s. option_map f s) xs ≡ map f (filter_map (λ s. s) xs)
each_cut f [] = refl
each_cut f (None ∷ xs) = each_cut f xs
each_cut f (Some x ∷ xs) = ap (λ (l : List _). f x ∷ l) (each_cut f xs)

pub constants_cut : (o : Objects) (b : Bindings) → filter_map (λ s. option_map (cut o) s) b.constants ≡ map (cut o) (constant_ranges b)
unfolding constant_ranges
constants_cut o b = each_cut (cut o) b.constants

-- the four parts of what a dispatch binds
pub all_bound : (o : Objects) (b : Bindings) (r0 r1 r2 r3 r4 word : List ResRange) → r1 ≡ r0 ++ map (cut o) (constant_ranges b) → r2 ≡ r1 ++ filter_map bound_range b.srvs
    → r3 ≡ r2 ++ filter_map bound_range b.uavs → word ≡ predicate_range b.predicate → r4 ≡ r3 ++ word → r4 ≡ r0 ++ dispatch_ranges o b
unfolding view_ranges
all_bound o b r0 r1 r2 r3 r4 word e1 e2 e3 ew e4 =
    let cs = map (cut o) (constant_ranges b) in
    let ss = filter_map bound_range b.srvs in
    let us = filter_map bound_range b.uavs in
    let ws = predicate_range b.predicate in
    e4 ∙ ap (λ (l : List ResRange). r3 ++ l) ew ∙ ap (λ (l : List ResRange). l ++ ws) (e3 ∙ ap (λ (l : List ResRange). l ++ us) (e2 ∙ ap (λ (l : List ResRange). l ++ ss) e1))
    ∙ append_assoc (r0 ++ cs ++ ss) us ws ∙ append_assoc (r0 ++ cs) ss (us ++ ws) ∙ append_assoc r0 cs (ss ++ (us ++ ws))
