-- What the calls of a list bind depends only on the buffers and views that they name.
use Rattle.std.proofs.Common.{◌≡◌, ℕ, zero, suc, Bool, true, false, ◌&&◌, ◌||◌, List, [], ◌∷◌, ◌++◌, map, min, replicate, Option, Some, None, refl, ap, ◌∙◌}
use Rattle.std.specs.Prelude.{◌==◌, ⊤, slice_set, if◌then◌else◌}
use Rattle.std.specs.List.{list_any, filter_map, AllByRecursion}
use Rattle.std.specs.Option.{option_to_list}
use Rattle.std.proofs.lemmas.Bool.{eq-eqb}
use Rattle.dx_types.specs.declared.shape.ViewShape.{ViewShape}
use Rattle.dx_types.specs.declared.range.ResRange.{ResRange}
use Rattle.call_log.specs.Call as calls
use Rattle.call_log.specs.Call.{Call}
use Rattle.base_lemmas.specs.IdMap.{get}
use Rattle.d3d_model.specs.Resource.{size_of}
use Rattle.d3d_model.specs.Binding.{Bindings, BoundView, constant_range, constant_ranges, view_ranges, bound_range, set_srv, set_uav, default_bindings}
use Rattle.d3d_model.specs.D3dState.{Objects, Numbered, buffer_of, bound_if, bound_view}
use Rattle.d3d_model.specs.Past.{Deed, Binds}
use Rattle.d3d_model.specs.Stream.{set_by, cut, predicated, range_of, dispatch_ranges, binds, discarded_by, deeds, deeds_from, deeds_of_list, names, is_name, list_names}
use Rattle.d3d_model.proofs.Named.{or_right}

-- the objects that are named are the same in both
pub record Agrees (o o' : Objects) (named : ℕ → ℕ → Bool) : Type 0 where
  pub buffers : (id : ℕ) → named 1 id ≡ true → get o'.buffers id ≡ get o.buffers id
  pub views : (id : ℕ) → named 2 id ≡ true → get o'.views id ≡ get o.views id

abbrev pub named_by : Call → ℕ → ℕ → Bool
named_by c class id = list_any (is_name class id) (names c)

or_left : (a b : Bool) → a ≡ true → a || b ≡ true
or_left true b e = refl
or_left false b e = absurd cc

and_both : (a b : Bool) → a ≡ true → b ≡ true → a && b ≡ true
and_both true b e f = f
and_both false b e f = absurd cc

self : (k id : ℕ) (rest : Bool) → ((k == k) && (id == id)) || rest ≡ true
self k id rest = or_left _ rest (and_both (k == k) (id == id) (eq-eqb k k refl) (eq-eqb id id refl))

same_bound : (o o' : Objects) (view : ℕ) → get o'.views view ≡ get o.views view → bound_view o' view ≡ bound_view o view
same_bound o o' view e = ap (λ (g : Option ViewShape). if view == 0 then None else bound_if view g) e

-- ---- the bindings

abbrev pub SameSize : Objects → Objects → Option ResRange → Type 0
SameSize o o' None = ⊤
SameSize o o' (Some r) = size_of (buffer_of o' r.res) ≡ size_of (buffer_of o r.res)

-- each constant slot's buffer has the same size in both
abbrev pub SameConstants : Objects → Objects → Bindings → Type 0
SameConstants o o' b = AllByRecursion (SameSize o o') b.constants

set_all : (P : Option ResRange → Type 0) (xs : List (Option ResRange)) (i : ℕ) (v : Option ResRange) → P v → AllByRecursion P xs → AllByRecursion P (slice_set xs i v)
set_all P [] i v p h = tt
set_all P (x ∷ xs) zero v p h = (p, h.1)
set_all P (x ∷ xs) (suc i) v p h = (h.0, set_all P xs i v p h.1)

none_all : (o o' : Objects) (n : ℕ) → AllByRecursion (SameSize o o') (replicate n None)
none_all o o' zero = tt
none_all o o' (suc n) = (tt, none_all o o' n)

same_constant : (o o' : Objects) (res : ℕ) → get o'.buffers res ≡ get o.buffers res → SameSize o o' (constant_range res)
same_constant o o' res e = elim (res == 0) as (λ b. SameSize o o' (if b then None else Some (record { res = res; from = 0; to = 65536 }))) [
  | true ↦ tt
  | false ↦ ap size_of e
]

same_set : (o o' : Objects) (b : Bindings) (c : Call) → Agrees o o' (named_by c) → set_by o' b c ≡ set_by o b c
same_set o o' b (calls.SetSrv slot view) h = ap (λ (v : Option BoundView). set_srv b slot v) (same_bound o o' view (h.views view (self 2 view false)))
same_set o o' b (calls.SetUav slot view) h = ap (λ (v : Option BoundView). set_uav b slot v) (same_bound o o' view (h.views view (self 2 view false)))
same_set o o' b _ h = refl

keep_constants : (o o' : Objects) (b : Bindings) (c : Call) → Agrees o o' (named_by c) → SameConstants o o' b → SameConstants o o' (set_by o b c)
keep_constants o o' b (calls.SetConstant slot res) h k = set_all (SameSize o o') b.constants slot (constant_range res) (same_constant o o' res (h.buffers res (self 1 res false))) k
keep_constants o o' b calls.ClearState h k = none_all o o' 14
keep_constants o o' b _ h k = k

-- ---- the ranges

same_cuts : (o o' : Objects) (xs : List (Option ResRange)) → AllByRecursion (SameSize o o') xs → map (cut o') (filter_map (λ slot. slot) xs) ≡ map (cut o) (filter_map (λ slot. slot) xs)
same_cuts o o' [] h = refl
same_cuts o o' (None ∷ xs) h = same_cuts o o' xs h.1
same_cuts o o' (Some r ∷ xs) h = λ i. record { res = r.res; from = r.from; to = min r.to (h.0 i) } ∷ same_cuts o o' xs h.1 i

same_dispatch : (o o' : Objects) (b : Bindings) → SameConstants o o' b → dispatch_ranges o' b ≡ dispatch_ranges o b
unfolding constant_ranges
same_dispatch o o' b k = ap (λ (rs : List ResRange). rs ++ view_ranges b) (same_cuts o o' b.constants k)

same_binds : (o o' : Objects) (b : Bindings) (c : Call) → Agrees o o' (named_by c) → SameConstants o o' b → binds o' b c ≡ binds o b c
same_binds o o' b (calls.Dispatch x y z) h k = same_dispatch o o' b k
same_binds o o' b (calls.DispatchIndirect res offset) h k = ap (λ (rs : List ResRange). range_of res offset 12 ++ rs) (same_dispatch o o' b k)
same_binds o o' b (calls.Copy target source) h k = λ i.
    predicated b (range_of source 0 (size_of (h.buffers source (or_right _ _ (self 1 source false)) i)) ++ range_of target 0 (size_of (h.buffers target (self 1 target _) i)))
same_binds o o' b (calls.ClearUav view v0 v1 v2 v3) h k = ap (λ (v : Option BoundView). predicated b (option_to_list (bound_range v))) (same_bound o o' view (h.views view (self 2 view false)))
same_binds o o' b _ h k = refl

-- ---- a list

same_deeds : (o o' : Objects) (b : Bindings) (cs : List Numbered) → Agrees o o' (λ class id. list_names class id cs) → SameConstants o o' b → deeds_from o' b cs ≡ deeds_from o b cs
same_deeds o o' b [] h k = refl
same_deeds o o' b (c ∷ cs) h k =
    let here : Agrees o o' (named_by c.call) = record {
      buffers = λ id e. h.buffers id (or_left (named_by c.call 1 id) (list_names 1 id cs) e);
      views = λ id e. h.views id (or_left (named_by c.call 2 id) (list_names 2 id cs) e);
    } in
    let later : Agrees o o' (λ class id. list_names class id cs) = record {
      buffers = λ id e. h.buffers id (or_right (named_by c.call 1 id) (list_names 1 id cs) e);
      views = λ id e. h.views id (or_right (named_by c.call 2 id) (list_names 2 id cs) e);
    } in
    ap (λ (rs : List ResRange). (discarded_by c.call ++ map Binds rs) ++ deeds_from o' (set_by o' b c.call) cs) (same_binds o o' b c.call here k)
    ∙ ap (λ (b' : Bindings). deeds o b c.call ++ deeds_from o' b' cs) (same_set o o' b c.call here)
    ∙ ap (λ (ds : List Deed). deeds o b c.call ++ ds) (same_deeds o o' (set_by o b c.call) cs later (keep_constants o o' b c.call here k))

-- what a list binds is the same where what it names is the same
pub same_list : (o o' : Objects) (cs : List Numbered) → Agrees o o' (λ class id. list_names class id cs) → deeds_of_list o' cs ≡ deeds_of_list o cs
same_list o o' cs h = same_deeds o o' default_bindings cs h (none_all o o' 14)
