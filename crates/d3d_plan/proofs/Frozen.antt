-- An accepted call changes nothing of what an open or a live list binds.
use Rattle.std.proofs.Common.{◌≡◌, ℕ, Bool, true, false, ◌||◌, List, [], ◌∷◌, ◌++◌, length, drop, Some, refl, sym, ap, subst, ◌∙◌, append_assoc}
use Rattle.std.specs.List.{filter_map, list_any}
use Rattle.std.proofs.Math.Seq.{drop-append_seam}
use Rattle.dx_types.specs.declared.range.ResRange.{ResRange}
use Rattle.call_log.specs.Call.{Call}
use Rattle.base_lemmas.specs.IdMap.{get}
use Rattle.d3d_model.specs.Binding.{Bindings, default_bindings}
use Rattle.d3d_model.specs.D3dState.{Numbered, Objects, context_of}
use Rattle.d3d_model.specs.Effect.{objects_after}
use Rattle.d3d_model.specs.Past.{Deed, then_done}
use Rattle.d3d_model.specs.Stream.{binds, deeds, deeds_of_list, is_name, list_names, names, set_by}
use Rattle.d3d_model.specs.Uses.{range_bound}
use Rattle.d3d_model.proofs.Frozen.{same_list}
use Rattle.d3d_model.proofs.Listed.{ListsLive, listed_member, lists_live, opened_member, own_checks}
use Rattle.d3d_model.proofs.Unchanged.{ListAgrees, agrees_after}
use Rattle.d3d_checks.specs.Accepted.{Accepted}
use Rattle.d3d_uses.specs.Summary.{Summarises}
use Rattle.d3d_effects.specs.Listed.{KeepsList, bindings_after, bound_by_list, ends_from, parts_from, parts_of_list}
use Rattle.d3d_effects.specs.declared.listed.ListUses.{ListUses}
use Rattle.d3d_effects.proofs.ListCalls.{bound_each, deeds_more}
use Rattle.d3d_effects.proofs.Opened.{SetByLists, after_more, set_by_lists}
use Rattle.d3d_plan.specs.Keeping.{IsReached}
use Rattle.d3d_plan.specs.Planned.{numbers}
use Rattle.d3d_plan.specs.Shown.{Holds}
use Rattle.d3d_plan.specs.declared.tables.Piece.{Piece}
use Rattle.d3d_plan.specs.declared.tables.Tables.{Tables}

-- ---- the ranges of each call

front_named : (class id : ℕ) (pre cs : List Numbered) → list_names class id pre ≡ true → list_names class id (pre ++ cs) ≡ true
front_named class id [] cs e = absurd cc
front_named class id (c ∷ pre) cs e = either (list_any (is_name class id) (names c.call)) (list_names class id pre) (list_names class id (pre ++ cs)) e (front_named class id pre cs)
  where
    either : (a b more : Bool) → a || b ≡ true → (b ≡ true → more ≡ true) → a || more ≡ true
    either true b more e f = refl
    either false b more e f = f e

agrees_front : (o o' : Objects) (pre cs : List Numbered) → ListAgrees o o' (pre ++ cs) → ListAgrees o o' pre
agrees_front o o' pre cs h = record {
  buffers = λ id e. h.buffers id (front_named 1 id pre cs e);
  views = λ id e. h.views id (front_named 2 id pre cs e);
}

same_behind : (front x y : List Deed) → front ++ x ≡ front ++ y → x ≡ y
same_behind front x y e = sym (drop-append_seam front x) ∙ ap (drop (length front)) e ∙ drop-append_seam front y

same_item : (o o' : Objects) (pre : List Numbered) (c : Numbered) → ListAgrees o o' (pre ++ c ∷ [])
    → deeds o' (bindings_after o' default_bindings pre) c.call ≡ deeds o (bindings_after o default_bindings pre) c.call
same_item o o' pre c h =
    let new = deeds o' (bindings_after o' default_bindings pre) c.call in
    same_behind (deeds_of_list o pre) new (deeds o (bindings_after o default_bindings pre) c.call)
    (ap (λ (ds : List Deed). ds ++ new) (sym (same_list o o' pre (agrees_front o o' pre (c ∷ []) h)))
    ∙ sym (deeds_more o' default_bindings pre c) ∙ same_list o o' (pre ++ c ∷ []) h ∙ deeds_more o default_bindings pre c)

same_bound : (o o' : Objects) (pre : List Numbered) (c : Numbered) → ListAgrees o o' (pre ++ c ∷ [])
    → binds o' (bindings_after o' default_bindings pre) c.call ≡ binds o (bindings_after o default_bindings pre) c.call
same_bound o o' pre c h =
    sym (bound_each o' (bindings_after o' default_bindings pre) c.call) ∙ ap (λ (ds : List Deed). filter_map range_bound ds) (same_item o o' pre c h)
    ∙ bound_each o (bindings_after o default_bindings pre) c.call

parts_behind : (o o' : Objects) (pre cs : List Numbered) → ListAgrees o o' (pre ++ cs)
    → parts_from o' (bindings_after o' default_bindings pre) cs ≡ parts_from o (bindings_after o default_bindings pre) cs
unfolding parts_from
parts_behind o o' pre [] h = refl
parts_behind o o' pre (c ∷ cs) h =
    let whole : ListAgrees o o' ((pre ++ c ∷ []) ++ cs) = subst (λ (l : List Numbered). ListAgrees o o' l) (sym (append_assoc pre (c ∷ []) cs)) h in
    let rest = parts_from o' (set_by o' (bindings_after o' default_bindings pre) c.call) cs in
    ap (λ (rs : List ResRange). rs ∷ rest) (same_bound o o' pre c (agrees_front o o' (pre ++ c ∷ []) cs whole))
    ∙ ap (λ (ps : List (List ResRange)). binds o (bindings_after o default_bindings pre) c.call ∷ ps)
    (ap (λ (b : Bindings). parts_from o' b cs) (sym (after_more o' default_bindings pre c))
    ∙ parts_behind o o' (pre ++ c ∷ []) cs whole
    ∙ ap (λ (b : Bindings). parts_from o b cs) (after_more o default_bindings pre c))

parts_same : (o o' : Objects) (cs : List Numbered) → ListAgrees o o' cs → parts_of_list o' cs ≡ parts_of_list o cs
unfolding bindings_after
parts_same o o' cs h = parts_behind o o' [] cs h

-- ---- what is kept of a list

pub list_stays : (o o' : Objects) (cs : List Numbered) (l : ListUses) → ListAgrees o o' cs → KeepsList o cs l → KeepsList o' cs l
list_stays o o' cs l h k =
    let same = sym (same_list o o' cs h) in
    record {
      asked = λ res. subst (λ (ds : List Deed). Summarises (then_done 0 [] ds) l.uses res) same (k.asked res);
      numbers = k.numbers;
      bound = k.bound ∙ ap (λ (ds : List Deed). filter_map range_bound ds) same;
      ends = k.ends ∙ ap (ends_from 0) (sym (parts_same o o' cs h));
    }

pub piece_stays : (o o' : Objects) (cs : List Numbered) (t : Tables) (p : Piece) → ListAgrees o o' cs → Holds t p (bound_by_list o cs) (numbers cs) (parts_of_list o cs)
    → Holds t p (bound_by_list o' cs) (numbers cs) (parts_of_list o' cs)
piece_stays o o' cs t p h k = record {
  within = k.within;
  bound = k.bound ∙ ap (λ (ds : List Deed). filter_map range_bound ds) (sym (same_list o o' cs h));
  calls = k.calls;
  parts = k.parts ∙ sym (parts_same o o' cs h);
}

-- ---- of a state that a log reaches

pub are_live : (o : Objects) → IsReached o → ListsLive o
are_live o r = subst (λ (k : Objects). ListsLive k) (sym r.is) (lists_live r.log r.count)

pub are_set : (o : Objects) → IsReached o → SetByLists o
are_set o r = subst (λ (k : Objects). SetByLists k) (sym r.is) (set_by_lists r.log r.count)

pub open_agrees : (n : ℕ) (o : Objects) (x : ℕ) (c : Call) → IsReached o → Accepted o x c → (y : ℕ) → ListAgrees o (objects_after n o x c) (context_of o y).recorded
open_agrees n o x c r a y = agrees_after n o a.past x c (own_checks o a.past x c a.passes) (context_of o y).recorded ((are_live o r).opened y) (opened_member o y)

pub live_agrees : (n : ℕ) (o : Objects) (x : ℕ) (c : Call) → IsReached o → Accepted o x c → (l : ℕ) (cs : List Numbered) → get o.lists l ≡ Some cs → ListAgrees o (objects_after n o x c) cs
live_agrees n o x c r a l cs is = agrees_after n o a.past x c (own_checks o a.past x c a.passes) cs ((are_live o r).listed l cs is) (listed_member o l cs is)
