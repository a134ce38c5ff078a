-- The invocations of a dispatch, one after another.
use Rattle.std.proofs.Common.{◌≡◌, ℕ, ◌*◌, Bool, true, false, if◌then◌else◌, Some, None, List, [], ◌∷◌, ◌++◌, map, refl, sym, ap, ◌∙◌}
use Rattle.std.specs.Prelude.{flat_map}
use Rattle.shader_model.specs.declared.ids.Ids.{Ids}
use Rattle.shader_model.specs.Shader.{Program}
use Rattle.shader_model.specs.Invocation.{Slots, invoked}
use Rattle.shader_model.specs.Dispatch.{in_group, group_invocations, invocations, run_all, volume, is_allowed, dispatched}

run_both : (p : Program) (xs ys : List Ids) (s : Slots) → run_all p (xs ++ ys) s ≡ run_all p ys (run_all p xs s)
run_both p [] ys s = refl
run_both p (x ∷ xs) ys s = run_both p xs ys (invoked p x s)

-- a thread more of a group
pub one_thread : (p : Program) (size group t : List ℕ) (before ts : List (List ℕ)) (now after : Slots) → before ≡ t ∷ ts → after ≡ invoked p (in_group size group t) now
    → run_all p (map (in_group size group) ts) after ≡ run_all p (map (in_group size group) before) now
one_thread p size group t before ts now after e h =
    ap (run_all p (map (in_group size group) ts)) h ∙ ap (λ l. run_all p (map (in_group size group) l) now) (sym e)

-- no thread more
pub no_thread : (p : Program) (size group : List ℕ) (before : List (List ℕ)) (now : Slots) → before ≡ [] → now ≡ run_all p (map (in_group size group) before) now
no_thread p size group before now e = ap (λ l. run_all p (map (in_group size group) l) now) (sym e)

-- a group more
pub one_group : (p : Program) (size g : List ℕ) (before gs : List (List ℕ)) (now after : Slots) → before ≡ g ∷ gs → after ≡ run_all p (group_invocations size g) now
    → run_all p (flat_map (group_invocations size) gs) after ≡ run_all p (flat_map (group_invocations size) before) now
one_group p size g before gs now after e h =
    ap (run_all p (flat_map (group_invocations size) gs)) h
    ∙ sym (run_both p (group_invocations size g) (flat_map (group_invocations size) gs) now)
    ∙ ap (λ l. run_all p (flat_map (group_invocations size) l) now) (sym e)

-- no group more
pub no_group : (p : Program) (size : List ℕ) (before : List (List ℕ)) (now : Slots) → before ≡ [] → now ≡ run_all p (flat_map (group_invocations size) before) now
no_group p size before now e = ap (λ l. run_all p (flat_map (group_invocations size) l) now) (sym e)

allowed : (b : Bool) (v n : ℕ) → Some n ≡ (if b then Some v else None) → b ≡ true
allowed true v n h = refl
allowed false v n h = cc

-- where a dispatch is allowed, it runs all its invocations
pub runs : (p : Program) (groups : List ℕ) (n : ℕ) (s t : Slots) → Some n ≡ (if is_allowed groups p.group then Some (volume groups * volume p.group) else None) → t ≡ run_all p (invocations groups p.group) s → t ≡ dispatched p groups s
runs p groups n s t h e =
    let all = run_all p (invocations groups p.group) s in
    e ∙ sym (ap (λ (b : Bool). if b then all else s) (allowed (is_allowed groups p.group) (volume groups * volume p.group) n h))
