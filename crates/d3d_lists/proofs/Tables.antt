-- The tables of lists, after each change.
use Rattle.std.proofs.Common.{◌≡◌, ℕ, ◌+◌, ◌<◌, Bool, true, false, cond, List, [], ◌∷◌, ◌++◌, length, map, get_or, replicate, set, Option, Some, None, Result, Ok, Err, OnOk, OnErr, refl, sym, ap, ◌∙◌, arith}
use Rattle.std.specs.Prelude.{slice_set}
use Rattle.std.specs.Global.{Vec}
use Rattle.std.specs.Option.{option_map}
use Rattle.std.specs.Ordering.{nat_cmp, eq_by_cmp}
use Rattle.std.specs.Map.{lookup}
use Rattle.std.specs.BTreeMap.{is_at}
use Rattle.std.proofs.lemmas.Bool.Decides.{nat_tests}
use Rattle.std.proofs.lemmas.List.{map-set, get_or-map, length-map, map-append, replicate-append-replicate}
use Rattle.base_lemmas.specs.IdMap.{IdMap, empty, get, insert, remove}
use Rattle.base_lemmas.specs.CodeMap.{map_of}
use Rattle.base_lemmas.proofs.Maps.{get-insert, get-remove, same_map}
use Rattle.base_lemmas.proofs.CodeMaps.{get-map_of, map_of-insert, map_of-nil, map_of-remove}
use Rattle.d3d_model.specs.D3dState.{Numbered}
use Rattle.d3d_lists.specs.declared.numbered.Numbered as code
use Rattle.d3d_lists.specs.declared.opened.OpenList.{OpenList}
use Rattle.d3d_lists.specs.Calls.{calls_in, numbered}
use Rattle.d3d_lists.specs.Lists.{Lists, lists_in}
use Rattle.d3d_lists.specs.Opened.{calls_of, recorded_at, recorded_in}

-- ---- calls

pub calls_in-nil : calls_in [] ≡ []
unfolding calls_in
calls_in-nil = refl

pub calls_in-more : (cs : List code.Numbered) (c : code.Numbered) → calls_in (cs ++ c ∷ []) ≡ calls_in cs ++ numbered c ∷ []
unfolding calls_in
calls_in-more cs c = map-append numbered cs (c ∷ [])

pub length-calls_in : (cs : List code.Numbered) → length (calls_in cs) ≡ length cs
unfolding calls_in
length-calls_in cs = length-map cs numbered

-- ---- open lists

-- one open list has these calls in place of its own
pub recorded_in-set : (opened : List OpenList) (x : ℕ) (o : OpenList) (cs : List Numbered) → calls_of o ≡ cs → recorded_in (set opened x o) ≡ slice_set (recorded_in opened) x cs
recorded_in-set opened x o cs e = map-set calls_of opened x o ∙ ap (set (map calls_of opened) x) e

pub length-recorded_in : (opened : List OpenList) → length (recorded_in opened) ≡ length opened
length-recorded_in opened = length-map opened calls_of

-- one more open list, which is empty
pub recorded_in-more : (opened : List OpenList) (o : OpenList) (n : ℕ) → recorded_in opened ≡ replicate n [] → calls_of o ≡ [] → recorded_in (opened ++ o ∷ []) ≡ replicate (n + 1) []
recorded_in-more opened o n each empty =
    map-append calls_of opened (o ∷ []) ∙ (λ i. each i ++ empty i ∷ []) ∙ replicate-append-replicate n 1 []

pub recorded_at-get : (opened : List OpenList) (x : ℕ) (d : OpenList) → x < length opened → recorded_at opened x ≡ calls_of (get_or opened x d)
recorded_at-get opened x d h = get_or-map calls_of opened x d [] h

-- ---- live lists

abbrev pub list_of : Vec code.Numbered → List Numbered
list_of v = calls_in v.items

pub lists_in-nil : lists_in [] ≡ empty
unfolding lists_in
lists_in-nil = map_of-nil list_of

pub get-lists_in : (es : List (ℕ × Vec code.Numbered)) (id : ℕ) → get (lists_in es) id ≡ option_map list_of (lookup (is_at (nat_cmp id)) es)
unfolding lists_in
get-lists_in es id = get-map_of list_of es id

pub lists_in-insert : (es fs : List (ℕ × Vec code.Numbered)) (k : ℕ) (v : Vec code.Numbered)
    → ((q : ℕ) → lookup (is_at (nat_cmp q)) fs ≡ cond (is_at (nat_cmp k) q) (Some v) (lookup (is_at (nat_cmp q)) es))
    → lists_in fs ≡ insert (lists_in es) k (list_of v)
unfolding lists_in
lists_in-insert es fs k v h = map_of-insert list_of es fs k v h

pub lists_in-remove : (es fs : List (ℕ × Vec code.Numbered)) (k : ℕ)
    → ((q : ℕ) → lookup (is_at (nat_cmp q)) fs ≡ cond (is_at (nat_cmp k) q) None (lookup (is_at (nat_cmp q)) es))
    → lists_in fs ≡ remove (lists_in es) k
unfolding lists_in
lists_in-remove es fs k h = map_of-remove list_of es fs k h

-- an entry that is there takes another value without memory
pub had_room : {T E U X : Type 0} (r : Result T E) (o : Option X) (v : X) → OnOk r U → OnErr r (o ≡ None) → o ≡ Some v → U
had_room (Ok x) o v updates absent live = updates
had_room (Err e) o v updates absent live = absurd (some_is_none o v live absent)
  where
    some_is_none : {X : Type 0} (o : Option X) (v : X) → o ≡ Some v → o ≡ None → ⊥
    some_is_none o v e f = cc

same_key : (q : ℕ) → eq_by_cmp nat_cmp q q ≡ true
same_key q = grind (arith, nat_tests)

-- what was put at an id is there
pub put_there : {X : Type 0} (es fs : List (ℕ × X)) (k : ℕ) (v : X) → ((q : ℕ) → lookup (is_at (nat_cmp q)) fs ≡ cond (is_at (nat_cmp k) q) (Some v) (lookup (is_at (nat_cmp q)) es))
    → lookup (is_at (nat_cmp k)) fs ≡ Some v
put_there es fs k v h = h k ∙ ap (λ b. cond b (Some v) (lookup (is_at (nat_cmp k)) es)) (same_key k)

again : {X : Type 0} (b : Bool) (v w : X) (o : Option X) → cond b (Some v) (cond b (Some w) o) ≡ cond b (Some v) o
again true v w o = refl
again false v w o = refl

-- a second value at an id is there in place of the first
pub insert_again : {X : Type 0} (m : IdMap X) (k : ℕ) (v w : X) → insert (insert m k w) k v ≡ insert m k v
insert_again m k v w = same_map _ _ (λ q.
    get-insert (insert m k w) k v q ∙ ap (cond (eq_by_cmp nat_cmp q k) (Some v)) (get-insert m k w q) ∙ again (eq_by_cmp nat_cmp q k) v w (get m q) ∙ sym (get-insert m k v q))
