-- Ordered maps of the code, seen as maps from ids: what a look-up and a change come to.
use Rattle.std.proofs.Common.{◌≡◌, ℕ, Bool, true, false, cond, List, [], ◌∷◌, Option, Some, None, refl, sym, ap, ◌∙◌}
use Rattle.std.specs.Option.{option_map}
use Rattle.std.specs.Ordering.{nat_cmp, eq_by_cmp}
use Rattle.std.specs.Cmp.{nat_cmp_total, eq_by_cmp_equiv}
use Rattle.std.specs.Map.{lookup}
use Rattle.std.specs.BTreeMap.{is_at}
use Rattle.base_lemmas.specs.IdMap.{empty, get, insert, remove}
use Rattle.base_lemmas.specs.CodeMap.{map_of}
use Rattle.base_lemmas.proofs.Maps.{get-empty, get-insert, get-remove, same_map}

map_cond : {X Y : Type 0} (f : X → Y) (b : Bool) (o p : Option X) → option_map f (cond b o p) ≡ cond b (option_map f o) (option_map f p)
map_cond f true o p = refl
map_cond f false o p = refl

pub map_of-nil : {X Y : Type 0} (f : X → Y) → map_of f [] ≡ empty
unfolding map_of
map_of-nil f = refl

-- what it has at an id
pub get-map_of : {X Y : Type 0} (f : X → Y) (es : List (ℕ × X)) (q : ℕ) → get (map_of f es) q ≡ option_map f (lookup (is_at (nat_cmp q)) es)
unfolding map_of
get-map_of {X} {Y} f [] q = get-empty Y q
get-map_of f (e ∷ es) q =
    get-insert (map_of f es) e.0 (f e.1) q
    ∙ ap (cond (eq_by_cmp nat_cmp q e.0) (Some (f e.1))) (get-map_of f es q)
    ∙ sym (map_cond f (eq_by_cmp nat_cmp q e.0) (Some e.1) (lookup (is_at (nat_cmp q)) es))

-- entries that differ at one id make maps that differ there
pub map_of-insert : {X Y : Type 0} (f : X → Y) (es fs : List (ℕ × X)) (k : ℕ) (v : X)
    → ((q : ℕ) → lookup (is_at (nat_cmp q)) fs ≡ cond (is_at (nat_cmp k) q) (Some v) (lookup (is_at (nat_cmp q)) es))
    → map_of f fs ≡ insert (map_of f es) k (f v)
map_of-insert f es fs k v h = same_map _ _ (λ q.
    get-map_of f fs q ∙ ap (option_map f) (h q) ∙ map_cond f (is_at (nat_cmp k) q) (Some v) (lookup (is_at (nat_cmp q)) es)
    ∙ ap (λ b. cond b (Some (f v)) (option_map f (lookup (is_at (nat_cmp q)) es))) ((eq_by_cmp_equiv nat_cmp_total).symm k q)
    ∙ sym (get-insert (map_of f es) k (f v) q ∙ ap (cond (eq_by_cmp nat_cmp q k) (Some (f v))) (get-map_of f es q)))

pub map_of-remove : {X Y : Type 0} (f : X → Y) (es fs : List (ℕ × X)) (k : ℕ)
    → ((q : ℕ) → lookup (is_at (nat_cmp q)) fs ≡ cond (is_at (nat_cmp k) q) None (lookup (is_at (nat_cmp q)) es))
    → map_of f fs ≡ remove (map_of f es) k
map_of-remove f es fs k h = same_map _ _ (λ q.
    get-map_of f fs q ∙ ap (option_map f) (h q) ∙ map_cond f (is_at (nat_cmp k) q) None (lookup (is_at (nat_cmp q)) es)
    ∙ ap (λ b. cond b None (option_map f (lookup (is_at (nat_cmp q)) es))) ((eq_by_cmp_equiv nat_cmp_total).symm k q)
    ∙ sym (get-remove (map_of f es) k q ∙ ap (cond (eq_by_cmp nat_cmp q k) None) (get-map_of f es q)))
