-- The parts that a dispatch wrote, put back one after another.
use Rattle.std.proofs.Common.{◌≡◌, ℕ, ◌+◌, ◌<◌, List, [], ◌∷◌, length, map, drop, get_or, Option, Some, None, refl, sym, ap, ◌∙◌, arith}
use Rattle.std.proofs.Math.ListN.{set, get_or-map}
use Rattle.std.proofs.lemmas.List.{drop_more, drop-drop, drop_all, drop-set-lt, get_or-drop, append-nil, length-map}
use Rattle.dx_types.specs.declared.range.ResRange.{ResRange}
use Rattle.shader_slots.specs.Bound.{Around, words_bound, around_bound}
use Rattle.shader_slots.specs.Part.{Part, bytes_of}
use Rattle.d3d_model.specs.D3dState.{Memory}
use Rattle.d3d_model.specs.Memory.{stored, write}
use Rattle.d3d_model.specs.Regions.{spelled}
use Rattle.d3d_memory.specs.Shown.{around_one, stored_one}

stored_cons : (m : Memory) (s : Option ResRange) (slots : List (Option ResRange)) (w : List ℕ) (words : List (List ℕ)) → stored m (s ∷ slots) (w ∷ words) ≡ stored (stored_one m s w) slots words
stored_cons m None slots w words = refl
stored_cons m (Some r) slots w words = refl

-- the next part stands in its range
pub next_stored : (i : ℕ) (before now new : Memory) (shown : List (Option ResRange)) (parts : List (Option Part)) (part : Option Part)
    → i < length parts → i < length shown → part ≡ get_or parts i None → new ≡ stored_one now (get_or shown i None) (words_bound part)
    → stored now (drop i shown) (map words_bound (drop i parts)) ≡ stored before shown (map words_bound parts)
    → stored new (drop (i + 1) shown) (map words_bound (drop (i + 1) parts)) ≡ stored before shown (map words_bound parts)
next_stored i before now new shown parts part h k is put so_far =
    ap (λ n. stored n (drop (i + 1) shown) (map words_bound (drop (i + 1) parts))) (put ∙ ap (λ q. stored_one now (get_or shown i None) (words_bound q)) is)
    ∙ sym (stored_cons now (get_or shown i None) (drop (i + 1) shown) (words_bound (get_or parts i None)) (map words_bound (drop (i + 1) parts)))
    ∙ sym (ap (λ l. stored now l (map words_bound (drop i parts))) (drop_more shown i None k) ∙ ap (λ l. stored now (get_or shown i None ∷ drop (i + 1) shown) (map words_bound l)) (drop_more parts i None h))
    ∙ so_far

pub all_stored : (n : ℕ) (before now : Memory) (shown : List (Option ResRange)) (parts : List (Option Part)) → length shown ≡ n
    → stored now (drop n shown) (map words_bound (drop n parts)) ≡ stored before shown (map words_bound parts) → now ≡ stored before shown (map words_bound parts)
all_stored n before now shown parts e is = sym (ap (λ l. stored now l (map words_bound (drop n parts))) (drop_all n shown (omega (arith, e)))) ∙ is

-- lists that are the same from a place on
pub same_at : {X : Type 0} (i : ℕ) (xs ys : List X) (d : X) → drop i xs ≡ drop i ys → get_or xs i d ≡ get_or ys i d
same_at i xs ys d e =
    let k : i + 0 ≡ i = omega arith in
    ap (λ j. get_or xs j d) (sym k) ∙ sym (get_or-drop i xs 0 d) ∙ ap (λ l. get_or l 0 d) e ∙ get_or-drop i ys 0 d ∙ ap (λ j. get_or ys j d) k

pub same_behind : {X : Type 0} (i : ℕ) (xs now ys : List X) (x : X) → now ≡ set xs i x → drop i xs ≡ drop i ys → drop (i + 1) now ≡ drop (i + 1) ys
same_behind i xs now ys x is e =
    ap (drop (i + 1)) is ∙ drop-set-lt (i + 1) xs i x (omega arith) ∙ sym (drop-drop 1 i xs) ∙ ap (drop 1) e ∙ drop-drop 1 i ys

-- nothing stands around the part of a slot
pub stands_alone : (parts : List (Option Part)) (shown : List (Option ResRange)) (i : ℕ) (part : Option Part) → map around_bound parts ≡ map around_one shown → part ≡ get_or parts i None
    → around_bound part ≡ around_one (get_or shown i None)
stands_alone parts shown i part e is =
    ap around_bound is ∙ sym (get_or-map around_bound parts i None) ∙ ap (λ l. get_or l i None) e ∙ get_or-map around_one shown i None

pub as_many : (parts : List (Option Part)) (shown : List (Option ResRange)) → map around_bound parts ≡ map around_one shown → length parts ≡ length shown
as_many parts shown e = sym (length-map parts around_bound) ∙ ap length e ∙ length-map shown around_one

-- ---- one part

abbrev before_if : Option Around → List ℕ
before_if None = []
before_if (Some a) = a.before

abbrev after_if : Option Around → List ℕ
after_if None = []
after_if (Some a) = a.after

-- a part with nothing around it is written as its words
pub alone_written : (now old : Memory) (r : ResRange) (part : Part) (bytes : List ℕ) → around_bound (Some part) ≡ around_one (Some r) → bytes ≡ bytes_of part
    → now ≡ write old r.res r.from bytes → now ≡ stored_one old (Some r) (words_bound (Some part))
unfolding spelled
alone_written now old r part bytes alone is put =
    let before : part.before ≡ [] = ap before_if alone in
    let after : part.after ≡ [] = ap after_if alone in
    put ∙ ap (write old r.res r.from) (is ∙ rw (before, after) (append-nil _))
