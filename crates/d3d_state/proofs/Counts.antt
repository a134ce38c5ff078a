-- How many live views a buffer has, after each change.
use Rattle.std.proofs.Common.{◌≡◌, ℕ, ◌+◌, ◌≤◌, ◌<◌, Bool, true, false, ◌||◌, cond, List, [], ◌∷◌, length, map, sum_by, Option, Some, None, refl, sym, ap, ◌∙◌, arith, zero-add, inl, inr, subst, eq-eqb}
use Rattle.std.specs.Prelude.{◌==◌, nat_lt}
use Rattle.std.specs.List.{list_any}
use Rattle.std.proofs.lemmas.List.Sums.{sum_by-cons}
use Rattle.std.proofs.lemmas.Bool.Decides.{nat_tests}
use Rattle.std.specs.Ordering.{nat_cmp, eq_by_cmp}
use Rattle.std.specs.declared.cmp.Ordering.TheVariants.{Less, Equal, Greater}
use Rattle.std.specs.FinMap.Entries.{by_order, put}
use Rattle.dx_types.specs.declared.shape.ViewShape.{ViewShape}
use Rattle.base_lemmas.specs.IdMap.{empty, get, insert, remove, values}
use Rattle.base_lemmas.specs.CodeMap.{map_of}
use Rattle.base_lemmas.proofs.Maps.{get-empty, get-insert, get-remove, other_key, total-empty, total-insert, total-remove-exactly}
use Rattle.d3d_state.specs.Codes.{Views}
use Rattle.std.specs.Prelude.{◌^◌, IfSome, unwrap_or}
use Rattle.std.proofs.lemmas.Bool.{cases_eq}
use Rattle.std.specs.Map.{lookup}
use Rattle.std.specs.BTreeMap.{is_at}
use Rattle.d3d_model.specs.View.{view_end}
use Rattle.d3d_state.specs.Counted.{Counted, counts_for, views_of}
use Rattle.d3d_state.proofs.Found.{found}

pub views_of-empty : (res : ℕ) → views_of empty res ≡ 0
unfolding views_of
views_of-empty res = total-empty (counts_for res)

pub views_of-insert : (views : Views) (id : ℕ) (v : ViewShape) (res : ℕ) → get views id ≡ None → views_of (insert views id v) res ≡ views_of views res + counts_for res v
unfolding views_of
views_of-insert views id v res free = total-insert (counts_for res) views id v free

pub views_of-remove : (views : Views) (id : ℕ) (v : ViewShape) (res : ℕ) → get views id ≡ Some v → views_of (remove views id) res + counts_for res v ≡ views_of views res
unfolding views_of
views_of-remove views id v res live = total-remove-exactly (counts_for res) views id v live

-- ---- no more than there are entries

length-put : {X : Type 0} (k : ℕ) (x : X) (es : List (ℕ × X)) → length (put nat_cmp k x es) ≤ length es + 1
length-put k x [] = omega arith
length-put k x (e ∷ es) =
    elim (nat_cmp k e.0) as (λ r. length (by_order r ((k, x) ∷ e ∷ es) ((e.0, x) ∷ es) (e ∷ put nat_cmp k x es)) ≤ length (e ∷ es) + 1) [
      | Less ↦ omega arith
      | Equal ↦ omega arith
      | Greater ↦ omega (arith, length-put k x es)
    ]

length-map_of : {X : Type 0} (es : List (ℕ × X)) → length (map_of (λ s. s) es).entries ≤ length es
unfolding map_of insert empty
length-map_of [] = omega arith
length-map_of (e ∷ es) = omega (arith, length-map_of es, length-put e.0 e.1 (map_of (λ s. s) es).entries)

at_most_one : (res : ℕ) (v : ViewShape) → counts_for res v ≤ 1
at_most_one res v = elim (v.res == res) as (λ b. cond b 1 0 ≤ 1) [ true ↦ omega arith | false ↦ omega arith ]

few : (res : ℕ) (es : List (ℕ × ViewShape)) → sum_by (counts_for res) (map (λ e. e.1) es) ≤ length es
few res [] = omega arith
few res (e ∷ es) = omega (arith, few res es, at_most_one res e.1, sum_by-cons (counts_for res) e.1 (map (λ e. e.1) es))

pub views_of-few : (es : List (ℕ × ViewShape)) (res : ℕ) → views_of (map_of (λ s. s) es) res ≤ length es
unfolding views_of values
views_of-few es res = omega (arith, few res (map_of (λ s. s) es).entries, length-map_of es)

-- ---- one is there where the count is not 0

ltb-suc : (n : ℕ) → nat_lt 0 (1 + n) ≡ true
ltb-suc n = grind (arith, nat_tests)

above_or_here : (b : Bool) (n : ℕ) → nat_lt 0 (cond b 1 0 + n) ≡ b || nat_lt 0 n
above_or_here true n = ltb-suc n
above_or_here false n = ap (nat_lt 0) (zero-add n)

some_counted : (res : ℕ) (vs : List ViewShape) → nat_lt 0 (sum_by (counts_for res) vs) ≡ list_any (λ (v : ViewShape). v.res == res) vs
some_counted res [] = refl
some_counted res (v ∷ vs) =
    ap (nat_lt 0) (sum_by-cons (counts_for res) v vs) ∙ above_or_here (v.res == res) (sum_by (counts_for res) vs) ∙ ap (λ b. (v.res == res) || b) (some_counted res vs)

pub has-views_of : (views : Views) (res : ℕ) → nat_lt 0 (views_of views res) ≡ list_any (λ (v : ViewShape). v.res == res) (values views)
unfolding views_of
has-views_of views res = some_counted res (values views)

-- ---- what is kept

pub counted-empty : Counted empty []
counted-empty = record {
  of_buffer = λ res. sym (views_of-empty res);
  ends = λ id v live. absurd (no_value (get empty id) v (get-empty ViewShape id) live);
}
  where
    no_value : (o : Option ViewShape) (v : ViewShape) → o ≡ None → o ≡ Some v → ⊥
    no_value o v none some = cc

-- a live view ends below byte 2 ^ 64
pub fits_found : (es : List (ℕ × ViewShape)) (counts : List (ℕ × ℕ)) (id : ℕ) (o : Option ViewShape) → Counted (map_of (λ s. s) es) counts
    → o ≡ lookup (is_at (nat_cmp id)) es → IfSome o (λ v. view_end v < 2 ^ 64)
fits_found es counts id None k e = tt
fits_found es counts id (Some v) k e = k.ends id v (found es id ∙ sym e)

same_key : (q : ℕ) → eq_by_cmp nat_cmp q q ≡ true
same_key q = grind (arith, nat_tests)

differs : (a b : ℕ) → (a ≡ b → ⊥) → a == b ≡ false
differs a b apart = grind (arith, nat_tests)

-- the entries `after` have n at an id, and else what `before` has
abbrev Writes : List (ℕ × ℕ) → List (ℕ × ℕ) → ℕ → ℕ → Type 0
Writes before after k n = (q : ℕ) → lookup (is_at (nat_cmp q)) after ≡ cond (is_at (nat_cmp k) q) (Some n) (lookup (is_at (nat_cmp q)) before)

abbrev count_of : List (ℕ × ℕ) → ℕ → ℕ
count_of counts q = unwrap_or (lookup (is_at (nat_cmp q)) counts) 0

written : (before after : List (ℕ × ℕ)) (k n : ℕ) → Writes before after k n → count_of after k ≡ n
written before after k n writes =
    ap (λ o. unwrap_or o 0) (writes k ∙ ap (λ b. cond b (Some n) (lookup (is_at (nat_cmp k)) before)) (same_key k))

unwritten : (before after : List (ℕ × ℕ)) (k n q : ℕ) → Writes before after k n → (q ≡ k → ⊥) → count_of after q ≡ count_of before q
unwritten before after k n q writes apart =
    ap (λ o. unwrap_or o 0) (writes q ∙ ap (λ b. cond b (Some n) (lookup (is_at (nat_cmp q)) before)) (other_key k q (λ e. apart (sym e))))

one : (res : ℕ) (v : ViewShape) → res ≡ v.res → counts_for res v ≡ 1
one res v e = ap (λ b. cond b 1 0) (eq-eqb v.res res (sym e))

none : (res : ℕ) (v : ViewShape) → (res ≡ v.res → ⊥) → counts_for res v ≡ 0
none res v apart = ap (λ b. cond b 1 0) (differs v.res res (λ e. apart (sym e)))

fits_cond : (b : Bool) (v w : ViewShape) (o : Option ViewShape) → view_end v < 2 ^ 64 → (o ≡ Some w → view_end w < 2 ^ 64) → cond b (Some v) o ≡ Some w → view_end w < 2 ^ 64
fits_cond true v w o fits rest e = let same : v ≡ w = cc in subst (λ (x : ViewShape). view_end x < 2 ^ 64) same fits
fits_cond false v w o fits rest e = rest e

fits_unless : (b : Bool) (w : ViewShape) (o : Option ViewShape) → (o ≡ Some w → view_end w < 2 ^ 64) → cond b None o ≡ Some w → view_end w < 2 ^ 64
fits_unless true w o rest e = absurd cc
fits_unless false w o rest e = rest e

pub counted-insert : (views : Views) (counts room after : List (ℕ × ℕ)) (id : ℕ) (v : ViewShape) (n : ℕ) → Counted views counts → get views id ≡ None → view_end v < 2 ^ 64
    → n ≡ count_of counts v.res → Writes counts room v.res n → Writes room after v.res (n + 1) → Counted (insert views id v) after
counted-insert views counts room after id v n k free fits is makes_room writes = record {
  of_buffer = λ q. elim (cases_eq q v.res) [
    | inl e ↦ rw e (written room after v.res (n + 1) writes ∙ omega (arith, views_of-insert views id v v.res free, one v.res v refl, is, k.of_buffer v.res))
    | inr apart ↦ unwritten room after v.res (n + 1) q writes apart ∙ unwritten counts room v.res n q makes_room apart
        ∙ omega (arith, views_of-insert views id v q free, none q v apart, k.of_buffer q)
  ];
  ends = λ q w e. fits_cond (eq_by_cmp nat_cmp q id) v w (get views q) fits (k.ends q w) (sym (get-insert views id v q) ∙ e);
}

-- the count of a live view's buffer
pub counted_live : (views : Views) (counts : List (ℕ × ℕ)) (id : ℕ) (v : ViewShape) → Counted views counts → get views id ≡ Some v → 1 ≤ count_of counts v.res
counted_live views counts id v k live = omega (arith, k.of_buffer v.res, views_of-remove views id v v.res live, one v.res v refl)

pub counted-remove : (views : Views) (counts after : List (ℕ × ℕ)) (id : ℕ) (v : ViewShape) (n : ℕ) → Counted views counts → get views id ≡ Some v
    → n + 1 ≡ count_of counts v.res → Writes counts after v.res n → Counted (remove views id) after
counted-remove views counts after id v n k live is writes = record {
  of_buffer = λ q. elim (cases_eq q v.res) [
    | inl e ↦ rw e (written counts after v.res n writes ∙ omega (arith, views_of-remove views id v v.res live, one v.res v refl, is, k.of_buffer v.res))
    | inr apart ↦ unwritten counts after v.res n q writes apart ∙ omega (arith, views_of-remove views id v q live, none q v apart, k.of_buffer q)
  ];
  ends = λ q w e. fits_unless (eq_by_cmp nat_cmp q id) w (get views q) (k.ends q w) (sym (get-remove views id q) ∙ e);
}
