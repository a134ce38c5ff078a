-- How often the calls of lists name an object.
use Rattle.std.proofs.Common.{◌≡◌, ℕ, zero, suc, ◌+◌, ◌<◌, Bool, true, false, ◌||◌, cond, List, [], ◌∷◌, ◌++◌, map, length, take, get_or, sum_by, Option, Some, None, refl, sym, ap, subst, ◌∙◌, arith, zero-add}
use Rattle.std.specs.Prelude.{count_by, nat_lt}
use Rattle.std.specs.List.{list_any}
use Rattle.std.specs.Option.{option_to_list}
use Rattle.std.proofs.lemmas.List.Sums.{sum_by-append, sum_by-cons}
use Rattle.std.proofs.lemmas.Bool.Decides.{nat_tests}
use Rattle.std.proofs.lemmas.List.{take_more}
use Rattle.base_lemmas.specs.IdMap.{values}
use Rattle.call_log.specs.View.{call_view}
use Rattle.d3d_model.specs.D3dState.{Numbered}
use Rattle.d3d_model.specs.Stream as model
use Rattle.d3d_model.specs.Stream.{is_name, list_names, names}
use Rattle.d3d_lists.specs.declared.name.Name.{Name}
use Rattle.d3d_lists.specs.declared.numbered.Numbered as code
use Rattle.d3d_lists.specs.Calls.{calls_in, numbered}
use Rattle.d3d_lists.specs.Lists.{Lists, some_names, times_of}
use Rattle.d3d_lists.specs.Named.{times_for}
use Rattle.d3d_lists.specs.Names.{is_this, name_view, times_among, times_in}
use Rattle.d3d_lists.proofs.Tables.{calls_in-more, calls_in-nil}

pub times_in-nil : (k : Name) → times_in k [] ≡ 0
unfolding times_in
times_in-nil k = refl

-- one more call
pub times_in-more : (k : Name) (cs : List Numbered) (c : Numbered) → times_in k (cs ++ c ∷ []) ≡ times_in k cs + times_among k (names c.call)
unfolding times_in
times_in-more k cs c =
    sum_by-append (λ (d : Numbered). times_among k (names d.call)) cs (c ∷ []) ∙ ap (λ n. sum_by (λ (d : Numbered). times_among k (names d.call)) cs + n) (zero-add (times_among k (names c.call)))

pub times_none : (k : Name) → times_in k (calls_in []) ≡ 0
times_none k = ap (times_in k) calls_in-nil ∙ times_in-nil k

-- one more of the calls of the code
pub times_taken : (k : Name) (cs : List code.Numbered) (i : ℕ) (d : code.Numbered) → i < length cs
    → times_in k (calls_in (take (i + 1) cs)) ≡ times_in k (calls_in (take i cs)) + times_among k (names (call_view (get_or cs i d).call))
times_taken k cs i d below =
    ap (λ (l : List code.Numbered). times_in k (calls_in l)) (take_more cs i d below)
    ∙ ap (times_in k) (calls_in-more (take i cs) (get_or cs i d))
    ∙ times_in-more k (calls_in (take i cs)) (numbered (get_or cs i d))

one_of : (p : model.Name → Bool) (n : model.Name) → count_by p (n ∷ []) ≡ cond (p n) 1 0
one_of p n = zero-add (cond (p n) 1 0)

two_of : (p : model.Name → Bool) (m n : model.Name) → count_by p (m ∷ n ∷ []) ≡ cond (p m) 1 0 + cond (p n) 1 0
two_of p m n = ap (λ k. k + cond (p n) 1 0) (zero-add (cond (p m) 1 0))

times_both : (k : Name) (one two : Option Name) → times_among k (map name_view (option_to_list one ++ option_to_list two)) ≡ times_for k one + times_for k two
times_both k None None = refl
times_both k None (Some n) = one_of (is_this k) (name_view n) ∙ sym (zero-add (times_for k (Some n)))
times_both k (Some m) None = one_of (is_this k) (name_view m) ∙ omega arith
times_both k (Some m) (Some n) = two_of (is_this k) (name_view m) (name_view n)

-- the names of a call are the two that there may be
pub times_named : (k : Name) (one two : Option Name) (ns : List model.Name) → map name_view (option_to_list one ++ option_to_list two) ≡ ns → times_among k ns ≡ times_for k one + times_for k two
times_named k one two ns e = ap (times_among k) (sym e) ∙ times_both k one two

-- ---- named at all

ltb-suc : (n : ℕ) → nat_lt 0 (1 + n) ≡ true
ltb-suc n = grind (arith, nat_tests)

above-sum : (a b : ℕ) → nat_lt 0 (a + b) ≡ nat_lt 0 a || nat_lt 0 b
above-sum zero b = ap (nat_lt 0) (zero-add b)
above-sum (suc a) b = grind (arith, nat_tests)

-- a sum is above 0 where one of the terms is
any_above : {X : Type 0} (f : X → ℕ) (p : X → Bool) → ((x : X) → nat_lt 0 (f x) ≡ p x) → (xs : List X) → nat_lt 0 (sum_by f xs) ≡ list_any p xs
any_above f p h [] = refl
any_above f p h (x ∷ xs) = ap (nat_lt 0) (sum_by-cons f x xs) ∙ above-sum (f x) (sum_by f xs) ∙ λ i. h x i || any_above f p h xs i

one_above : (b : Bool) → nat_lt 0 (cond b 1 0) ≡ b
one_above true = refl
one_above false = refl

named_above : (k : Name) (ns : List model.Name) → nat_lt 0 (times_among k ns) ≡ list_any (is_this k) ns
named_above k ns = any_above (λ n. cond (is_this k n) 1 0) (is_this k) (λ n. one_above (is_this k n)) ns

listed_above : (k : Name) (cs : List Numbered) → nat_lt 0 (times_in k cs) ≡ list_names (name_view k).class (name_view k).id cs
unfolding times_in
listed_above k cs = any_above (λ (c : Numbered). times_among k (names c.call)) (λ (c : Numbered). list_any (is_this k) (names c.call)) (λ c. named_above k (names c.call)) cs

-- an object is named where its count is above 0
pub names_above : (k : Name) (opened : List (List Numbered)) (lists : Lists) → nat_lt 0 (times_of k opened lists) ≡ some_names k opened lists
names_above k opened lists =
    above-sum (sum_by (times_in k) opened) (sum_by (times_in k) (values lists))
    ∙ λ i. any_above (times_in k) (list_names (name_view k).class (name_view k).id) (listed_above k) opened i
    || any_above (times_in k) (list_names (name_view k).class (name_view k).id) (listed_above k) (values lists) i
