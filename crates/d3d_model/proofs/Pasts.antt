-- The past after more deeds. With these an ExecuteList needs no second look at its list's calls: what they bind, by
-- themselves, and whether they discard, is kept with the list.
use Rattle.std.proofs.Common.{◌≡◌, ℕ, Bool, true, false, not, ◌&&◌, ◌||◌, List, [], ◌∷◌, ◌++◌, map, Option, Some, None, refl, ◌∙◌}
use Rattle.std.specs.Prelude.{if◌then◌else◌}
use Rattle.std.specs.List.{list_any}
use Rattle.dx_types.specs.declared.range.ResRange.{ResRange}
use Rattle.call_log.specs.Call as calls
use Rattle.call_log.specs.Call.{Call}
use Rattle.d3d_model.specs.Binding.{Bindings}
use Rattle.d3d_model.specs.D3dState.{Objects, Numbered}
use Rattle.d3d_model.specs.Past.{Deed, Discards, Binds, Past, then_done, makes, renews, binds_byte_of, binds_some_of, is_bound, last_binding, was_renewed}
use Rattle.d3d_model.specs.Stream.{set_by, binds, discarded_by, deeds, deeds_from}

-- ---- bound bytes

-- two pasts, of which the first went on from `past` and the second from nothing
GoesOn : Past → Past → Past → Type 0
GoesOn past p q = (r : ResRange) → is_bound p r ≡ (is_bound q r || (not (was_renewed q r.res) && is_bound past r))

one_more : (renewed bound was q p : Bool) → p ≡ (q || (not was && bound)) → (byte : Bool)
    → (if renewed then false else byte || p) ≡ ((if renewed then false else byte || q) || (not (renewed || was) && bound))
one_more true bound was q p e byte = refl
one_more false bound was q p e true = refl
one_more false bound was q p e false = e

goes_on : (n k : ℕ) (past p q : Past) (ds : List Deed) → GoesOn past p q → GoesOn past (then_done n p ds) (then_done k q ds)
unfolding GoesOn is_bound was_renewed then_done
goes_on n k past p q [] h = h
goes_on n k past p q (d ∷ ds) h = goes_on n k past (record { call = n; deed = d } ∷ p) (record { call = k; deed = d } ∷ q) ds
    (λ r. one_more (renews r.res d) (is_bound past r) (was_renewed q r.res) (is_bound q r) (is_bound p r) (h r) (binds_byte_of r d))

-- what is bound after more deeds: what they bind by themselves, and what was bound of a buffer that they don't renew
pub is_bound_then : (n k : ℕ) (past : Past) (ds : List Deed) (r : ResRange)
    → is_bound (then_done n past ds) r ≡ (is_bound (then_done k [] ds) r || (not (was_renewed (then_done k [] ds) r.res) && is_bound past r))
unfolding GoesOn is_bound was_renewed
is_bound_then n k past ds r = goes_on n k past past [] ds (λ r. refl) r

-- ---- last uses

last_more : (made binds any : Bool) (n : ℕ) (before : Option ℕ) → made ≡ false
    → (if any then Some n else (if made then None else if binds then Some n else before)) ≡ (if binds || any then Some n else before)
last_more true binds any n before e = absurd cc
last_more false true true n before e = refl
last_more false true false n before e = refl
last_more false false any n before e = refl

left : (a b : Bool) → a || b ≡ false → a ≡ false
left true b e = absurd cc
left false b e = refl

right : (a b : Bool) → a || b ≡ false → b ≡ false
right true b e = absurd cc
right false b e = e

-- the last use after more deeds of call n that make no buffer
pub last_binding_then : (n : ℕ) (past : Past) (ds : List Deed) (res : ℕ) → list_any (makes res) ds ≡ false
    → last_binding (then_done n past ds) res ≡ (if list_any (binds_some_of res) ds then Some n else last_binding past res)
unfolding last_binding then_done
last_binding_then n past [] res e = refl
last_binding_then n past (d ∷ ds) res e =
    last_binding_then n (record { call = n; deed = d } ∷ past) ds res (right (makes res d) (list_any (makes res) ds) e)
    ∙ last_more (makes res d) (binds_some_of res d) (list_any (binds_some_of res) ds) n (last_binding past res) (left (makes res d) (list_any (makes res) ds) e)

-- ---- a list makes no buffer

any_append : (test : Deed → Bool) (ds es : List Deed) → list_any test ds ≡ false → list_any test es ≡ false → list_any test (ds ++ es) ≡ false
any_append test [] es e f = f
any_append test (d ∷ ds) es e f = either (test d) (list_any test ds) _ e (λ h. any_append test ds es h f)
  where
    either : (a b c : Bool) → a || b ≡ false → (b ≡ false → c ≡ false) → a || c ≡ false
    either true b c e f = absurd cc
    either false b c e f = f e

makes_none : (res : ℕ) (rs : List ResRange) → list_any (makes res) (map Binds rs) ≡ false
makes_none res [] = refl
makes_none res (r ∷ rs) = makes_none res rs

discards_none : (res : ℕ) (b : Bool) (id : ℕ) → list_any (makes res) (if b then Discards id ∷ [] else []) ≡ false
discards_none res true id = refl
discards_none res false id = refl

makes_none_by : (res : ℕ) (c : Call) → list_any (makes res) (discarded_by c) ≡ false
makes_none_by res (calls.MapWrite id mode offset bytes) = discards_none res _ id
makes_none_by res _ = refl

pub list_makes_none : (res : ℕ) (o : Objects) (b : Bindings) (cs : List Numbered) → list_any (makes res) (deeds_from o b cs) ≡ false
list_makes_none res o b [] = refl
list_makes_none res o b (c ∷ cs) =
    any_append (makes res) (deeds o b c.call) (deeds_from o (set_by o b c.call) cs)
    (any_append (makes res) (discarded_by c.call) (map Binds (binds o b c.call)) (makes_none_by res c.call) (makes_none res (binds o b c.call)))
    (list_makes_none res o (set_by o b c.call) cs)
