-- What is kept, after several deeds of a call.
use Rattle.std.proofs.Common.{◌≡◌, ℕ, ◌+◌, ◌<◌, false, length, get_or, List, [], ◌∷◌, ◌++◌, map, take, Result, Ok, Err, refl, sym, ap, subst, ◌∙◌}
use Rattle.std.specs.Prelude.{OnErr}
use Rattle.std.specs.List.{list_any}
use Rattle.std.proofs.lemmas.Bool.{or_from, or_parts}
use Rattle.std.proofs.lemmas.List.{map-append, take_more}
use Rattle.dx_types.specs.declared.range.ResRange.{ResRange}
use Rattle.d3d_model.specs.Binding.{default_bindings}
use Rattle.d3d_model.specs.D3dState.{Objects, Numbered}
use Rattle.d3d_model.specs.Past.{Past, Deed, Binds, then_done, makes}
use Rattle.d3d_model.specs.Stream.{deeds_of_list, past_of_list}
use Rattle.d3d_model.proofs.Pasts.{list_makes_none}
use Rattle.d3d_uses.specs.Summary.{Uses, Summarises, Records, was_made}

-- what stands now does so for any error
pub at_error : {T E P : Type 0} (r : Result T E) → P → OnErr r P
at_error (Ok x) p = tt
at_error (Err e) p = p

-- deeds of one call after others of it
pub then_done-append : (n : ℕ) (past : Past) (ds es : List Deed) → then_done n past (ds ++ es) ≡ then_done n (then_done n past ds) es
unfolding then_done
then_done-append n past [] es = refl
then_done-append n past (d ∷ ds) es = then_done-append n (record { call = n; deed = d } ∷ past) ds es

pub records-none : (u : Uses) (n : ℕ) → Records u n [] u
unfolding then_done
records-none u n = λ past res s. s

pub records-append : (a : Uses) (n : ℕ) (ds : List Deed) (b : Uses) (es : List Deed) (c : Uses) → Records a n ds b → Records b n es c → Records a n (ds ++ es) c
records-append a n ds b es c first second = λ past res s.
    subst (λ (p : Past). Summarises p c res) (sym (then_done-append n past ds es)) (second (then_done n past ds) res (first past res s))

pub binds_more : (rs : List ResRange) (i : ℕ) (d : ResRange) → i < length rs → map Binds (take (i + 1) rs) ≡ map Binds (take i rs) ++ Binds (get_or rs i d) ∷ []
binds_more rs i d lt = ap (map Binds) (take_more rs i d lt) ∙ map-append Binds (take i rs) (get_or rs i d ∷ [])

-- ---- the past of a list makes no buffer

makes_none_then : (n : ℕ) (past : Past) (ds : List Deed) (res : ℕ) → was_made past res ≡ false → list_any (makes res) ds ≡ false → was_made (then_done n past ds) res ≡ false
unfolding then_done
makes_none_then n past [] res none e = none
makes_none_then n past (d ∷ ds) res none e =
    let parts = or_parts (makes res d) (list_any (makes res) ds) e in
    makes_none_then n (record { call = n; deed = d } ∷ past) ds res (or_from (makes res d) (was_made past res) parts.0 none) parts.1

pub list_makes_none_of : (o : Objects) (cs : List Numbered) (res : ℕ) → was_made (past_of_list o cs) res ≡ false
list_makes_none_of o cs res = makes_none_then 0 [] (deeds_of_list o cs) res refl (list_makes_none res o default_bindings cs)
