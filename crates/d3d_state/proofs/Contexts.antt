-- The contexts after each change, and what is set or recorded on one of them.
use Rattle.std.proofs.Common.{◌≡◌, ℕ, zero, suc, ◌<◌, Bool, true, false, ◌||◌, List, [], ◌∷◌, ◌++◌, length, replicate, refl, sym, ap, ◌∙◌, arith}
use Rattle.std.specs.Prelude.{slice_index_or, slice_set}
use Rattle.std.specs.List.{list_any}
use Rattle.d3d_model.specs.Binding.{Bindings, default_bindings}
use Rattle.d3d_model.specs.D3dState.{Context, Numbered, default_context}
use Rattle.d3d_state.specs.Contexts.{contexts_of}

pub context_at : (bs : List Bindings) (ls : List (List Numbered)) (x : ℕ) → x < length bs
    → slice_index_or (contexts_of bs ls) x default_context ≡ record { bindings = slice_index_or bs x default_bindings; recorded = slice_index_or ls x [] }
unfolding contexts_of
context_at [] ls x h = absurd (omega arith)
context_at (b ∷ bs) [] zero h = refl
context_at (b ∷ bs) [] (suc x) h = context_at bs [] x (omega arith)
context_at (b ∷ bs) (cs ∷ ls) zero h = refl
context_at (b ∷ bs) (cs ∷ ls) (suc x) h = context_at bs ls x (omega arith)

-- other bindings on one context
pub contexts_set : (bs : List Bindings) (ls : List (List Numbered)) (x : ℕ) (b : Bindings)
    → contexts_of (slice_set bs x b) ls ≡ slice_set (contexts_of bs ls) x (record { bindings = b; recorded = slice_index_or ls x [] })
unfolding contexts_of
contexts_set [] ls x b = refl
contexts_set (c ∷ bs) [] zero b = refl
contexts_set (c ∷ bs) [] (suc x) b = ap (λ (cs : List Context). record { bindings = c; recorded = [] } ∷ cs) (contexts_set bs [] x b)
contexts_set (c ∷ bs) (cs ∷ ls) zero b = refl
contexts_set (c ∷ bs) (cs ∷ ls) (suc x) b = ap (λ (ds : List Context). record { bindings = c; recorded = cs } ∷ ds) (contexts_set bs ls x b)

-- other calls in the open list of one context
pub contexts_record : (bs : List Bindings) (ls : List (List Numbered)) (x : ℕ) (calls : List Numbered) → x < length ls
    → contexts_of bs (slice_set ls x calls) ≡ slice_set (contexts_of bs ls) x (record { bindings = slice_index_or bs x default_bindings; recorded = calls })
unfolding contexts_of
contexts_record [] ls x calls h = refl
contexts_record (b ∷ bs) [] x calls h = absurd (omega arith)
contexts_record (b ∷ bs) (cs ∷ ls) zero calls h = refl
contexts_record (b ∷ bs) (cs ∷ ls) (suc x) calls h = ap (λ (ds : List Context). record { bindings = b; recorded = cs } ∷ ds) (contexts_record bs ls x calls (omega arith))

-- other bindings and other calls on one context
pub contexts_both : (bs : List Bindings) (ls : List (List Numbered)) (x : ℕ) (b : Bindings) (calls : List Numbered) → x < length ls
    → contexts_of (slice_set bs x b) (slice_set ls x calls) ≡ slice_set (contexts_of bs ls) x (record { bindings = b; recorded = calls })
unfolding contexts_of
contexts_both [] ls x b calls h = refl
contexts_both (c ∷ bs) [] x b calls h = absurd (omega arith)
contexts_both (c ∷ bs) (cs ∷ ls) zero b calls h = refl
contexts_both (c ∷ bs) (cs ∷ ls) (suc x) b calls h = ap (λ (ds : List Context). record { bindings = c; recorded = cs } ∷ ds) (contexts_both bs ls x b calls (omega arith))

-- ---- on some context

pub any_set : (test : Bindings → Bool) (bs : List Bindings) (ls : List (List Numbered)) → list_any (λ (c : Context). test c.bindings) (contexts_of bs ls) ≡ list_any test bs
unfolding contexts_of
any_set test [] ls = refl
any_set test (b ∷ bs) [] = ap (λ r. test b || r) (any_set test bs [])
any_set test (b ∷ bs) (cs ∷ ls) = ap (λ r. test b || r) (any_set test bs ls)

pub any_recorded : (test : List Numbered → Bool) (bs : List Bindings) (ls : List (List Numbered)) → length bs ≡ length ls
    → list_any (λ (c : Context). test c.recorded) (contexts_of bs ls) ≡ list_any test ls
unfolding contexts_of
any_recorded test [] [] e = refl
any_recorded test [] (cs ∷ ls) e = absurd (omega (arith, e))
any_recorded test (b ∷ bs) [] e = absurd (omega (arith, e))
any_recorded test (b ∷ bs) (cs ∷ ls) e = ap (λ r. test cs || r) (any_recorded test bs ls (omega (arith, e)))

-- ---- before the first call

default_each : (n : ℕ) → contexts_of (replicate n default_bindings) (replicate n []) ≡ replicate n default_context
unfolding contexts_of
default_each zero = refl
default_each (suc n) = ap (λ (cs : List Context). default_context ∷ cs) (default_each n)

pub contexts_default : (bs : List Bindings) (ls : List (List Numbered)) (n : ℕ) → bs ≡ replicate n default_bindings → ls ≡ replicate n [] → contexts_of bs ls ≡ replicate n default_context
contexts_default bs ls n e f = (λ i. contexts_of (e i) (f i)) ∙ default_each n

-- ---- by the objects

-- one thing is set on a context
pub set_on : (bs new : List Bindings) (ls : List (List Numbered)) (x : ℕ) (f : Bindings → Bindings) → x < length bs → new ≡ slice_set bs x (f (slice_index_or bs x default_bindings))
    → contexts_of new ls
    ≡ slice_set (contexts_of bs ls) x (record { bindings = f (slice_index_or (contexts_of bs ls) x default_context).bindings; recorded = (slice_index_or (contexts_of bs ls) x default_context).recorded })
set_on bs new ls x f h e =
    ap (λ (l : List Bindings). contexts_of l ls) e ∙ contexts_set bs ls x (f (slice_index_or bs x default_bindings))
    ∙ sym (ap (λ (c : Context). slice_set (contexts_of bs ls) x (record { bindings = f c.bindings; recorded = c.recorded })) (context_at bs ls x h))

-- one more call is recorded on a context
pub recorded_more : (bs : List Bindings) (ls new : List (List Numbered)) (x : ℕ) (c : Numbered) → x < length bs → x < length ls → new ≡ slice_set ls x (slice_index_or ls x [] ++ c ∷ [])
    → contexts_of bs new
    ≡ slice_set (contexts_of bs ls) x (record { bindings = (slice_index_or (contexts_of bs ls) x default_context).bindings; recorded = (slice_index_or (contexts_of bs ls) x default_context).recorded ++ c ∷ [] })
recorded_more bs ls new x c h k e =
    ap (contexts_of bs) e ∙ contexts_record bs ls x (slice_index_or ls x [] ++ c ∷ []) k
    ∙ sym (ap (λ (d : Context). slice_set (contexts_of bs ls) x (record { bindings = d.bindings; recorded = d.recorded ++ c ∷ [] })) (context_at bs ls x h))

-- a context begins anew
pub begun_anew : (bs new : List Bindings) (ls after : List (List Numbered)) (x : ℕ) → x < length ls → new ≡ slice_set bs x default_bindings → after ≡ slice_set ls x []
    → contexts_of new after ≡ slice_set (contexts_of bs ls) x default_context
begun_anew bs new ls after x h e f = (λ i. contexts_of (e i) (f i)) ∙ contexts_both bs ls x default_bindings [] h

pub bindings_at : (bs : List Bindings) (ls : List (List Numbered)) (x : ℕ) → x < length bs → slice_index_or bs x default_bindings ≡ (slice_index_or (contexts_of bs ls) x default_context).bindings
bindings_at bs ls x h = sym (ap (λ (c : Context). c.bindings) (context_at bs ls x h))

pub recorded_on : (bs : List Bindings) (ls : List (List Numbered)) (x : ℕ) → x < length bs → slice_index_or ls x [] ≡ (slice_index_or (contexts_of bs ls) x default_context).recorded
recorded_on bs ls x h = sym (ap (λ (c : Context). c.recorded) (context_at bs ls x h))

-- a list names an object, by the open lists and the live ones
pub some_listed : (test : List Numbered → Bool) (bs : List Bindings) (ls : List (List Numbered)) (lists : List (List Numbered)) → length bs ≡ length ls
    → list_any test ls || list_any test lists ≡ list_any (λ (c : Context). test c.recorded) (contexts_of bs ls) || list_any test lists
some_listed test bs ls lists e = ap (λ b. b || list_any test lists) (sym (any_recorded test bs ls e))

-- an object is set, or a list names it
pub held_by : (test : Bindings → Bool) (bs : List Bindings) (ls : List (List Numbered)) (held set listed : Bool) → held ≡ set || listed → set ≡ list_any test bs
    → held ≡ list_any (λ (c : Context). test c.bindings) (contexts_of bs ls) || listed
held_by test bs ls held set listed e f = e ∙ ap (λ b. b || listed) (f ∙ sym (any_set test bs ls))

-- in one more way, or not
pub one_way : (held all more : Bool) → held ≡ all → held ≡ true → true ≡ all || more
one_way held all more e f = sym (ap (λ b. b || more) (sym e ∙ f))

pub other_way : (held all more : Bool) → held ≡ all → held ≡ false → more ≡ all || more
other_way held all more e f = sym (ap (λ b. b || more) (sym e ∙ f))
