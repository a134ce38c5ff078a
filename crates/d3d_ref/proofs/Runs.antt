-- The calls of a list, played by the bindings that each of them meets.
use Rattle.std.proofs.Common.{◌≡◌, ℕ, zero, suc, ◌+◌, ◌<◌, List, [], ◌∷◌, length, take, Some, refl, sym, ap, subst, ◌∙◌, arith, add-one}
use Rattle.std.specs.Prelude.{slice_get, slice_index_or, slice_set}
use Rattle.std.specs.Option.{option_map}
use Rattle.call_log.specs.Call as calls
use Rattle.call_log.specs.Call.{Call}
use Rattle.base_lemmas.specs.IdMap.{IdMap}
use Rattle.d3d_model.specs.Binding.{Bindings, default_bindings}
use Rattle.d3d_model.specs.D3dState.{Context, Memory, Numbered, Objects, Query, default_context}
use Rattle.d3d_model.specs.Effect.{list_start, queries_after}
use Rattle.d3d_model.specs.Memory.{run, run_all}
use Rattle.d3d_model.specs.Stream.{set_by}
use Rattle.d3d_effects.specs.Listed.{bindings_after}
use Rattle.d3d_effects.specs.Played.{SlotFits}
use Rattle.d3d_effects.specs.Slots.{AllFit}
use Rattle.d3d_memory.specs.Commands.{seen}
use Rattle.d3d_ref.specs.Runs.{runs_from}

-- some objects, with other queries and an immediate context of which this is set
abbrev amid_list : Objects → IdMap Query → Bindings → List Numbered → List Context → Objects
amid_list o q b r xs = record o { queries = q; contexts = record { bindings = b; recorded = r } ∷ xs }

-- a call of a list changes the memory by what is set, and not by the queries or the other contexts
same_run : (o : Objects) (q : IdMap Query) (b : Bindings) (r : List Numbered) (xs : List Context) (m : Memory) (c : Call) → run (amid_list o q b r xs) m c ≡ run (seen o b) m c
same_run o q b r xs m (calls.Dispatch x y z) = refl
same_run o q b r xs m (calls.DispatchIndirect res offset) = refl
same_run o q b r xs m (calls.CopyRegion target target_offset source source_offset len) = refl
same_run o q b r xs m (calls.Copy target source) = refl
same_run o q b r xs m (calls.Update res offset bytes) = refl
same_run o q b r xs m (calls.ClearUav view v0 v1 v2 v3) = refl
same_run o q b r xs m _ = refl

-- and what it sets depends on the views alone
same_set : (o : Objects) (q : IdMap Query) (b : Bindings) (r : List Numbered) (xs : List Context) (c : Call) → set_by (amid_list o q b r xs) b c ≡ set_by o b c
same_set o q b r xs (calls.SetSrv slot view) = refl
same_set o q b r xs (calls.SetUav slot view) = refl
same_set o q b r xs _ = refl

by_bindings : (n : ℕ) (o : Objects) (r : List Numbered) (xs : List Context) (cs : List Numbered) (q : IdMap Query) (b : Bindings) (m : Memory)
    → run_all n (amid_list o q b r xs) m cs ≡ runs_from o b m cs
unfolding runs_from
by_bindings n o r xs [] q b m = refl
by_bindings n o r xs (c ∷ cs) q b m =
    ap (λ (k : Bindings). run_all n (amid_list o (queries_after n q c.call) k r xs) (run (amid_list o q b r xs) m c.call) cs) (same_set o q b r xs c.call)
    ∙ ap (λ (k : Memory). run_all n (amid_list o (queries_after n q c.call) (set_by o b c.call) r xs) k cs) (same_run o q b r xs m c.call)
    ∙ by_bindings n o r xs cs (queries_after n q c.call) (set_by o b c.call) (run (seen o b) m c.call)

from_contexts : (n : ℕ) (o : Objects) (m : Memory) (cs : List Numbered) (ks : List Context) → o.contexts ≡ ks → 0 < length ks → run_all n (list_start o) m cs ≡ runs_from o default_bindings m cs
from_contexts n o m cs [] e h = absurd (omega (arith, h))
from_contexts n o m cs (x ∷ xs) e h =
    ap (λ (ls : List Context). run_all n (record o { contexts = slice_set ls 0 (record { bindings = default_bindings; recorded = (slice_index_or ls 0 default_context).recorded }) }) m cs) e
    ∙ by_bindings n o x.recorded xs cs o.queries default_bindings m

-- a list from the default state, where there is an immediate context
pub runs_list : (n : ℕ) (o : Objects) (m : Memory) (cs : List Numbered) → length o.contexts ≡ 17 → runs_from o default_bindings m cs ≡ run_all n (list_start o) m cs
runs_list n o m cs wide = sym (from_contexts n o m cs o.contexts refl (omega (arith, wide)))

-- ---- one call more

some_back : {X : Type 0} (x y : X) → Some x ≡ Some y → x ≡ y
some_back x y e = cc

run_next : (o : Objects) (cs : List Numbered) (b : Bindings) (m : Memory) (i : ℕ) (call : Call) → Some call ≡ option_map (λ (c : Numbered). c.call) (slice_get cs i)
    → run (seen o (bindings_after o b (take i cs))) (runs_from o b m (take i cs)) call ≡ runs_from o b m (take (suc i) cs)
unfolding runs_from bindings_after
run_next o [] b m i call e = absurd cc
run_next o (c ∷ cs) b m zero call e = ap (run (seen o b) m) (some_back call c.call e)
run_next o (c ∷ cs) b m (suc i) call e = run_next o cs (set_by o b c.call) (run (seen o b) m c.call) i call e

set_next : (o : Objects) (cs : List Numbered) (b : Bindings) (i : ℕ) (call : Call) → Some call ≡ option_map (λ (c : Numbered). c.call) (slice_get cs i)
    → set_by o (bindings_after o b (take i cs)) call ≡ bindings_after o b (take (suc i) cs)
unfolding bindings_after
set_next o [] b i call e = absurd cc
set_next o (c ∷ cs) b zero call e = ap (set_by o b) (some_back call c.call e)
set_next o (c ∷ cs) b (suc i) call e = set_next o cs (set_by o b c.call) i call e

pub runs_more : (o : Objects) (cs : List Numbered) (b : Bindings) (m : Memory) (i : ℕ) (call : Call) → Some call ≡ option_map (λ (c : Numbered). c.call) (slice_get cs i)
    → run (seen o (bindings_after o b (take i cs))) (runs_from o b m (take i cs)) call ≡ runs_from o b m (take (i + 1) cs)
runs_more o cs b m i call e = run_next o cs b m i call e ∙ ap (λ (k : ℕ). runs_from o b m (take k cs)) (sym (add-one i))

pub sets_more : (o : Objects) (cs : List Numbered) (b : Bindings) (i : ℕ) (call : Call) → Some call ≡ option_map (λ (c : Numbered). c.call) (slice_get cs i)
    → set_by o (bindings_after o b (take i cs)) call ≡ bindings_after o b (take (i + 1) cs)
sets_more o cs b i call e = set_next o cs b i call e ∙ ap (λ (k : ℕ). bindings_after o b (take k cs)) (sym (add-one i))

-- its slot is one of those that there are
pub fits_at : (cs : List Numbered) (i : ℕ) (call : Call) → AllFit cs → Some call ≡ option_map (λ (c : Numbered). c.call) (slice_get cs i) → SlotFits call
fits_at [] i call h e = absurd cc
fits_at (c ∷ cs) zero call h e = subst (λ (k : Call). SlotFits k) (sym (some_back call c.call e)) (h 0 c (omega arith))
fits_at (c ∷ cs) (suc i) call h e = fits_at cs i call (λ k d below. h (suc k) d (omega (arith, below))) e
