-- A dispatch by the program that is set, and one where none is.
use Rattle.std.proofs.Common.{◌≡◌, ℕ, suc, List, [], ◌∷◌, Option, Some, None, refl, ap, ◌∙◌, arith}
use Rattle.shader_model.specs.declared.tree.Declared.{Declared}
use Rattle.shader_model.specs.Shader.{Program}
use Rattle.shader_model.specs.Invocation.{Slots}
use Rattle.d3d_model.specs.Binding.{Bindings, BoundView}
use Rattle.d3d_model.specs.Shader.{Ran, declared_by, declared_if, ran_dispatch, ran_if}
use Rattle.d3d_model.specs.D3dState.{Objects, Memory, words_set}
use Rattle.d3d_model.specs.Memory.{view_shown, shown_from, uavs_shown, slots_seen, stored, counted, after_ran, dispatched}
use Rattle.d3d_state.specs.Shaders.{program_by}
use Rattle.d3d_memory.specs.Ran.{ran_by}

-- what is declared, and what runs, by the program that token bytes spell
declares : (words : List ℕ) (p : Option Program) → program_by words ≡ p → declared_by words ≡ declared_if p
unfolding declared_by program_by
declares words p e = ap declared_if e

runs : (words groups : List ℕ) (slots : Slots) (p : Option Program) → program_by words ≡ p → ran_dispatch words groups slots ≡ ran_if p groups slots
unfolding ran_dispatch program_by
runs words groups slots p e = ap (λ q. ran_if q groups slots) e

abbrev ran_with : Option Program → Objects → Bindings → List ℕ → Memory → Memory
ran_with p o b groups m =
    after_ran m (uavs_shown b (declared_if p)) (ran_if p groups (slots_seen o m b (declared_if p)))

by_program : (o : Objects) (b : Bindings) (groups : List ℕ) (m : Memory) (p : Option Program) → program_by (words_set o b) ≡ p → dispatched o b groups m ≡ ran_with p o b groups m
by_program o b groups m p e =
    let words = words_set o b in
    ap (λ (ds : List Declared). after_ran m (uavs_shown b ds) (ran_dispatch words groups (slots_seen o m b ds))) (declares words p e)
    ∙ ap (λ (r : Ran). after_ran m (uavs_shown b (declared_if p)) r) (runs words groups (slots_seen o m b (declared_if p)) p e)

none_stored : (i : ℕ) (slots : List (Option BoundView)) (m : Memory) (words : List (List ℕ)) → stored m (shown_from view_shown [] 5 i slots) words ≡ m
none_stored i [] m words = refl
none_stored i (slot ∷ slots) m [] = refl
none_stored i (slot ∷ slots) m (w ∷ words) = none_stored (suc i) slots m words

none_counted : (m : Memory) → counted m 0 ≡ m
none_counted m = ap (λ (n : ℕ). record m { ran = n }) (omega arith)

-- where no shader is set nothing runs
pub idle_dispatch : (o : Objects) (b : Bindings) (groups : List ℕ) (m : Memory) → program_by (words_set o b) ≡ None → dispatched o b groups m ≡ m
idle_dispatch o b groups m e =
    by_program o b groups m None e
    ∙ ap (λ (n : Memory). counted n 0) (none_stored 0 b.uavs m (slots_seen o m b []).writes)
    ∙ none_counted m

-- the program of the shader that is set runs
pub program_runs : (o : Objects) (b : Bindings) (groups : List ℕ) (m : Memory) (p : Program) → program_by (words_set o b) ≡ Some p → dispatched o b groups m ≡ ran_by p o b groups m
program_runs o b groups m p e = by_program o b groups m (Some p) e
