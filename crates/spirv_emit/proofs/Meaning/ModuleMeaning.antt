-- The words of a shader's module mean the shader, where the pieces of its instructions and tests do what these do.
use Rattle.std.proofs.Common.{◌≡◌, ℕ, ◌≤◌, length, Some, ap, ◌∙◌, arith}
use Rattle.shader_model.specs.declared.ids.Ids.{Ids}
use Rattle.shader_model.specs.Shader.{Program}
use Rattle.shader_model.specs.Invocation.{Slots, invoked}
use Rattle.spirv_model.specs.Words.{words_of}
use Rattle.spirv_model.specs.FirstBad.{Reading}
use Rattle.spirv_model.specs.Meaning.Bindings.{words_at, SlotsFit}
use Rattle.spirv_model.specs.Meaning.ModuleMeaning.{run_whole, limit_of, module_meaning}
use Rattle.spirv_emit.specs.Numbers.{numbers_of, layout_of}
use Rattle.spirv_emit.specs.Module.{module_ops, module_of}
use Rattle.spirv_emit.proofs.Words.ReadBack.{reads_back, ops_fewer}
use Rattle.spirv_emit.proofs.Words.CanBeSpelled.{module_spelled}
use Rattle.spirv_emit.proofs.Meaning.Blocks.{BodyDoes}
use Rattle.spirv_emit.proofs.Meaning.WholeModule.{Has, pool_of, whole_runs}

-- on slots of at most 16,777,216 bytes each
pub small_means : (p : Program) (ids : Ids) (slots : Slots) → ((b : ℕ) → length (words_at slots b) ≤ 4194304) → BodyDoes (layout_of p) (Has (numbers_of p)) (pool_of p) ids p.temps p.declared p.body → module_meaning (module_of p) ids slots ≡ Some (invoked p ids slots)
unfolding module_meaning module_of module_ops
small_means p ids slots small ok =
    let os = module_ops p in
    let ws = words_of os in
    let read = reads_back os (length ws) (omega arith) (module_spelled p) in
    let few = ops_fewer os in
    ap (λ (r : Reading). run_whole ids (limit_of (module_of p)) r.stop r.ops slots) read
    ∙ whole_runs p ids slots small ok (limit_of (module_of p)) (omega (arith, few))

pub module_means : (p : Program) (ids : Ids) (slots : Slots) → SlotsFit slots → BodyDoes (layout_of p) (Has (numbers_of p)) (pool_of p) ids p.temps p.declared p.body → module_meaning (module_of p) ids slots ≡ Some (invoked p ids slots)
module_means p ids slots fit ok = small_means p ids slots fit.lengths ok
