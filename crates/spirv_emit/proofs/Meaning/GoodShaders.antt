-- The words of each good shader's module mean the shader, and have its group.
use Rattle.std.proofs.Common.{◌≡◌, ℕ, List, [], ◌∷◌, length, Some, refl, ap, ◌∙◌, subst, arith}
use Rattle.std.specs.Prelude.{slice_index, is_some}
use Rattle.shader_model.specs.declared.ids.Ids.{Ids}
use Rattle.shader_model.specs.Shader.{Program, shader_of}
use Rattle.shader_model.specs.Good.{IsGood}
use Rattle.shader_model.specs.Invocation.{Slots, invoked}
use Rattle.shader_model.proofs.Goodness.{good_shader}
use Rattle.spirv_model.specs.Words.{words_of}
use Rattle.spirv_model.specs.FirstBad.{Reading}
use Rattle.spirv_model.specs.Meaning.Bindings.{SlotsFit}
use Rattle.spirv_model.specs.Meaning.ModuleMeaning.{module_meaning}
use Rattle.spirv_model.specs.Meaning.ModuleDispatch.{local_size, group_of, InRange, IsDefined}
use Rattle.spirv_emit.specs.Module.{module_ops, module_of}
use Rattle.spirv_emit.proofs.Words.ReadBack.{reads_back}
use Rattle.spirv_emit.proofs.Words.CanBeSpelled.{module_spelled}
use Rattle.spirv_emit.proofs.Meaning.ModuleMeaning.{module_means}
use Rattle.spirv_emit.proofs.Lowering.GoodBodies.{body_does}

-- an invocation in range, on slots of at most 16,777,216 bytes each
pub module_means_good : (p : Program) → IsGood p → (ids : Ids) (slots : Slots) → InRange p.group ids → SlotsFit slots → module_meaning (module_of p) ids slots ≡ Some (invoked p ids slots)
module_means_good p good ids slots range fit = module_means p ids slots fit (body_does p good ids (record { group = range.three_groups; thread = range.three_threads }))

-- and so of each shader that is decoded
pub decoded_means : (bytes : List ℕ) (p : Program) → shader_of bytes ≡ Some p → (ids : Ids) (slots : Slots) → InRange p.group ids → SlotsFit slots → module_meaning (module_of p) ids slots ≡ Some (invoked p ids slots)
decoded_means bytes p is ids slots range fit = module_means_good p (good_shader bytes p is) ids slots range fit

three_sizes : (g : List ℕ) → length g ≡ 3 → slice_index g 0 ∷ slice_index g 1 ∷ slice_index g 2 ∷ [] ≡ g
three_sizes [] e = absurd (omega arith)
three_sizes (x ∷ []) e = absurd (omega arith)
three_sizes (x ∷ y ∷ []) e = absurd (omega arith)
three_sizes (x ∷ y ∷ z ∷ []) e = refl
three_sizes (x ∷ y ∷ z ∷ w ∷ g) e = absurd (omega arith)

-- the group of the module is the shader's
pub group_is : (p : Program) → IsGood p → group_of (module_of p) ≡ p.group
unfolding group_of module_of module_ops
group_is p good =
    let os = module_ops p in
    let ws = words_of os in
    ap (λ (r : Reading). local_size r.ops) (reads_back os (length ws) (omega arith) (module_spelled p)) ∙ three_sizes p.group good.sizes

-- each invocation of the module has an outcome
pub module_defined : (p : Program) → IsGood p → IsDefined (module_of p)
module_defined p good ids slots range fit =
    ap is_some (module_means_good p good ids slots (subst (λ g. InRange g ids) (group_is p good) range) fit)
