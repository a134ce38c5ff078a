-- The module that is emitted for a shader.
use Rattle.std.proofs.Common.{◌≡◌, ℕ, List, true, Option, None, Some, refl, sym, ap, subst, ◌∙◌}
use Rattle.std.specs.Option.{option_map}
use Rattle.shader_model.specs.Good.{IsGood}
use Rattle.shader_model.specs.Shader.{Program}
use Rattle.shader_model.specs.Invocation.{Slots}
use Rattle.shader_model.specs.Dispatch.{is_allowed, dispatched}
use Rattle.spirv_model.specs.Meaning.Bindings.{SlotsFit}
use Rattle.spirv_model.specs.Meaning.ModuleDispatch.{IsDefined, group_of, module_dispatched}
use Rattle.spirv_emit.specs.Module.{module_of}
use Rattle.spirv_emit.proofs.Meaning.GoodShaders.{group_is, module_defined}
use Rattle.spirv_emit.proofs.Meaning.Dispatches.{module_dispatches}
use Rattle.d3d_state.specs.Shaders.{program_by}
use Rattle.shader_model.proofs.Goodness.{good_shader}
use Rattle.pipe_cache.specs.Modules.{DoesAs, module_for}

spelled_from : (o : Option Program) (made : List ℕ) → option_map module_of o ≡ Some made → (p : Program) × (o ≡ Some p)
spelled_from None made e = absurd cc
spelled_from (Some p) made e = (p, refl)

pub emitted_for : (tokens : List ℕ) (p : Program) (made : List ℕ) → program_by tokens ≡ Some p → made ≡ module_of p
    → module_for tokens ≡ Some made
unfolding module_for
emitted_for tokens p made spelled is = ap (option_map module_of) spelled ∙ ap (λ (m : List ℕ). Some m) (sym is)

same_words : (a b : List ℕ) → Some a ≡ Some b → a ≡ b
same_words a b e = cc

emitted_is : (tokens : List ℕ) (p : Program) (made : List ℕ) → program_by tokens ≡ Some p
    → module_for tokens ≡ Some made → made ≡ module_of p
unfolding module_for
emitted_is tokens p made spelled emitted = sym (same_words (module_of p) made (sym (ap (option_map module_of) spelled) ∙ emitted))

-- it does what the shader does
pub does_as : (tokens made : List ℕ) (p : Program) → module_for tokens ≡ Some made → program_by tokens ≡ Some p
    → DoesAs p made
unfolding program_by
does_as tokens made p emitted spelled =
    let is : made ≡ module_of p = emitted_is tokens p made spelled emitted in
    let good : IsGood p = good_shader tokens p spelled in
    let Dispatches : List ℕ → Type 0 = λ m. (groups : List ℕ) (slots : Slots) → is_allowed groups p.group ≡ true → SlotsFit slots → module_dispatched m groups slots ≡ Some (dispatched p groups slots) in
    record {
      group = ap group_of is ∙ group_is p good;
      defined = subst IsDefined (sym is) (module_defined p good);
      dispatches = subst Dispatches (sym is) (module_dispatches p good);
    }

-- and there is a shader that it does as
pub is_spelled : (tokens made : List ℕ) → module_for tokens ≡ Some made → (p : Program) × (program_by tokens ≡ Some p)
unfolding module_for
is_spelled tokens made emitted = spelled_from (program_by tokens) made emitted
