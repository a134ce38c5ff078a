use Rattle.std.proofs.Common.{◌≡◌, ℕ, List, Some, true, ap, sym, ◌∙◌, subst}
use Rattle.shader_model.specs.declared.ids.Ids.{Ids}
use Rattle.shader_model.specs.Shader.{program_of}
use Rattle.shader_model.specs.Invocation.{Slots, invoked}
use Rattle.shader_model.specs.Dispatch.{is_allowed, dispatched}
use Rattle.spirv_model.specs.Meaning.Bindings.{SlotsFit}
use Rattle.spirv_model.specs.Meaning.ModuleMeaning.{module_meaning}
use Rattle.spirv_model.specs.Meaning.ModuleDispatch.{InRange, IsDefined, group_of, module_dispatched}
use Rattle.spirv_emit.specs.Module.{module_of}
use Rattle.spirv_emit.proofs.Meaning.GoodShaders.{group_is, module_defined, module_means_good}
use Rattle.spirv_emit.proofs.Meaning.Dispatches.{module_dispatches}
use Rattle.spirv_emit.proofs.Emitted.{if_made}
use Rattle.spirv_emit.proofs.emitter.emit.Goals as goal

pub returns-clause-group : goal.returns-clause-group
returns-clause-group c =
    let p = program_of c.args.shader.now in
    if_made c.emitted.result (λ made. made ≡ module_of p) (λ made. group_of made ≡ c.args.shader.now.group) (λ made e. ap group_of e ∙ group_is p c.body-body.ensures.good) c.emitted.ensures

pub returns-clause-defined : goal.returns-clause-defined
returns-clause-defined c =
    let p = program_of c.args.shader.now in
    if_made c.emitted.result (λ made. made ≡ module_of p) IsDefined (λ made e. subst IsDefined (sym e) (module_defined p c.body-body.ensures.good)) c.emitted.ensures

pub returns-clause-means : goal.returns-clause-means
returns-clause-means c =
    let p = program_of c.args.shader.now in
    let Means : List ℕ → Type 0 = λ made. (ids : Ids) (slots : Slots) → InRange c.args.shader.now.group ids → SlotsFit slots → module_meaning made ids slots ≡ Some (invoked p ids slots) in
    if_made c.emitted.result (λ made. made ≡ module_of p) Means (λ made e. subst Means (sym e) (module_means_good p c.body-body.ensures.good)) c.emitted.ensures

pub returns-clause-dispatches : goal.returns-clause-dispatches
returns-clause-dispatches c =
    let p = program_of c.args.shader.now in
    let Dispatches : List ℕ → Type 0 = λ made. (groups : List ℕ) (slots : Slots) → is_allowed groups c.args.shader.now.group ≡ true → SlotsFit slots → module_dispatched made groups slots ≡ Some (dispatched p groups slots) in
    if_made c.emitted.result (λ made. made ≡ module_of p) Dispatches (λ made e. subst Dispatches (sym e) (module_dispatches p c.body-body.ensures.good)) c.emitted.ensures
