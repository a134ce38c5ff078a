use Rattle.std.proofs.Common.{◌≡◌, ℕ, false, List, Some, cond, sym, ap, subst, ◌∙◌}
use Rattle.std.specs.Prelude.{◌==◌, is_some}
use Rattle.std.proofs.lemmas.Result.{on_ok_weaker}
use Rattle.spirv_model.specs.Meaning.ModuleDispatch.{IsDefined}
use Rattle.vk_device.specs.Modules.{Modules, kept_or, module_of}
use Rattle.vk_device.proofs.Kept.{kept_before, kept_defined, kept_now}
use Rattle.vk_device.proofs.machines.Machines.keep.Goals as goal

pub add-requires : goal.add-requires
add-requires c = subst IsDefined (sym c.in_ok-machine.ensures) c.requires

pub returns-then-contains_key-clause-kept : goal.returns-then-contains_key-clause-kept
returns-then-contains_key-clause-kept c =
    kept_before (module_of c.args.self.now) c.args.shader c.args.module.now
    (ap (λ (l : Modules). is_some (module_of l c.args.shader)) (sym c.self.view_is) ∙ sym c.contains_key.ensures ∙ c.if-contains_key.true)

pub returns-then-contains_key-clause-defined : goal.returns-then-contains_key-clause-defined
returns-then-contains_key-clause-defined c =
    subst (λ (l : Modules). IsDefined (kept_or (module_of l c.args.shader) c.args.module.now)) c.self.view_is
    (kept_defined c.self.inside.machines.entries c.args.shader c.args.module.now c.self.invariant c.requires)

pub returns-clause-kept : goal.returns-clause-kept
returns-clause-kept c =
    let old = module_of c.args.self.now in
    let none : is_some (old c.args.shader) ≡ false =
    ap (λ (l : Modules). is_some (module_of l c.args.shader)) (sym c.self.view_is) ∙ sym c.contains_key.ensures ∙ c.if-contains_key.false
    in
    on_ok_weaker c.add.result
    (λ added. kept_now old (module_of c.add.new.self) c.args.shader c.args.module.now none
    (λ n. added n ∙ ap (λ (w : List ℕ). cond (n == c.args.shader) (Some w) (old n)) c.in_ok-machine.ensures))
    c.add.ensures

pub returns-clause-defined : goal.returns-clause-defined
returns-clause-defined c =
    subst (λ (l : Modules). IsDefined (kept_or (module_of l c.args.shader) c.args.module.now)) c.self.view_is
    (kept_defined c.self.inside.machines.entries c.args.shader c.args.module.now c.self.invariant c.requires)
