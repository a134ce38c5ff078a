use Rattle.std.proofs.Common.{◌≡◌, Some, sym, ap, subst, ◌∙◌}
use Rattle.std.specs.Ordering.{nat_cmp}
use Rattle.std.specs.List.{AllByRecursion}
use Rattle.std.specs.BTreeMap.{is_at}
use Rattle.std.proofs.lemmas.Map.Steps.{set_value_same}
use Rattle.vk_device.specs.Modules.{HasOutcome, Modules}
use Rattle.vk_device.proofs.machines.Machines.dispatch_kept.Goals as goal

pub invariant_of-self : goal.invariant_of-self
invariant_of-self c =
    let es = c.self.inside.machines.entries in
    let new = c.dispatch.new.machine in
    let same : (c.get_mut.follows.lender new).entries ≡ es =
    (c.get_mut.follows.holds new).0 ∙ set_value_same (is_at (nat_cmp c.args.shader)) es new (sym c.in-Some.ensures.value ∙ ap Some (sym c.dispatch.ensures.machine))
    in
    subst (λ (l : Modules). AllByRecursion HasOutcome l) (sym same) c.self.invariant

pub returns-clause-unchanged : goal.returns-clause-unchanged
returns-clause-unchanged c =
    let es = c.self.inside.machines.entries in
    let new = c.dispatch.new.machine in
    (c.get_mut.follows.holds new).0 ∙ set_value_same (is_at (nat_cmp c.args.shader)) es new (sym c.in-Some.ensures.value ∙ ap Some (sym c.dispatch.ensures.machine))
    ∙ c.self.view_is
