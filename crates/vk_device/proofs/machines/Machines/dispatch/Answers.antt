use Rattle.std.proofs.Common.{List, ℕ, Option, sym, ap, subst, ◌∙◌}
use Rattle.std.specs.Prelude.{is_some}
use Rattle.vk_types.specs.Effects.{Meaning, effect, invocations}
use Rattle.device_memory.specs.Held.{memory_of}
use Rattle.device_memory.specs.Meant.{meaning_by}
use Rattle.device_memory.specs.Runs.{CanRun}
use Rattle.vk_device.specs.Modules.{kept_or, module_of}
use Rattle.vk_device.proofs.Kept.{can_run_by, kept_means, kept_there}
use Rattle.vk_device.proofs.machines.Machines.dispatch.Goals as goal

pub dispatch_kept-requires-clause-kept : goal.dispatch_kept-requires-clause-kept
dispatch_kept-requires-clause-kept c =
    let there = ap (λ (f : ℕ → Option (List ℕ)). f c.args.shader) c.in_ok-keep.ensures.kept ∙ kept_there (module_of c.args.self.now) c.args.shader c.args.module.now in
    ap is_some there

pub dispatch_kept-requires-clause-can : goal.dispatch_kept-requires-clause-can
dispatch_kept-requires-clause-can c =
    let there = ap (λ (f : ℕ → Option (List ℕ)). f c.args.shader) c.in_ok-keep.ensures.kept ∙ kept_there (module_of c.args.self.now) c.args.shader c.args.module.now in
    subst (CanRun c.args.memory.now c.args.c.now) (sym there)
    (can_run_by c.args.memory.now c.args.c.now c.args.module.now (kept_or (module_of c.args.self.now c.args.shader) c.args.module.now) c.in_ok-keep.ensures.defined c.requires.can)

pub returns-clause-memory : goal.returns-clause-memory
returns-clause-memory c =
    let there = ap (λ (f : ℕ → Option (List ℕ)). f c.args.shader) c.in_ok-keep.ensures.kept ∙ kept_there (module_of c.args.self.now) c.args.shader c.args.module.now in
    c.dispatch_kept.ensures.memory
    ∙ ap (λ (o : Option (List ℕ)). effect (meaning_by o) c.args.c.now (memory_of c.args.memory.now)) there
    ∙ ap (λ (m : Meaning). effect m c.args.c.now (memory_of c.args.memory.now)) (kept_means (module_of c.args.self.now c.args.shader) c.args.module.now c.requires.same)

pub returns-clause-count : goal.returns-clause-count
returns-clause-count c =
    let there = ap (λ (f : ℕ → Option (List ℕ)). f c.args.shader) c.in_ok-keep.ensures.kept ∙ kept_there (module_of c.args.self.now) c.args.shader c.args.module.now in
    c.dispatch_kept.ensures.count
    ∙ ap (λ (o : Option (List ℕ)). invocations (meaning_by o) c.args.c.now (memory_of c.args.memory.now)) there
    ∙ ap (λ (m : Meaning). invocations m c.args.c.now (memory_of c.args.memory.now)) (kept_means (module_of c.args.self.now c.args.shader) c.args.module.now c.requires.same)

pub returns-clause-modules : goal.returns-clause-modules
returns-clause-modules c = ap module_of c.dispatch_kept.ensures.unchanged ∙ c.in_ok-keep.ensures.kept
