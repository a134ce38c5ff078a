use Rattle.std.proofs.Common.{◌≡◌, Bor, Option, Some, None, refl, sym, ap, ◌∙◌}
use Rattle.std.specs.Prelude.{is_some}
use Rattle.std.specs.Option.{option_copied}
use Rattle.vk_device.specs.State.{State}
use Rattle.vk_device.proofs.Ran.{can_run_ready}
use Rattle.vk_device.proofs.device.Device.can_run.Goals as goal

copied_some : {A : Type 0} (o : Option (Bor A)) → is_some o ≡ is_some (option_copied o)
copied_some None = refl
copied_some (Some x) = refl

pub returns-then-can_skip : goal.returns-then-can_skip
returns-then-can_skip c = λ t defined.
    let there = sym c.ready_command.ensures ∙ ap option_copied c.in-Some.is in
    can_run_ready c.args.self.now c.self.inside.memory c.self.inside.machines c.args.j c.in-Some.command.now (option_copied c.args.«module») c.is_some.result (ap (λ (s : State). s.held) c.self.view_is)
    (ap (λ (s : State). s.modules) c.self.view_is)
    there (c.is_some.ensures ∙ copied_some c.args.«module») (c.can_work.ensures c.if-can_work.true) (c.can_skip.ensures c.if-can_skip.true) (c.agree.ensures t) defined
