use Rattle.std.proofs.Common.{Option, ap, ◌∙◌}
use Rattle.spirv_model.specs.Meaning.Values.{Value}
use Rattle.spirv_model.specs.Meaning.Memory.{with_existing}
use Rattle.spirv_run.specs.Held.{shown, memory_of}
use Rattle.spirv_run.specs.Steps.{Reaches, left_in}
use Rattle.spirv_run.proofs.frame.Frame.set_existing.Goals as goal

pub returns-in-Some-clause-stored : goal.returns-in-Some-clause-stored
returns-in-Some-clause-stored c =
    λ slots. ap (Reaches c.args.next) (c.set_variable.ensures.set slots)
    ∙ ap (λ (o : Option Value). left_in (with_existing o c.args.id (shown c.args.value) (memory_of c.args.self.now slots)) c.args.next) c.in-Some.ensures.value
