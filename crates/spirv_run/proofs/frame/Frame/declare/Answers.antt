use Rattle.std.proofs.Common.{sym, ap, ◌∙◌}
use Rattle.std.specs.Prelude.{option_map}
use Rattle.spirv_model.specs.Meaning.Values.{At, ToVariable}
use Rattle.spirv_model.specs.Meaning.Memory.{with_result}
use Rattle.spirv_run.specs.Held.{shown, memory_of}
use Rattle.spirv_run.specs.Steps.{Reaches, variable_in}
use Rattle.spirv_run.proofs.frame.Frame.declare.Goals as goal

pub returns-in-Some-clause-given : goal.returns-in-Some-clause-given
returns-in-Some-clause-given c =
    λ slots. ap (Reaches c.args.next) (c.set_value.ensures.set slots ∙ ap (with_result c.args.id (At (ToVariable c.args.id))) (c.set_variable.ensures.set slots))
    ∙ ap (λ o. variable_in (option_map shown o) c.args.id c.args.next (memory_of c.args.self.now slots)) (sym c.in-Some.is)
