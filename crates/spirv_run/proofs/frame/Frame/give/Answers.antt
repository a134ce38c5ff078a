use Rattle.std.proofs.Common.{sym, ap, ◌∙◌}
use Rattle.std.specs.Prelude.{option_map}
use Rattle.spirv_run.specs.Held.{shown, memory_of}
use Rattle.spirv_run.specs.Steps.{Reaches, result_in}
use Rattle.spirv_run.proofs.frame.Frame.give.Goals as goal

pub returns-in-Some-clause-given : goal.returns-in-Some-clause-given
returns-in-Some-clause-given c =
    λ slots. ap (Reaches c.args.next) (c.set_value.ensures.set slots)
    ∙ ap (λ o. result_in (option_map shown o) c.args.id c.args.next (memory_of c.args.self.now slots)) (sym c.in-Some.is)
