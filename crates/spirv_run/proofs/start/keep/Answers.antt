use Rattle.std.proofs.Common.{sym, ap, ◌∙◌}
use Rattle.spirv_run.specs.Frames.{at_start}
use Rattle.spirv_run.specs.Held.{memory_of}
use Rattle.spirv_run.specs.Steps.{Reaches, result_in, done}
use Rattle.spirv_run.proofs.start.keep.Goals as goal

pub returns-in-Some-clause-done : goal.returns-in-Some-clause-done
returns-in-Some-clause-done c = λ _ ids slots next.
    let m = memory_of (at_start c.args.frame.now.begins) slots in
    ap (λ s. done ids s next m) c.in-Give.is
    ∙ ap (λ v. result_in v c.in-Give.id next m) (c.in-Some.ensures ids m)
    ∙ ap (Reaches next) (sym (c.keep.ensures.set slots))
