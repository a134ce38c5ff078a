use Rattle.std.proofs.Common.{◌*◌, Some, None, if◌then◌else◌, ap, ◌∙◌}
use Rattle.shader_model.specs.Shader.{program_of}
use Rattle.shader_model.specs.Dispatch.{is_allowed, volume}
use Rattle.shader_eval.proofs.Walking.{runs}
use Rattle.shader_eval.proofs.dispatch.run_groups.Goals as goal

pub returns-clause-words : goal.returns-clause-words
returns-clause-words c =
    let groups = c.args.groups in
    let said = c.in-Some.ensures ∙ ap (λ z. if is_allowed groups z then Some (volume groups * volume z) else None) c.group.ensures in
    runs (program_of c.args.shader.now) groups c.in-Some.count c.args.slots.now.words c.run_all_groups.new.slots.words said c.run_all_groups.ensures.words
