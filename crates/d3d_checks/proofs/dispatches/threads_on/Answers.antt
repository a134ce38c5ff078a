use Rattle.std.proofs.Common.{Option, ap, sym, ◌∙◌}
use Rattle.shader_model.specs.Dispatch.{volume}
use Rattle.shader_model.specs.Shader.{Program}
use Rattle.d3d_model.specs.D3dState.{bindings_of, words_set}
use Rattle.d3d_model.specs.Shader.{group_if}
use Rattle.d3d_state.specs.Meaning.{objects_of}
use Rattle.d3d_state.proofs.Spelled.{group_spelled}
use Rattle.d3d_checks.proofs.dispatches.threads_on.Goals as goal

pub returns-in-Some-clause-value : goal.returns-in-Some-clause-value
returns-in-Some-clause-value c =
    let o = objects_of c.args.objects.now in
    c.volume.ensures ∙ ap volume (c.group.ensures ∙ ap (λ (p : Option Program). group_if p) c.in-Some.ensures ∙ sym (group_spelled (words_set o (bindings_of o c.args.context))))

pub returns-in-None-clause-value : goal.returns-in-None-clause-value
returns-in-None-clause-value c =
    let o = objects_of c.args.objects.now in
    ap (λ (p : Option Program). volume (group_if p)) c.in-None.ensures ∙ ap volume (sym (group_spelled (words_set o (bindings_of o c.args.context))))
