use Rattle.std.proofs.Common.{Option, sym, ap, ◌∙◌}
use Rattle.std.proofs.lemmas.Result.{on_ok_weaker}
use Rattle.shader_model.specs.Shader.{program_of}
use Rattle.base_lemmas.specs.IdMap.{get}
use Rattle.d3d_model.specs.D3dState.{Shader, words_if}
use Rattle.d3d_state.specs.Meaning.{objects_of}
use Rattle.d3d_state.specs.Shaders.{program_by}
use Rattle.d3d_state.proofs.Spelled.{none_set}
use Rattle.d3d_memory.proofs.Programs.{idle_dispatch, program_runs}
use Rattle.d3d_memory.proofs.dispatch.dispatch.Goals as goal

pub returns-in-Some-clause-ok : goal.returns-in-Some-clause-ok
returns-in-Some-clause-ok c =
    let o = objects_of c.args.objects.now in
    on_ok_weaker c.dispatch_shader.result
    (λ is. is ∙ sym (program_runs o c.args.bindings.now c.args.groups c.args.memory.now (program_of c.tree.result.now)
    (ap (λ (s : Option Shader). program_by (words_if s)) (sym (c.in-Some.ensures ∙ ap (get o.shaders) c.shader.ensures)) ∙ c.tree.ensures)))
    c.dispatch_shader.ensures.ok

pub returns-in-None-clause-ok : goal.returns-in-None-clause-ok
returns-in-None-clause-ok c =
    let o = objects_of c.args.objects.now in
    sym (idle_dispatch o c.args.bindings.now c.args.groups c.args.memory.now (sym (none_set _ (c.in-None.ensures ∙ ap (get o.shaders) c.shader.ensures))))
