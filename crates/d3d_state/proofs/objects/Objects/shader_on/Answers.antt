use Rattle.std.proofs.Common.{Option, arith, sym, ap, ◌∙◌}
use Rattle.base_lemmas.specs.IdMap.{get}
use Rattle.d3d_lists.specs.Recorded.{recorded_by}
use Rattle.d3d_model.specs.Binding.{Bindings}
use Rattle.d3d_model.specs.D3dState.{Shader, words_if}
use Rattle.d3d_state.specs.Shaders.{program_by}
use Rattle.d3d_state.proofs.Contexts.{bindings_at}
use Rattle.d3d_state.proofs.Spelled.{none_set}
use Rattle.d3d_state.proofs.objects.Objects.shader_on.Goals as goal

pub returns : goal.returns
returns c =
    let o = c.args.self.now in
    let set = c.on.ensures ∙ bindings_at o.settings.bindings (recorded_by o.recorder) c.args.context (omega (arith, o.settings.all, c.requires)) in
    sym c.tree.ensures
    ∙ ap (λ (s : Option Shader). program_by (words_if s)) (c.in_ok-shader.ensures ∙ ap (get o.shaders) (c.shader.ensures ∙ ap (λ (b : Bindings). b.shader) set))

pub returns-in_err-shader : goal.returns-in_err-shader
returns-in_err-shader c =
    let o = c.args.self.now in
    let set = c.on.ensures ∙ bindings_at o.settings.bindings (recorded_by o.recorder) c.args.context (omega (arith, o.settings.all, c.requires)) in
    rw c.from_residual.ensures (none_set _ (c.in_err-shader.ensures ∙ ap (get o.shaders) (c.shader.ensures ∙ ap (λ (b : Bindings). b.shader) set)))
