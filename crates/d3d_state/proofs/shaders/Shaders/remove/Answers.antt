use Rattle.std.proofs.Common.{ap, ◌∙◌}
use Rattle.base_lemmas.specs.IdMap.{remove}
use Rattle.d3d_model.specs.D3dState.{Shader}
use Rattle.base_lemmas.proofs.CodeMaps.{map_of-remove}
use Rattle.d3d_state.specs.Shaders.{Shaders}
use Rattle.d3d_state.proofs.shaders.Shaders.remove.Goals as goal

pub returns : goal.returns
returns c =
    map_of-remove (λ (s : Shader). s) c.self.inside.shaders.entries c.remove.new.self.entries c.args.id c.remove.ensures.updates.0
    ∙ ap (λ (m : Shaders). remove m c.args.id) c.self.view_is
