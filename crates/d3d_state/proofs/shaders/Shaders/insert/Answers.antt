use Rattle.std.proofs.Common.{ap, ◌∙◌}
use Rattle.base_lemmas.specs.IdMap.{insert}
use Rattle.d3d_model.specs.D3dState.{Shader}
use Rattle.base_lemmas.proofs.CodeMaps.{map_of-insert}
use Rattle.d3d_state.specs.Shaders.{Shaders}
use Rattle.d3d_state.proofs.shaders.Shaders.insert.Goals as goal

pub returns-clause-inserted : goal.returns-clause-inserted
returns-clause-inserted c =
    map_of-insert (λ (s : Shader). s) c.self.inside.shaders.entries c.insert.new.self.entries c.args.id c.args.shader c.in_ok-insert.ensures.updates.0
    ∙ ap (λ (m : Shaders). insert m c.args.id c.args.shader) c.self.view_is
