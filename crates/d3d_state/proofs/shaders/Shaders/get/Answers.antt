use Rattle.std.proofs.Common.{ap, sym, ◌∙◌}
use Rattle.base_lemmas.specs.IdMap.{get}
use Rattle.d3d_state.specs.Shaders.{Shaders}
use Rattle.d3d_state.proofs.Found.{found}
use Rattle.d3d_state.proofs.shaders.Shaders.get.Goals as goal

pub returns : goal.returns
returns c = c.get.ensures.value ∙ sym (found c.self.inside.shaders.entries c.args.id) ∙ ap (λ (m : Shaders). get m c.args.id) c.self.view_is
