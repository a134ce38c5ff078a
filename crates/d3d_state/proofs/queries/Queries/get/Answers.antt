use Rattle.std.proofs.Common.{ap, sym, ◌∙◌}
use Rattle.base_lemmas.specs.IdMap.{get}
use Rattle.d3d_state.specs.Codes.{Queries}
use Rattle.d3d_state.proofs.Found.{found}
use Rattle.d3d_state.proofs.queries.Queries.get.Goals as goal

pub returns : goal.returns
returns c = c.copied.ensures ∙ c.get.ensures.value ∙ sym (found c.self.inside.queries.entries c.args.id) ∙ ap (λ (m : Queries). get m c.args.id) c.self.view_is
