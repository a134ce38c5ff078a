use Rattle.std.proofs.Common.{ap, ◌∙◌}
use Rattle.base_lemmas.specs.IdMap.{insert}
use Rattle.d3d_model.specs.D3dState.{Query}
use Rattle.base_lemmas.proofs.CodeMaps.{map_of-insert}
use Rattle.d3d_state.specs.Codes.{Queries}
use Rattle.d3d_state.proofs.queries.Queries.insert.Goals as goal

pub returns-clause-inserted : goal.returns-clause-inserted
returns-clause-inserted c =
    map_of-insert (λ (s : Query). s) c.self.inside.queries.entries c.insert.new.self.entries c.args.id c.args.query c.in_ok-insert.ensures.updates.0
    ∙ ap (λ (m : Queries). insert m c.args.id c.args.query) c.self.view_is
