use Rattle.std.proofs.Common.{ap, sym, ◌∙◌}
use Rattle.base_lemmas.specs.IdMap.{get}
use Rattle.d3d_state.specs.Codes.{Views}
use Rattle.d3d_state.proofs.Found.{found}
use Rattle.d3d_state.proofs.Counts.{fits_found}
use Rattle.d3d_state.proofs.views.Views.shape.Goals as goal

pub returns-clause-value : goal.returns-clause-value
returns-clause-value c = c.copied.ensures ∙ c.get.ensures.value ∙ sym (found c.self.inside.shapes.entries c.args.id) ∙ ap (λ (m : Views). get m c.args.id) c.self.view_is

pub returns-clause-end : goal.returns-clause-end
returns-clause-end c = fits_found c.self.inside.shapes.entries c.self.inside.counts.entries c.args.id c.copied.result c.self.invariant (c.copied.ensures ∙ c.get.ensures.value)
