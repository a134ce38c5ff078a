use Rattle.std.proofs.Common.{ap, sym, ◌∙◌}
use Rattle.base_lemmas.specs.IdMap.{get}
use Rattle.d3d_model.specs.Resource.{Buffers}
use Rattle.d3d_resources.proofs.KeptTotals.{shape_at}
use Rattle.d3d_resources.proofs.table.Table.shape.Goals as goal

pub returns : goal.returns
returns c = c.copied.ensures ∙ c.get.ensures.value ∙ sym (shape_at c.self.inside.shapes.entries c.args.id) ∙ ap (λ (m : Buffers). get m c.args.id) c.self.view_is
