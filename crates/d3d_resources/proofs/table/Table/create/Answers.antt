use Rattle.std.proofs.Common.{ap, sym, ◌∙◌}
use Rattle.dx_types.specs.declared.shape.Shape.{Shape}
use Rattle.d3d_model.specs.Check.{first_failed}
use Rattle.base_lemmas.specs.IdMap.{insert}
use Rattle.base_lemmas.specs.CodeMap.{map_of}
use Rattle.d3d_model.specs.Resource.{Buffers}
use Rattle.base_lemmas.proofs.CodeMaps.{map_of-insert}
use Rattle.d3d_resources.specs.Creation.{table_checks}
use Rattle.d3d_resources.proofs.CheckOrder.{goes}
use Rattle.d3d_resources.proofs.KeptTotals.{kept-insert}
use Rattle.d3d_resources.proofs.table.Table.create.Goals as goal

pub invariant_of-self-2 : goal.invariant_of-self-2
invariant_of-self-2 c =
    let es = c.self.inside.shapes.entries in
    let added = map_of-insert (λ (s : Shape). s) es c.insert.new.self.entries c.args.id c.args.shape c.in_ok-insert.ensures.updates.0 in
    let g = goes (map_of (λ (s : Shape). s) es) c.args.id c.args.shape (ap (λ (b : Buffers). first_failed (table_checks b c.args.id c.args.shape)) c.self.view_is ∙ sym c.refusal.ensures ∙ c.in_default.is) in
    rw added (kept-insert (map_of (λ (s : Shape). s) es) c.self.inside.total c.self.inside.dynamic c.count_in.new.dynamic c.args.id c.args.shape c.self.invariant g.free g.room g.few c.count_in.ensures)

pub returns-clause-created : goal.returns-clause-created
returns-clause-created c =
    map_of-insert (λ (s : Shape). s) c.self.inside.shapes.entries c.insert.new.self.entries c.args.id c.args.shape c.in_ok-insert.ensures.updates.0
    ∙ ap (λ (b : Buffers). insert b c.args.id c.args.shape) c.self.view_is
