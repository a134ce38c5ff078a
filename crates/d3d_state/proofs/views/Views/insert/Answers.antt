use Rattle.std.proofs.Common.{ap, ◌∙◌, arith}
use Rattle.dx_types.specs.declared.shape.ViewShape.{ViewShape}
use Rattle.base_lemmas.specs.CodeMap.{map_of}
use Rattle.base_lemmas.specs.IdMap.{get, insert}
use Rattle.base_lemmas.proofs.CodeMaps.{map_of-insert}
use Rattle.d3d_state.specs.Codes.{Views}
use Rattle.d3d_state.proofs.Counts.{views_of-few, counted-insert}
use Rattle.d3d_state.proofs.views.Views.insert.Goals as goal

pub overflow_add-count : goal.overflow_add-count
overflow_add-count c =
    omega (arith, c.count_in-count.ensures, c.self.invariant.of_buffer c.args.shape.res, views_of-few c.self.inside.shapes.entries c.args.shape.res, c.len.ensures.len, c.len.ensures.small)

pub invariant_of-self-2 : goal.invariant_of-self-2
invariant_of-self-2 c =
    let es = c.self.inside.shapes.entries in
    let added = map_of-insert (λ (s : ViewShape). s) es c.insert-2.new.self.entries c.args.id c.args.shape c.in_ok-insert-2.ensures.updates.0 in
    rw added
    (counted-insert (map_of (λ (s : ViewShape). s) es) c.self.inside.counts.entries c.insert.new.self.entries c.insert-3.new.self.entries c.args.id c.args.shape c.count_in-count.result
    c.self.invariant (ap (λ (m : Views). get m c.args.id) c.self.view_is ∙ c.requires.free) c.requires.end c.count_in-count.ensures c.in_ok-insert.ensures.updates.0 c.in_ok-insert-3.ensures.updates.0)

pub returns-clause-inserted : goal.returns-clause-inserted
returns-clause-inserted c =
    map_of-insert (λ (s : ViewShape). s) c.self.inside.shapes.entries c.insert-2.new.self.entries c.args.id c.args.shape c.in_ok-insert-2.ensures.updates.0
    ∙ ap (λ (m : Views). insert m c.args.id c.args.shape) c.self.view_is
