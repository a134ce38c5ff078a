use Rattle.std.proofs.Common.{◌≤◌, Option, ap, sym, ◌∙◌, arith}
use Rattle.std.specs.Option.{ok_or}
use Rattle.dx_types.specs.declared.refusal.Refusal.TheVariants.{UnknownId}
use Rattle.dx_types.specs.declared.shape.Shape.{Shape}
use Rattle.base_lemmas.specs.IdMap.{get, remove}
use Rattle.base_lemmas.specs.CodeMap.{map_of}
use Rattle.d3d_model.specs.Resource.{Buffers}
use Rattle.base_lemmas.proofs.CodeMaps.{map_of-remove}
use Rattle.d3d_resources.proofs.KeptTotals.{shape_at, live_bytes-remove, live_dynamic-remove, kept-remove}
use Rattle.d3d_resources.proofs.table.Table.remove.Goals as goal

pub returns-in_default-clause-value : goal.returns-in_default-clause-value
returns-in_default-clause-value c =
    let none = sym (ap (λ (b : Buffers). get b c.args.id) c.self.view_is) ∙ shape_at c.self.inside.shapes.entries c.args.id ∙ sym c.remove.ensures.value ∙ c.in_default.is in
    sym (ap (λ (o : Option Shape). ok_or o UnknownId) none)

pub overflow_sub-self : goal.overflow_sub-self
overflow_sub-self c =
    let live = shape_at c.self.inside.shapes.entries c.args.id ∙ sym c.remove.ensures.value ∙ c.in-Some.is in
    omega (arith, live_bytes-remove (map_of (λ (s : Shape). s) c.self.inside.shapes.entries) c.args.id c.in-Some.shape live, c.self.invariant.sum_of_sizes)

pub count_out-requires : goal.count_out-requires
count_out-requires c = λ class below.
    let live = shape_at c.self.inside.shapes.entries c.args.id ∙ sym c.remove.ensures.value ∙ c.in-Some.is in
    omega (arith, live_dynamic-remove (map_of (λ (s : Shape). s) c.self.inside.shapes.entries) c.args.id c.in-Some.shape class live, c.self.invariant.of_classes class below)

pub invariant_of-self-2 : goal.invariant_of-self-2
invariant_of-self-2 c =
    let es = c.self.inside.shapes.entries in
    let live = shape_at es c.args.id ∙ sym c.remove.ensures.value ∙ c.in-Some.is in
    let less = map_of-remove (λ (s : Shape). s) es c.remove.new.self.entries c.args.id c.remove.ensures.updates.0 in
    let within : c.in-Some.shape.size ≤ c.self.inside.total =
    omega (arith, live_bytes-remove (map_of (λ (s : Shape). s) es) c.args.id c.in-Some.shape live, c.self.invariant.sum_of_sizes) in
    rw less (kept-remove (map_of (λ (s : Shape). s) es) c.self.inside.total c.self.inside.dynamic _ c.count_out.new.dynamic c.args.id c.in-Some.shape c.self.invariant live (omega arith) c.count_out.ensures)

pub returns-clause-value : goal.returns-clause-value
returns-clause-value c =
    let live = sym (ap (λ (b : Buffers). get b c.args.id) c.self.view_is) ∙ shape_at c.self.inside.shapes.entries c.args.id ∙ sym c.remove.ensures.value ∙ c.in-Some.is in
    sym (ap (λ (o : Option Shape). ok_or o UnknownId) live)

pub returns-clause-removed : goal.returns-clause-removed
returns-clause-removed c =
    map_of-remove (λ (s : Shape). s) c.self.inside.shapes.entries c.remove.new.self.entries c.args.id c.remove.ensures.updates.0
    ∙ ap (λ (b : Buffers). remove b c.args.id) c.self.view_is
