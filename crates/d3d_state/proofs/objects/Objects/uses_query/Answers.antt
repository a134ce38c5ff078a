use Rattle.std.proofs.Common.{◌∙◌}
use Rattle.d3d_lists.specs.Recorded.{recorded_by}
use Rattle.d3d_model.specs.Binding.{holds_query}
use Rattle.d3d_model.specs.Stream.{is_listed}
use Rattle.d3d_state.specs.Meaning.{objects_of}
use Rattle.d3d_state.proofs.Contexts.{held_by, one_way, other_way}
use Rattle.d3d_state.proofs.objects.Objects.uses_query.Goals as goal

pub returns-then-is_held : goal.returns-then-is_held
returns-then-is_held c =
    let o = c.args.self.now in
    c.if-is_held.true
    ∙ one_way c.is_held.result _ _
    (held_by (λ b. holds_query b c.args.id) o.settings.bindings (recorded_by o.recorder) c.is_held.result c.hold_query.result (is_listed (objects_of o) 4 c.args.id) c.is_held.ensures c.hold_query.ensures)
    c.if-is_held.true

pub returns-else-is_held : goal.returns-else-is_held
returns-else-is_held c =
    let o = c.args.self.now in
    c.is_begun.ensures
    ∙ other_way c.is_held.result _ _
    (held_by (λ b. holds_query b c.args.id) o.settings.bindings (recorded_by o.recorder) c.is_held.result c.hold_query.result (is_listed (objects_of o) 4 c.args.id) c.is_held.ensures c.hold_query.ensures)
    c.if-is_held.false
