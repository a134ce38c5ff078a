-- The view that a call describes, and the checks on it that its buffer's shape decides.
use Rattle.std.specs.Prelude.{List}
use Rattle.dx_types.specs.declared.shape.Shape.{Shape}
use Rattle.dx_types.specs.declared.shape.ViewShape.{ViewShape}
use Rattle.call_log.specs.Call as calls
use Rattle.call_log.specs.Call.{Call}
use Rattle.d3d_model.specs.Check.{Check}
use Rattle.d3d_model.specs.Verdict.{described_on}
use Rattle.d3d_views.specs.Creation.{shape_checks}
use Rattle.d3d_checks.specs.declared.new_view.NewView.{NewView}

abbrev pub view_call : NewView → Call
view_call v = calls.View v.view v.res v.kind v.form v.components v.first v.count

abbrev pub described_by : Shape → NewView → ViewShape
described_by s v = described_on s.stride v.res v.kind v.form v.components v.first v.count

-- the checks behind those of the ids
abbrev pub checks_by : Shape → NewView → List Check
checks_by s v = shape_checks s (described_by s v) v.kind v.form v.components
