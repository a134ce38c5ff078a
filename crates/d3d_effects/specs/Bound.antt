-- The ranges that an accepted call of the immediate context binds.
use Rattle.std.specs.Prelude.{Bool, true, false, List}
use Rattle.std.specs.List.{filter_map}
use Rattle.dx_types.specs.declared.range.ResRange.{ResRange}
use Rattle.call_log.specs.Call as calls
use Rattle.call_log.specs.Call.{Call}
use Rattle.d3d_model.specs.D3dState.{Objects}
use Rattle.d3d_model.specs.Effect.{deeds_by}
use Rattle.d3d_model.specs.Uses.{range_bound}

abbrev pub bound_of : Objects → Call → List ResRange
bound_of o c = filter_map range_bound (deeds_by o 0 c)

-- the call executes a list, whose calls bind what it binds
abbrev pub is_execution : Call → Bool
is_execution (calls.ExecuteList list flag) = true
is_execution _ = false
