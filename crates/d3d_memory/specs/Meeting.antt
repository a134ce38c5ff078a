-- The state that a call meets.
use Rattle.d3d_model.specs.D3dState.{Objects, Memory}
use Rattle.d3d_model.specs.Past.{Past}
use Rattle.d3d_model.specs.InOrder.{State}

abbrev pub met_by : Objects → Memory → Past → State
met_by objects memory past = record { objects = objects; memory = memory; past = past }
