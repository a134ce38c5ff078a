-- States that steps reach from the start of a lawful script.
use Rattle.std.specs.Prelude.{List}
use Rattle.vk_types.specs.Effects.{Meaning}
use Rattle.core_model.specs.Script.{Script}
use Rattle.core_model.specs.CoreState.{Core, start}
use Rattle.core_model.specs.Readings.{Reading}
use Rattle.core_model.specs.CoreStep.{Event, Chain}
use Rattle.core_model.specs.Ends.{CoreChain}
use Rattle.core_model.specs.Lawful.{IsLawful}

-- by any choices that the reading has
pub record IsReached (meaning : Meaning) (reading : Reading) (script : Script) (core : Core) : Type 0 where
  pub lawful : IsLawful meaning script
  pub events : List Event
  pub chain : Chain meaning reading script (start script) events core

-- by steps of the core that is stepped
pub record IsStepped (meaning : Meaning) (script : Script) (core : Core) : Type 0 where
  pub lawful : IsLawful meaning script
  pub events : List Event
  pub chain : CoreChain meaning script (start script) events core
