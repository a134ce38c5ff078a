-- What each step keeps, where the invariant holds, holds in every state that steps reach.
use Rattle.std.proofs.Common.{List, [], ◌∷◌, sym, subst}
use Rattle.vk_types.specs.Effects.{Meaning}
use Rattle.core_model.specs.Script.{Script}
use Rattle.core_model.specs.CoreState.{Core, start}
use Rattle.core_model.specs.Readings.{Reading}
use Rattle.core_model.specs.CoreStep.{Event, Step, Chain}
use Rattle.core_model.specs.Lawful.{IsLawful}
use Rattle.core_model.specs.Kept.{Kept}
use Rattle.core_model.proofs.Runs.StepsKeepAll.{start_kept}
use Rattle.core_model.proofs.Queries.QueryMoves.{start_queries}
use Rattle.core_model.proofs.Blocks.ClassSteps.{start_classes}
use Rattle.core_model.proofs.Runs.RunsKeepAll.{Holds, step_kept}

module _ (meaning : Meaning) (reading : Reading) (script : Script) (lawful : IsLawful meaning script) (P : Core
    → Type 0)
    (keeps : (old : Core) (e : Event) (new : Core) → Step meaning reading script old e new
    → Kept meaning reading script old → P old → P new) where
  chain_keeps : (events : List Event) (old new : Core) → Chain meaning reading script old events new
      → Holds meaning reading script lawful old → P old → P new
  chain_keeps [] old new h k p = subst P (sym h) p
  chain_keeps (e ∷ es) old new h k p = chain_keeps es h.0 new h.2
      (step_kept meaning reading script lawful old e h.0 h.1 k) (keeps old e h.0 h.1 k.0 p)

  -- from the start on
  pub reached : P (start script) → (events : List Event) (core : Core)
      → Chain meaning reading script (start script) events core → P core
  reached p events core h = chain_keeps events (start script) core h
      (start_kept meaning reading script, start_queries meaning script, start_classes script) p
