-- Runs as chains of steps with free choices.
use Rattle.std.specs.Prelude.{◌≡◌, Bool, true, false, List, ◌∷◌}
use Rattle.std.specs.List.{AllByRecursion}
use Rattle.vk_types.specs.Effects.{Meaning}
use Rattle.core_model.specs.Script.{Script}
use Rattle.core_model.specs.CoreState.{Core}
use Rattle.core_model.specs.Readings.{Any_choices}
use Rattle.core_model.specs.CoreStep.{Event, App, Cs, Pipe, Submit, Accept, Run, Complete, Finish, Come_home, Chain}

-- a block comes home
abbrev pub is_home : Event → Bool
is_home (App posts) = false
is_home Cs = false
is_home (Pipe place) = false
is_home Submit = false
is_home Accept = false
is_home (Run place) = false
is_home Complete = false
is_home Finish = false
is_home (Come_home block place) = true

-- the event as a step with free choices, with others behind it that bring blocks home
abbrev pub FreeSteps : Meaning → Script → Core → Event → Core → Type 0
FreeSteps meaning script old e new =
    (homes : List Event) × AllByRecursion (λ e. is_home e ≡ true) homes
    × Chain meaning Any_choices script old (e ∷ homes) new

-- steps with free choices
abbrev pub FreeRun : Meaning → Script → Core → Core → Type 0
FreeRun meaning script old new = (events : List Event) × Chain meaning Any_choices script old events new
