-- The machine's progress, and what each event does to it.
use Rattle.std.specs.Prelude.{◌≡◌, ℕ, ◌+◌, ◌-◌, ◌*◌, ◌<◌, ◌==◌, Bool, true, false, not, ◌&&◌, List, [], ◌∷◌, ◌++◌, length, if◌then◌else◌}
use Rattle.core_machine.specs.declared.events.Event.{Event}
use Rattle.core_machine.specs.declared.events.Event.TheVariants.{App, Cs, Pipe, Submit, Accept, Complete, Run, Finish}
use Rattle.core_machine.specs.declared.events.Stepped.{Stepped}
use Rattle.core_machine.specs.declared.events.Stepped.TheVariants.{Done, Line, Ended, NotEnabled, NoMemory}
use Rattle.core_machine.specs.declared.events.Flight.{Flight}
use Rattle.core_machine.specs.declared.events.Flight.TheVariants.{Empty, Waiting, Ran}
use Rattle.dx_types.specs.declared.reply.Reply.{Reply}
use Rattle.dx_types.specs.declared.reply.Reply.TheVariants as replies
use Rattle.call_log.specs.Call.{Issued}
use Rattle.core_machine.specs.Commands.{makes_command}
use Rattle.d3d_model.specs.ReplyText.{replies, replies_upto, reply_at, none_pending}

-- How far the machine is: the calls that were taken, and whether the last of them is a command that was
-- not run, or not finished.
pub record Progress : Type 0 where
  pub log : List Issued
  pub taken : ℕ
  pub flight : Flight
  pub ended : Bool

abbrev pub start : List Issued → Progress
start log = record { log = log; taken = 0; flight = Empty; ended = false }

-- how many calls have had their effect
abbrev pub settled : Flight → ℕ → ℕ
settled Empty n = n
settled Waiting n = n - 1
settled Ran n = n

abbrev pub end_if : Bool → ℕ → List Reply
end_if true calls = replies.Finished calls ∷ []
end_if false calls = []

-- the replies that were given
abbrev pub given : Progress → List Reply
given p = replies_upto (reply_at p.log none_pending) p.taken ++ end_if p.ended (length p.log)

-- what was given is a front of all replies
pub record IsFront (p : Progress) : Type 0 where
  pub rest : List Reply
  pub is : replies p.log none_pending ≡ given p ++ rest

abbrev pub is_empty : Flight → Bool
is_empty Empty = true
is_empty Waiting = false
is_empty Ran = false

abbrev pub is_waiting : Flight → Bool
is_waiting Empty = false
is_waiting Waiting = true
is_waiting Ran = false

abbrev pub is_ran : Flight → Bool
is_ran Empty = false
is_ran Waiting = false
is_ran Ran = true

-- an event that can be done: the next call where no command is in flight, the command in flight, its finish
abbrev pub is_enabled : Progress → Event → Bool
is_enabled p App = not p.ended && is_empty p.flight
is_enabled p (Run j) = (j == 0) && is_waiting p.flight
is_enabled p Finish = is_ran p.flight
is_enabled p Cs = false
is_enabled p (Pipe j) = false
is_enabled p Submit = false
is_enabled p Accept = false
is_enabled p Complete = false

-- the first enabled of finish, run and app
abbrev pub settling : Progress → Event
settling p = by_flight p.flight
  where
    by_flight : Flight → Event
    by_flight Ran = Finish
    by_flight Waiting = Run 0
    by_flight Empty = App

-- the reply of a step
abbrev pub said : Stepped → List Reply
said Done = []
said (Line r) = r ∷ []
said (Ended r) = r ∷ []
said NotEnabled = []
said NoMemory = []

-- how many steps are left
abbrev pub rank : Flight → ℕ
rank Empty = 0
rank Waiting = 2
rank Ran = 1

abbrev pub left_of : Progress → ℕ
left_of p = 3 * (length p.log - p.taken) + rank p.flight + (if p.ended then 0 else 1)

-- the command in flight after an event that was done
abbrev pub flight_after : Progress → Event → Flight
flight_after p App = if makes_command p.log (p.taken + 1) then Waiting else Empty
flight_after p (Run j) = Ran
flight_after p _ = Empty

-- a step that was made
pub record Steps (old new : Progress) (r : Stepped) : Type 0 where
  pub log : new.log ≡ old.log
  pub given : given new ≡ given old ++ said r
  pub nearer : left_of new < left_of old

-- what became of the machine
abbrev pub Moves : Progress → Event → Stepped → Progress → Type 0
Moves old e Done new = (is_enabled old e ≡ true) × (new.flight ≡ flight_after old e) × Steps old new Done
Moves old e (Line r) new = (is_enabled old e ≡ true) × (new.flight ≡ Empty) × Steps old new (Line r)
Moves old e (Ended r) new = (is_enabled old e ≡ true) × (new.ended ≡ true) × (new.taken ≡ length new.log) × Steps old new (Ended r)
Moves old e NotEnabled new = (is_enabled old e ≡ false) × (new ≡ old)
Moves old e NoMemory new = (is_enabled old e ≡ true) × (new.log ≡ old.log)
