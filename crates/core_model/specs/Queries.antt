-- What holds of a run between steps of the queries that count: how many commands the turns make, which marks of
-- queries, how many invocations each command ran, and which values App learned.
use Rattle.std.specs.Prelude.{◌≡◌, ℕ, suc, ◌+◌, ◌<◌, ◌≤◌, Bool, cond, not, ◌&&◌, ◌==◌, nat_le, List, [], ◌∷◌, ◌++◌}
use Rattle.std.specs.Prelude.{map, Some, None}
use Rattle.std.specs.List.{AllByRecursion}
use Rattle.vk_types.specs.declared.message.QueryMark.{QueryMark}
use Rattle.base_lemmas.specs.Lists.{numbers_from}
use Rattle.vk_types.specs.Memory.{number_at}
use Rattle.vk_types.specs.Effects.{Meaning, Act, Host_write, Device, Host_read, work_count, is_skipped}
use Rattle.vk_types.specs.Entries.{Entry}
use Rattle.core_model.specs.Script.{Play, Create, Discard, No_overwrite, Stage, Command, Destroy, Create_shader}
use Rattle.core_model.specs.Script.{Mark_query, Set_state, Turn, Refused, Passed, Flushed, Asked, Item, Script}
use Rattle.core_model.specs.Script.{InOrder, at_start, turn_in_order}
use Rattle.core_model.specs.CoreState.{Segment, entries, Message, Core, segments, listed, done}
use Rattle.core_model.specs.AppActs.{device_commands}
use Rattle.core_model.specs.OtherParts.{all_marks, value_at, values_of}
use Rattle.core_model.specs.Worlds.{empty, run_world}

-- What the turns make ------------------------------------------------------------------------------------------------

-- the commands that a play makes, each with the invocations that it runs in order
abbrev pub play_runs : Meaning → Play → InOrder → List ℕ
play_runs meaning (Create buffer bytes) s = []
play_runs meaning (Discard buffer from bytes) s = []
play_runs meaning (No_overwrite buffer from bytes) s = []
play_runs meaning (Stage [] target skip) s = []
play_runs meaning (Stage (b ∷ bs) None skip) s = []
play_runs meaning (Stage (b ∷ bs) (Some target) skip) s = 0 ∷ []
play_runs meaning (Command w skip) s = cond (is_skipped skip s.bytes) 0 (work_count meaning w s.bytes) ∷ []
play_runs meaning (Destroy buffer) s = []
play_runs meaning Create_shader s = []
play_runs meaning (Mark_query query begins) s = []
play_runs meaning Set_state s = []

abbrev pub turn_runs : Meaning → Turn → InOrder → List ℕ
turn_runs meaning (Refused call) s = []
turn_runs meaning (Passed call) s = []
turn_runs meaning (Flushed call) s = []
turn_runs meaning (Asked call ask used may_pend) s = []
turn_runs meaning (Item call item ends play bound) s = play_runs meaning play s

-- the invocations of each command that these turns make, one after another from this state on
abbrev pub runs_in_order : Meaning → Script → List Turn → InOrder → List ℕ
runs_in_order meaning script [] s = []
runs_in_order meaning script (t ∷ ts) s = turn_runs meaning t s
    ++ runs_in_order meaning script ts (turn_in_order meaning script t s)

-- how many invocations the command with a number runs in order. The first has number 1
abbrev pub count_in_order : Meaning → Script → ℕ → ℕ
count_in_order meaning script n = number_at (0 ∷ runs_in_order meaning script script.turns at_start) n

-- how many commands a play makes
abbrev pub commands_by_play : Play → ℕ
commands_by_play (Create buffer bytes) = 0
commands_by_play (Discard buffer from bytes) = 0
commands_by_play (No_overwrite buffer from bytes) = 0
commands_by_play (Stage [] target skip) = 0
commands_by_play (Stage (b ∷ bs) None skip) = 0
commands_by_play (Stage (b ∷ bs) (Some target) skip) = 1
commands_by_play (Command w skip) = 1
commands_by_play (Destroy buffer) = 0
commands_by_play Create_shader = 0
commands_by_play (Mark_query query begins) = 0
commands_by_play Set_state = 0

abbrev pub commands_by : Turn → ℕ
commands_by (Refused call) = 0
commands_by (Passed call) = 0
commands_by (Flushed call) = 0
commands_by (Asked call ask used may_pend) = 0
commands_by (Item call item ends play bound) = commands_by_play play

abbrev pub commands_in : List Turn → ℕ
commands_in [] = 0
commands_in (t ∷ ts) = commands_by t + commands_in ts

-- the marks of queries that turns make, behind so many commands: each names the next command at its place
abbrev pub play_marks : ℕ → ℕ → Play → List QueryMark
play_marks call n (Create buffer bytes) = []
play_marks call n (Discard buffer from bytes) = []
play_marks call n (No_overwrite buffer from bytes) = []
play_marks call n (Stage bytes target skip) = []
play_marks call n (Command w skip) = []
play_marks call n (Destroy buffer) = []
play_marks call n Create_shader = []
play_marks call n (Mark_query query begins) = record { call = call; query = query; begins = begins; before = suc n }
    ∷ []
play_marks call n Set_state = []

abbrev pub turn_marks : ℕ → Turn → List QueryMark
turn_marks n (Refused call) = []
turn_marks n (Passed call) = []
turn_marks n (Flushed call) = []
turn_marks n (Asked call ask used may_pend) = []
turn_marks n (Item call item ends play bound) = play_marks call n play

abbrev pub marks_from : ℕ → List Turn → List QueryMark
marks_from n [] = []
marks_from n (t ∷ ts) = turn_marks n t ++ marks_from (n + commands_by t) ts

-- Chunks ------------------------------------------------------------------------------------------------------------

-- a command has a greater number than this
abbrev pub act_is_above : ℕ → Act → Type 0
act_is_above k (Host_write target bytes) = Unit {0}
act_is_above k (Device d) = k < d.number
act_is_above k (Host_read source) = Unit {0}

-- the numbers of the commands among these entries
abbrev pub command_numbers : List Entry → List ℕ
command_numbers xs = map (λ d. d.number) (device_commands xs)

-- behind so many commands a chunk has the marks that its turns make, and its commands have the next numbers, one
-- after another
pub record IsMarked (n : ℕ) (s : Segment) : Type 0 where
  pub queries : s.queries ≡ marks_from n s.turns
  pub above : AllByRecursion (λ x. act_is_above n x.act) (entries s)
  pub numbered : command_numbers s.commands ≡ numbers_from (suc n) (commands_in s.turns)

abbrev pub AreMarked : ℕ → List Segment → Type 0
AreMarked n [] = Unit {0}
AreMarked n (s ∷ ss) = IsMarked n s × AreMarked (n + commands_in s.turns) ss

-- Values ------------------------------------------------------------------------------------------------------------

-- a message has the values of its chunk's Ends, by these counts of invocations
abbrev pub ValuesRight : (ℕ → ℕ) → List Segment → List Message → Type 0
ValuesRight counts earlier [] = Unit {0}
ValuesRight counts earlier (m ∷ ms) = (m.values ≡ values_of counts earlier m.segment)
    × ValuesRight counts (earlier ++ m.segment ∷ []) ms

-- the value that the last of a query's marks leaves that are picked
abbrev pub newest_of : (QueryMark → Bool) → (ℕ → ℕ) → List QueryMark → List QueryMark → ℕ → ℕ → ℕ
newest_of picks counts earlier [] query found = found
newest_of picks counts earlier (m ∷ ms) query found =
    newest_of picks counts (earlier ++ m ∷ []) ms query (cond (picks m && (query == m.query))
    (value_at counts earlier m).value found)

-- an End
abbrev pub is_end : QueryMark → Bool
is_end m = not m.begins

-- an End, by a call up to this one
abbrev pub ends_by : ℕ → QueryMark → Bool
ends_by high m = not m.begins && nat_le m.call high

-- the marks of one query are a Begin and an End in turn, where `begun` says whether an End comes first
abbrev pub AreInTurn : ℕ → Bool → List QueryMark → Type 0
AreInTurn query begun [] = Unit {0}
AreInTurn query begun (m ∷ ms) = (m.query ≡ query → m.begins ≡ not begun)
    × AreInTurn query (cond (m.query == query) m.begins begun) ms

-- What holds --------------------------------------------------------------------------------------------------------

pub record QueriesRight (meaning : Meaning) (script : Script) (core : Core) : Type 0 where
  -- commands are numbered 1, 2, 3, .. over the whole run
  pub commands : core.commands ≡ commands_in core.past
  -- in the listing's order each command runs as many invocations as in order
  pub counts : (n : ℕ) → n ≤ core.commands → (run_world meaning (listed core) empty).counts n
      ≡ count_in_order meaning script n
  pub marked : AreMarked 0 (segments core)
  pub messages : ValuesRight (count_in_order meaning script) core.taken (core.posts ++ core.completions)
  -- what App knows of a query is what its last End leaves by a call that is finished
  pub values : (query : ℕ) → core.values query ≡ newest_of (ends_by (done core)) (count_in_order meaning script) []
      (all_marks core.taken) query 0
