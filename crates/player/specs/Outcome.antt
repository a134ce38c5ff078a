-- What each status says of the input and the output.
use Rattle.std.specs.Prelude.{◌≡◌, ℕ, ◌<◌, ◌≤◌, List, [], length, Option, Some, None, IfSome, ◌⊎◌, ⊤}
use Rattle.std.specs.Option.{option_map}
use Rattle.dx_io.specs.Told.{Appends, AppendsFront}
use Rattle.player.specs.declared.command.Command.{Command}
use Rattle.player.specs.declared.command.Command.TheVariants as commands
use Rattle.player.specs.declared.task.Task.{Task}
use Rattle.player.specs.declared.task.Task.TheVariants.{Answer, Generate}
use Rattle.player.specs.Generated.{IsGenerated}
use Rattle.player.specs.declared.status.Status.{Status}
use Rattle.player.specs.declared.status.Status.TheVariants.{Done, Usage, ReadFault, WriteFault, Unsupported, BadLog, TooLong, NoMemory, BadText, NotBuilt}
use Rattle.player.specs.declared.run.Unsaid.{Unsaid}
use Rattle.player.specs.declared.run.Unsaid.TheVariants.{Fault}
use Rattle.player.specs.declared.run.Unsaid.TheVariants as unsaid
use Rattle.call_log.specs.Call.{Issued}
use Rattle.call_log.specs.Grammar.{Frame, IsLog, IsFault, calls_of, frame_no}
use Rattle.log_text.specs.LogText.{LogText, IsFirstBad, text_of}
use Rattle.list_audit.specs.declared.report.Report.{Report}
use Rattle.list_audit.specs.AuditText.{IsFirstBad as IsFirstBadAudited}
use Rattle.list_audit.specs.Reports.{IsReport}
use Rattle.player.specs.AuditLines.{report_text}
use Rattle.d3d_model.specs.ReplyText.{text, none_pending}
use Rattle.d3d_plan.specs.Ends.{Never, IsFirst, is_draw_record}
use Rattle.core_machine.specs.Unplayed.{is_unplayed_record}
use Rattle.dx_types.specs.declared.limits.TheConstants.{MAX_INPUT}

-- ---- what a command makes of its input

-- a log of these records, without a draw
pub record IsPlayedLog (bytes : List ℕ) (frames : List Frame) : Type 0 where
  pub log : IsLog bytes frames
  pub no_draw : Never is_draw_record frames

-- the whole output of a command for these bytes: of a run the text of its replies; `replay` doesn't play each call yet
abbrev pub Answers : Command → List ℕ → List ℕ → Type 0
Answers commands.Replay bytes out =
    (frames : List Frame) × IsPlayedLog bytes frames × Never is_unplayed_record frames × (out ≡ text (calls_of frames) none_pending)
Answers commands.Ref bytes out = (frames : List Frame) × IsPlayedLog bytes frames × (out ≡ text (calls_of frames) none_pending)
Answers commands.List bytes out = (frames : List Frame) × IsLog bytes frames × (out ≡ text_of frames)
Answers commands.Asm bytes out = LogText bytes out
Answers commands.Audit bytes out = (report : Report) × IsReport bytes report × (out ≡ report_text report)

-- call n of these records is of a kind
abbrev pub IsKindOf : List Frame → ℕ → ℕ → Type 0
IsKindOf frames n kind = IfSome (option_map (λ f. f.kind) (frame_no frames n)) (λ k. kind ≡ k)

-- the first draw of a log
pub record FirstDraw (bytes : List ℕ) (n : ℕ) : Type 0 where
  pub frames : List Frame
  pub log : IsLog bytes frames
  pub kind : ℕ
  pub first : IsFirst is_draw_record frames n kind

-- the first call that is still to be built, with its kind, in a log without draws
pub record FirstUnbuilt (bytes : List ℕ) (n kind : ℕ) : Type 0 where
  pub frames : List Frame
  pub log : IsLog bytes frames
  pub no_draw : Never is_draw_record frames
  pub first : IsFirst is_unplayed_record frames n kind

-- why a log is not run
abbrev pub RunRefuses : List ℕ → Status → Type 0
RunRefuses bytes (BadLog fault) = IsFault bytes fault
RunRefuses bytes (Unsupported n) = FirstDraw bytes n
RunRefuses bytes _ = ⊥

-- why a command writes nothing for these bytes
abbrev pub Refuses : Command → List ℕ → Status → Type 0
Refuses commands.Replay bytes (NotBuilt n kind) = FirstUnbuilt bytes n kind
Refuses commands.Replay bytes s = RunRefuses bytes s
Refuses commands.Ref bytes s = RunRefuses bytes s
Refuses commands.List bytes (BadLog fault) = IsFault bytes fault
Refuses commands.List bytes _ = ⊥
Refuses commands.Asm bytes (BadText line) = IsFirstBad bytes line
Refuses commands.Asm bytes _ = ⊥
Refuses commands.Audit bytes (BadText line) = IsFirstBadAudited bytes line
Refuses commands.Audit bytes _ = ⊥

-- ---- what was written

-- nothing
abbrev pub Silent : Option (List ℕ) → Option (List ℕ) → Type 0
Silent old new = Appends old [] new

-- the whole output of a command
pub record WritesAll (c : Command) (bytes : List ℕ) (old new : Option (List ℕ)) : Type 0 where
  pub out : List ℕ
  pub answers : Answers c bytes out
  pub written : Appends old out new

-- a front of it
pub record WritesFront (c : Command) (bytes : List ℕ) (old new : Option (List ℕ)) : Type 0 where
  pub out : List ℕ
  pub answers : Answers c bytes out
  pub written : AppendsFront old out new

-- nothing, for a reason that these bytes give
pub record Declines (c : Command) (bytes : List ℕ) (s : Status) (old new : Option (List ℕ)) : Type 0 where
  pub refuses : Refuses c bytes s
  pub silent : Silent old new

-- what came of a command on these bytes
abbrev pub CameOf : Command → List ℕ → Option (List ℕ) → Status → Option (List ℕ) → Type 0
CameOf c bytes old Done new = WritesAll c bytes old new
CameOf c bytes old WriteFault new = WritesFront c bytes old new
CameOf c bytes old NoMemory new = Silent old new ⊎ WritesFront c bytes old new
CameOf c bytes old (Unsupported n) new = Declines c bytes (Unsupported n) old new
CameOf c bytes old (BadLog fault) new = Declines c bytes (BadLog fault) old new
CameOf c bytes old (BadText line) new = Declines c bytes (BadText line) old new
CameOf c bytes old (NotBuilt n kind) new = Declines c bytes (NotBuilt n kind) old new
CameOf c bytes old Usage new = ⊥
CameOf c bytes old ReadFault new = ⊥
CameOf c bytes old TooLong new = ⊥

-- these bytes are what the source had left, where it tells that
abbrev pub WasLeft : Option (List ℕ) → List ℕ → Type 0
WasLeft left bytes = IfSome left (λ all. bytes ≡ all)

-- something holds of the bytes that were read
abbrev pub OfInput : Option (List ℕ) → (List ℕ → Type 0) → Type 0
OfInput left P = (bytes : List ℕ) × WasLeft left bytes × P bytes

-- The outcome of a command, by its status.
abbrev pub Outcome : Command → Option (List ℕ) → Option (List ℕ) → Status → Option (List ℕ) → Type 0
Outcome c left old Usage new = ⊥
Outcome c left old ReadFault new = Silent old new
Outcome c left old TooLong new = IfSome left (λ all. MAX_INPUT < length all) × Silent old new
Outcome c left old NoMemory new = Silent old new ⊎ OfInput left (λ bytes. WritesFront c bytes old new)
Outcome c left old Done new = OfInput left (λ bytes. WritesAll c bytes old new)
Outcome c left old WriteFault new = OfInput left (λ bytes. WritesFront c bytes old new)
Outcome c left old (Unsupported n) new = OfInput left (λ bytes. Declines c bytes (Unsupported n) old new)
Outcome c left old (BadLog fault) new = OfInput left (λ bytes. Declines c bytes (BadLog fault) old new)
Outcome c left old (BadText line) new = OfInput left (λ bytes. Declines c bytes (BadText line) old new)
Outcome c left old (NotBuilt n kind) new = OfInput left (λ bytes. Declines c bytes (NotBuilt n kind) old new)

-- The outcome of some words: words that are no task are `Usage` and nothing else.
abbrev pub OutcomeOf : Option Task → Option (List ℕ) → Option (List ℕ) → Status → Option (List ℕ) → Type 0
OutcomeOf None left old s new = (s ≡ Usage) × Silent old new
OutcomeOf (Some (Answer c)) left old s new = Outcome c left old s new
OutcomeOf (Some (Generate n)) left old s new = IsGenerated n old s new

-- an input of at most 67,108,864 bytes for which a command has an output
pub record Accepted (c : Command) (left : Option (List ℕ)) : Type 0 where
  pub bytes : List ℕ
  pub told : left ≡ Some bytes
  pub short : length bytes ≤ MAX_INPUT
  pub out : List ℕ
  pub answers : Answers c bytes out

-- an input for which a task has an output, where it asks for one
abbrev pub IsGood : Task → Option (List ℕ) → Type 0
IsGood (Answer c) left = Accepted c left
IsGood (Generate n) left = ⊤

-- ---- parts of a run

-- these bytes were written, and else some front of them
abbrev pub Tells : List ℕ → Option (List ℕ) → Status → Option (List ℕ) → Type 0
Tells bytes old Done new = Appends old bytes new
Tells bytes old WriteFault new = AppendsFront old bytes new
Tells bytes old NoMemory new = AppendsFront old bytes new
Tells bytes old _ new = ⊥

-- what a run of these calls wrote
abbrev pub Plays : List Issued → Option (List ℕ) → Status → Option (List ℕ) → Type 0
Plays calls old s new = Tells (text calls none_pending) old s new

-- the status names call n of these records with its kind
abbrev pub IsNotBuilt : List Frame → ℕ → Status → Type 0
IsNotBuilt frames n (NotBuilt m kind) = (m ≡ n) × IsKindOf frames n kind
IsNotBuilt frames n _ = ⊥

-- why a log of these records, which has no plan, is not replayed
abbrev pub UnplannedStatus : List Frame → Status → Type 0
UnplannedStatus frames NoMemory = Unit
UnplannedStatus frames (Unsupported n) = (kind : ℕ) × IsFirst is_draw_record frames n kind
UnplannedStatus frames _ = ⊥

-- these bytes were written, or a front of them
abbrev pub Writes : List ℕ → Option (List ℕ) → Status → Option (List ℕ) → Type 0
Writes bytes old Done new = Appends old bytes new
Writes bytes old WriteFault new = AppendsFront old bytes new
Writes bytes old _ new = ⊥

abbrev pub status_for : Unsaid → Status
status_for Fault = WriteFault
status_for unsaid.NoMemory = NoMemory
