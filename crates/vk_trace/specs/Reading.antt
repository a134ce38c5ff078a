-- What the pieces of the reader promise of each other.
use Rattle.std.specs.Prelude.{◌≡◌, ℕ, ◌+◌, ◌*◌, ◌%◌, ◌<◌, ◌≤◌, ◌==◌, ◌⊎◌, Bool, cond, ⊤, Option, None, Some, List, [], ◌∷◌, ◌++◌, length, MatchOption, codes, decimal}
use Rattle.std.specs.List.{AllByRecursion}
use Rattle.dx_types.specs.declared.range.Range.{Range}
use Rattle.vk_types.specs.declared.access.Access.{Access}
use Rattle.vk_types.specs.declared.access.Mask.{Mask}
use Rattle.vk_types.specs.declared.command.SlotName.{SlotName}
use Rattle.vk_types.specs.declared.command.SlotRange.{SlotRange}
use Rattle.vk_types.specs.declared.command.Groups.{Groups}
use Rattle.vk_types.specs.declared.command.Work.{Work}
use Rattle.vk_types.specs.declared.command.Cond.{Cond}
use Rattle.vk_types.specs.declared.command.Command.{Command}
use Rattle.vk_types.specs.declared.op.Barrier.{Barrier}
use Rattle.vk_types.specs.declared.op.VkOp.{VkOp}
use Rattle.vk_types.specs.declared.op.VkOp.TheVariants as op
use Rattle.vk_trace.specs.declared.trace_end.Stop.{Stop}
use Rattle.vk_trace.specs.declared.trace_end.Stop.TheVariants.{Bad, NoMemory}
use Rattle.vk_trace.specs.declared.kind.WorkKind.{WorkKind}
use Rattle.vk_trace.specs.declared.kind.WorkKind.TheVariants as kinds
use Rattle.vk_trace.specs.declared.kind.LineKind.{LineKind}
use Rattle.vk_trace.specs.declared.kind.LineKind.TheVariants as lines
use Rattle.vk_trace.specs.ListText.{IsSmall, IsWide, IsRange, FitsRange, FitsSecond, IsAccess, IsMask, IsCond, FitsCond, AreGroups, FitGroups, AreSlots, FitSlots, IsWork, FitsWork, FitsCommand, size, slot_rank, slot_number, access_word, range_word, slot_word, part, stage_parts, slot_words, cond_words, call_words, work_name, work_words, command_words, host_words, barrier_words, op_words, join, text_of, IsOp}

-- The words between the separators of a text.
abbrev pub onto : ℕ → List (List ℕ) → List (List ℕ)
onto x [] = (x ∷ []) ∷ []
onto x (w ∷ ws) = (x ∷ w) ∷ ws

unfoldable pub split : ℕ → List ℕ → List (List ℕ)
split c [] = [] ∷ []
split c (x ∷ xs) = cond (x == c) ([] ∷ split c xs) (onto x (split c xs))

-- The words of the texts that are left: of one, or of none.
abbrev pub left_words : ℕ → Bool → List ℕ → List (List ℕ)
left_words c ended text = cond ended [] (split c text)

-- The first of some words is that of the value that was found, or of none; the others are left.
abbrev pub Takes : {A : Type 0} → (A → Type 0) → (A → List ℕ) → List (List ℕ) → List (List ℕ) → Option A → Type 0
Takes Good spell old new found = MatchOption found ((v : _) (more : List (List ℕ)) → Good v → old ≡ spell v ∷ more → ⊥) (λ v. Good v × (old ≡ spell v ∷ new))

-- The first words are those of the value that was found, or of none; the others are left.
abbrev pub TakesAll : {A : Type 0} → (A → Type 0) → (A → List (List ℕ)) → List (List ℕ) → List (List ℕ) → Option A → Type 0
TakesAll Good spell old new found = MatchOption found ((v : _) (more : List (List ℕ)) → Good v → old ≡ spell v ++ more → ⊥) (λ v. Good v × (old ≡ spell v ++ new))

-- Some words are all those of the value that was found, or of none.
abbrev pub Ends : {A : Type 0} → (A → Type 0) → (A → List (List ℕ)) → List (List ℕ) → Option A → Type 0
Ends Good spell old found = MatchOption found ((v : _) → Good v → old ≡ spell v → ⊥) (λ v. Good v × (old ≡ spell v))

-- A range that a line may have.
pub record IsReadRange (r : Range) : Type 0 where
  pub listed : IsRange r
  pub fits : FitsRange r

-- No part with this name stands in front.
abbrev pub NoPart : List ℕ → List (List ℕ) → Type 0
NoPart name words = (rest : List ℕ) (more : List (List ℕ)) → words ≡ (name ++ rest) ∷ more → ⊥

-- A part with this name stood in front, and gave its access; or none with this name did.
pub record IsPart (name : List ℕ) (old new : List (List ℕ)) (found : Option Access) : Type 0 where
  pub fits : IsAccess found
  pub spelled : old ≡ part name found ++ new
  pub absent : found ≡ None → NoPart name old

-- A part with this name stands in front, and no access behind its name.
pub record BadPart (name : List ℕ) (words : List (List ℕ)) : Type 0 where
  pub rest : List ℕ
  pub more : List (List ℕ)
  pub is : words ≡ (name ++ rest) ∷ more
  pub none : (a : Access) → a.0 < 4 → rest ≡ access_word a → ⊥

-- Each stage that is named has one of the four accesses.
pub record HaveAccesses (m : Mask) : Type 0 where
  pub indirect : IsAccess m.indirect
  pub compute : IsAccess m.compute
  pub transfer : IsAccess m.transfer
  pub host : IsAccess m.host

-- The parts of a mask's stages are all that is left, and then nothing is; or they are those of no mask.
abbrev pub IsParts : List (List ℕ) → List (List ℕ) → Option Mask → Type 0
IsParts old new found = MatchOption found ((m : Mask) → HaveAccesses m → old ≡ stage_parts m → ⊥) (λ m. HaveAccesses m × (old ≡ stage_parts m ++ new) × ((n : Mask) → HaveAccesses n → old ≡ stage_parts n → (m ≡ n) × (new ≡ [])))

-- The words of a condition stood in front, or none did.
pub record IsCondRead (old new : List (List ℕ)) (found : Option Cond) : Type 0 where
  pub listed : IsCond found
  pub fits : FitsCond found
  pub spelled : old ≡ cond_words found ++ new
  pub absent : found ≡ None → (more : List (List ℕ)) → old ≡ codes "if" ∷ more → ⊥

-- A condition stands in front, and is none that a line may have.
pub record BadCond (old : List (List ℕ)) : Type 0 where
  pub more : List (List ℕ)
  pub is : old ≡ codes "if" ∷ more
  pub none : (c : Cond) (rest : List (List ℕ)) → IsCond (Some c) → FitsCond (Some c) → more ≡ range_word c.at ∷ decimal c.value ∷ rest → ⊥

-- A condition and a call are what ends a command's line.
pub record IsTail (t : Option Cond × ℕ) : Type 0 where
  pub listed : IsCond t.0
  pub fits : FitsCond t.0
  pub call : IsSmall t.1

abbrev pub tail_words : Option Cond × ℕ → List (List ℕ)
tail_words t = cond_words t.0 ++ call_words t.1

-- Four words of memory.
pub record AreFour (ws : List ℕ) : Type 0 where
  pub four : length ws ≡ 4
  pub small : AllByRecursion IsSmall ws

-- A range has whole elements of so many words.
pub record AreElements (r : Range) (unit : ℕ) : Type 0 where
  pub unit_is : (unit ≡ 2) ⊎ (unit ≡ 4)
  pub whole : size r % (4 * unit) ≡ 0

-- Groups that a line may have.
pub record IsGroups (g : Groups) : Type 0 where
  pub listed : AreGroups g
  pub fits : FitGroups g

-- No slot stands in front.
abbrev pub NoSlot : List (List ℕ) → Type 0
NoSlot words = (s : SlotName) (more : List (List ℕ)) → slot_number s < 256 → words ≡ slot_word s ∷ more → ⊥

-- A slot stands at least there and has whole words.
pub record MayStand (least : ℕ) (s : SlotRange) : Type 0 where
  pub high : least ≤ slot_rank s.slot
  pub words : size s.range % 4 ≡ 0

-- Slots that a line may have where the first stands at least there.
pub record IsSlots (least : ℕ) (ss : List SlotRange) : Type 0 where
  pub listed : AreSlots least ss
  pub fits : FitSlots ss

-- No slots are spelled in front.
abbrev pub NoSlots : ℕ → List (List ℕ) → Type 0
NoSlots least old = (ss : List SlotRange) (more : List (List ℕ)) → IsSlots least ss → NoSlot more → old ≡ slot_words ss ++ more → ⊥

-- The next slot is there, or no slot is.
abbrev pub IsNext : ℕ → List (List ℕ) → List (List ℕ) → Option SlotRange → Type 0
IsNext least old new None = NoSlot old × (new ≡ old)
IsNext least old new (Some s) = IsSlots least (s ∷ []) × (old ≡ slot_word s.slot ∷ range_word s.range ∷ new)

-- Slots stood in front, and no other stands behind them.
pub record ReadsSlots (old new : List (List ℕ)) (ss : List SlotRange) : Type 0 where
  pub good : IsSlots 0 ss
  pub spelled : old ≡ slot_words ss ++ new
  pub ended : NoSlot new

-- Where the slot behind these stands at least.
abbrev pub next_rank : ℕ → List SlotRange → ℕ
next_rank least [] = least
next_rank least (s ∷ ss) = next_rank (slot_rank s.slot + 1) ss

-- Work of this name stood in front.
pub record ReadsWork (name : List ℕ) (old new : List (List ℕ)) (w : Work) : Type 0 where
  pub listed : IsWork w
  pub fits : FitsWork w
  pub named : work_name w ≡ name
  pub spelled : old ≡ work_words w ++ new
  pub ended : name ≡ codes "dispatch" → NoSlot new

-- No work of this name is spelled in front.
abbrev pub NoWork : List ℕ → List (List ℕ) → Type 0
NoWork name old = (w : Work) (more : List (List ℕ)) → IsWork w → FitsWork w → work_name w ≡ name → NoSlot more → old ≡ work_words w ++ more → ⊥

abbrev pub TakesWork : List ℕ → List (List ℕ) → List (List ℕ) → Option Work → Type 0
TakesWork name old new found = MatchOption found (NoWork name old) (ReadsWork name old new)

-- The kinds of work, and their names.
abbrev pub work_kind_name : WorkKind → List ℕ
work_kind_name kinds.Copy = codes "copy"
work_kind_name kinds.Fill = codes "fill"
work_kind_name kinds.Clear = codes "clear"
work_kind_name kinds.Dispatch = codes "dispatch"

-- The other kinds of lines, and their names.
abbrev pub line_kind_name : LineKind → List ℕ
line_kind_name lines.HostWrite = codes "host-write"
line_kind_name lines.Pipeline = codes "pipeline"
line_kind_name lines.Barrier = codes "barrier"
line_kind_name lines.Submit = codes "submit"
line_kind_name lines.Fence = codes "fence"
line_kind_name lines.HostRead = codes "host-read"

-- The words of a command of this name were all that was left.
pub record ReadsCommand (name : List ℕ) (old : List (List ℕ)) (c : Command) : Type 0 where
  pub work : IsWork c.work
  pub cond : IsCond c.cond
  pub fits : FitsCommand c
  pub named : work_name c.work ≡ name
  pub spelled : old ≡ command_words c

-- What the host did, and by which call.
pub record IsHost (h : Range × ℕ) : Type 0 where
  pub range : IsReadRange h.0
  pub call : IsSmall h.1

abbrev pub pair_words : Range × ℕ → List (List ℕ)
pair_words h = host_words h.0 h.1

-- A barrier that a line may have.
pub record IsBarrier (b : Barrier) : Type 0 where
  pub source : IsMask b.source
  pub dest : IsMask b.dest
  pub first : IsWide b.first
  pub second : FitsSecond b.second

-- No command of this name is what is left.
abbrev pub NoCommand : List ℕ → List (List ℕ) → Type 0
NoCommand name old = (c : Command) → IsWork c.work → IsCond c.cond → FitsCommand c → work_name c.work ≡ name → old ≡ command_words c → ⊥

-- A number is the last word.
abbrev pub number_words : ℕ → List (List ℕ)
number_words n = decimal n ∷ []

-- The first word of an operation's line, and the others.
abbrev pub first_word : VkOp → List ℕ
first_word (op.HostWrite r n) = codes "host-write"
first_word (op.Pipeline n) = codes "pipeline"
first_word (op.Barrier b) = codes "barrier"
first_word (op.Command c) = work_name c.work
first_word (op.Submit k) = codes "submit"
first_word (op.Fence k) = codes "fence"
first_word (op.HostRead r n) = codes "host-read"

abbrev pub fields : VkOp → List (List ℕ)
fields (op.HostWrite r n) = host_words r n
fields (op.Pipeline n) = number_words n
fields (op.Barrier b) = barrier_words b
fields (op.Command c) = command_words c
fields (op.Submit k) = number_words k
fields (op.Fence k) = number_words k
fields (op.HostRead r n) = host_words r n

-- An operation that the grammar has, with a line of this kind.
pub record IsOpOf (kind : LineKind) (o : VkOp) : Type 0 where
  pub good : IsOp o
  pub named : first_word o ≡ line_kind_name kind

-- A line without its line feed is that of an operation, or of none.
pub record ReadsLine (text : List ℕ) (o : VkOp) : Type 0 where
  pub good : IsOp o
  pub spelled : text ≡ join 32 (op_words o)

abbrev pub NoLine : List ℕ → Type 0
NoLine text = (o : VkOp) → IsOp o → text ≡ join 32 (op_words o) → ⊥

-- So far a text is the lines of some operations.
pub record Reads (text rest : List ℕ) (ops : List VkOp) (number : ℕ) : Type 0 where
  pub each : AllByRecursion IsOp ops
  pub spelled : text ≡ text_of ops ++ rest
  pub counted : number ≡ 1 + length ops

-- P holds where a step stopped at bad text.
abbrev pub WhenBad : Stop → Type 0 → Type 0
WhenBad Bad P = P
WhenBad NoMemory P = ⊤
