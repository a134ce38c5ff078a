-- Which operations a listing has, which line each of them has, and which texts are listings.
use Rattle.std.specs.Prelude.{◌≡◌, ◌≢◌, ℕ, ◌+◌, ◌-◌, ◌*◌, ◌%◌, ◌<◌, ◌≤◌, ◌^◌, ◌==◌, cond, ◌&&◌, ⊤, ◌⊎◌, Option, None, Some, List, [], ◌∷◌, ◌++◌, length, map, decimal, codes}
use Rattle.std.specs.List.{AllByRecursion}
use Rattle.std.specs.Int.{w32, to_be_bytes}
use Rattle.hex.specs.Hex.{encode_lower}
use Rattle.dx_types.specs.declared.range.Range.{Range}
use Rattle.vk_types.specs.declared.access.Access.{Access}
use Rattle.vk_types.specs.declared.access.Mask.{Mask}
use Rattle.vk_types.specs.declared.command.SlotName.{SlotName}
use Rattle.vk_types.specs.declared.command.SlotName.TheVariants as slot
use Rattle.vk_types.specs.declared.command.SlotRange.{SlotRange}
use Rattle.vk_types.specs.declared.command.Groups.{Groups}
use Rattle.vk_types.specs.declared.command.Groups.TheVariants as groups
use Rattle.vk_types.specs.declared.command.Work.{Work}
use Rattle.vk_types.specs.declared.command.Work.TheVariants as work
use Rattle.vk_types.specs.declared.command.Cond.{Cond}
use Rattle.vk_types.specs.declared.command.Command.{Command}
use Rattle.vk_types.specs.declared.op.Barrier.{Barrier}
use Rattle.vk_types.specs.declared.op.VkOp.{VkOp}
use Rattle.vk_types.specs.declared.op.VkOp.TheVariants as op
use Rattle.vk_trace.specs.declared.trace_end.TraceEnd.{TraceEnd}
use Rattle.vk_trace.specs.declared.trace_end.TraceEnd.TheVariants.{Bad, NoMemory}

-- ---- words

-- the words with a separator between each two
abbrev pub rest_of : ℕ → List (List ℕ) → List ℕ
rest_of c [] = []
rest_of c (w ∷ ws) = c ∷ (w ++ rest_of c ws)

abbrev pub join : ℕ → List (List ℕ) → List ℕ
join c [] = []
join c (w ∷ ws) = w ++ rest_of c ws

-- `b` and a block's number
abbrev pub block_word : ℕ → List ℕ
block_word n = 98 ∷ decimal n

-- `p` and the call that creates a shader
abbrev pub shader_word : ℕ → List ℕ
shader_word n = 112 ∷ decimal n

-- `b{block}:{from}-{to}`
abbrev pub range_word : Range → List ℕ
range_word r = block_word r.block ++ (58 ∷ (decimal r.from ++ 45 ∷ decimal r.to))

-- a word of memory, in eight lower-case hexadecimal digits
abbrev pub hex_word : ℕ → List ℕ
hex_word n = encode_lower (to_be_bytes w32 n)

-- ---- masks

-- `-`, `r`, `w` or `rw`
abbrev pub access_word : Access → List ℕ
access_word a = cond (a.0 == 0) (codes "-") (cond (a.0 == 1) (codes "r") (cond (a.0 == 2) (codes "w") (codes "rw")))

-- the access that the three stages of the device have alike, where the host isn't named
abbrev pub alike_of : Option Access → Option Access → Option Access → Option Access → Option Access
alike_of (Some a) (Some b) (Some c) None = cond (a.0 == b.0 && b.0 == c.0) (Some a) None
alike_of (Some a) (Some b) (Some c) (Some d) = None
alike_of (Some a) (Some b) None host = None
alike_of (Some a) None transfer host = None
alike_of None compute transfer host = None

abbrev pub alike : Mask → Option Access
alike m = alike_of m.indirect m.compute m.transfer m.host

-- the stages that are named one by one
abbrev pub listed_of : Option Access → Mask → Mask
listed_of None m = m
listed_of (Some a) m = record { indirect = None; compute = None; transfer = None; host = None }

abbrev pub listed : Mask → Mask
listed m = listed_of (alike m) m

-- a name with its access, where there is one
abbrev pub part : List ℕ → Option Access → List (List ℕ)
part name None = []
part name (Some a) = (name ++ access_word a) ∷ []

-- the stages of a mask that are named one by one, in order
abbrev pub stage_parts : Mask → List (List ℕ)
stage_parts m = part (codes "indirect:") m.indirect ++ (part (codes "compute:") m.compute ++ (part (codes "transfer:") m.transfer ++ part (codes "host:") m.host))

-- the parts of a mask: `all:` with the access that the stages of the device have alike, or stages with their accesses
abbrev pub parts : Mask → List (List ℕ)
parts m = part (codes "all:") (alike m) ++ stage_parts (listed m)

-- a mask: its parts with commas between them
abbrev pub mask_word : Mask → List ℕ
mask_word m = join 44 (parts m)

-- ---- lines

-- `c`, `s` or `u` and the slot's number
abbrev pub slot_word : SlotName → List ℕ
slot_word (slot.Constant i) = 99 ∷ decimal i
slot_word (slot.Srv i) = 115 ∷ decimal i
slot_word (slot.Uav i) = 117 ∷ decimal i

-- each slot with its range
abbrev pub slot_words : List SlotRange → List (List ℕ)
slot_words [] = []
slot_words (s ∷ ss) = slot_word s.slot ∷ range_word s.range ∷ slot_words ss

-- three counts, or where they lie
abbrev pub groups_words : Groups → List (List ℕ)
groups_words (groups.Direct x y z) = decimal x ∷ decimal y ∷ decimal z ∷ []
groups_words (groups.Indirect at) = codes "at" ∷ range_word at ∷ []

-- what a command does, by its name
abbrev pub work_name : Work → List ℕ
work_name (work.Copy source target) = codes "copy"
work_name (work.Fill target word) = codes "fill"
work_name (work.Clear target words unit) = codes "clear"
work_name (work.Dispatch shader counts slots) = codes "dispatch"

-- and with what
abbrev pub work_words : Work → List (List ℕ)
work_words (work.Copy source target) = codes "r" ∷ range_word source ∷ codes "w" ∷ range_word target ∷ []
work_words (work.Fill target word) = hex_word word ∷ codes "w" ∷ range_word target ∷ []
work_words (work.Clear target words unit) = map hex_word words ++ (decimal unit ∷ codes "w" ∷ range_word target ∷ [])
work_words (work.Dispatch shader counts slots) = shader_word shader ∷ (groups_words counts ++ slot_words slots)

-- a condition, where there is one
abbrev pub cond_words : Option Cond → List (List ℕ)
cond_words None = []
cond_words (Some c) = codes "if" ∷ range_word c.at ∷ decimal c.value ∷ []

-- the call that an operation belongs to
abbrev pub call_words : ℕ → List (List ℕ)
call_words n = codes "call" ∷ decimal n ∷ []

-- a command's number, what it does and on which condition, and its call
abbrev pub command_words : Command → List (List ℕ)
command_words c = decimal c.number ∷ (work_words c.work ++ (cond_words c.cond ++ call_words c.call))

-- what the host writes or reads, and by which call
abbrev pub host_words : Range → ℕ → List (List ℕ)
host_words r n = block_word r.block ∷ decimal r.from ∷ decimal r.to ∷ call_words n

-- the second command of a cause, or `host`
abbrev pub second_word : Option ℕ → List ℕ
second_word None = codes "host"
second_word (Some n) = decimal n

abbrev pub barrier_words : Barrier → List (List ℕ)
barrier_words b = mask_word b.source ∷ mask_word b.dest ∷ codes "cause" ∷ decimal b.first ∷ second_word b.second ∷ []

-- the words of an operation's line
abbrev pub op_words : VkOp → List (List ℕ)
op_words (op.HostWrite r n) = codes "host-write" ∷ host_words r n
op_words (op.Pipeline n) = codes "pipeline" ∷ decimal n ∷ []
op_words (op.Barrier b) = codes "barrier" ∷ barrier_words b
op_words (op.Command c) = work_name c.work ∷ command_words c
op_words (op.Submit k) = codes "submit" ∷ decimal k ∷ []
op_words (op.Fence k) = codes "fence" ∷ decimal k ∷ []
op_words (op.HostRead r n) = codes "host-read" ∷ host_words r n

-- an operation's line: its words with a blank between each two, and a line feed
unfoldable pub line : VkOp → List ℕ
line o = join 32 (op_words o) ++ 10 ∷ []

-- the text of a listing: a line for each operation
abbrev pub text_of : List VkOp → List ℕ
text_of [] = []
text_of (o ∷ ops) = line o ++ text_of ops

-- ---- which operations a listing has

-- bytes, at least one
abbrev pub IsRange : Range → Type 0
IsRange r = r.from < r.to

-- how many bytes
abbrev pub size : Range → ℕ
size r = r.to - r.from

-- an access is one of the four
abbrev pub IsAccess : Option Access → Type 0
IsAccess None = ⊤
IsAccess (Some a) = a.0 < 4

-- a mask names a stage at least
pub record IsMask (m : Mask) : Type 0 where
  pub indirect : IsAccess m.indirect
  pub compute : IsAccess m.compute
  pub transfer : IsAccess m.transfer
  pub host : IsAccess m.host
  pub some : stage_parts m ≢ []

-- where a slot stands among the slots of a dispatch: constants, then SRVs, then UAVs
abbrev pub slot_rank : SlotName → ℕ
slot_rank (slot.Constant i) = i
slot_rank (slot.Srv i) = 256 + i
slot_rank (slot.Uav i) = 512 + i

-- a slot has whole words
pub record IsSlot (s : SlotRange) : Type 0 where
  pub range : IsRange s.range
  pub words : size s.range % 4 ≡ 0

-- the slots rise, and the first of them stands at least there
abbrev pub AreSlots : ℕ → List SlotRange → Type 0
AreSlots least [] = ⊤
AreSlots least (s ∷ ss) = (least ≤ slot_rank s.slot) × IsSlot s × AreSlots (slot_rank s.slot + 1) ss

-- the three counts of an indirect dispatch take 12 bytes
abbrev pub AreGroups : Groups → Type 0
AreGroups (groups.Direct x y z) = ⊤
AreGroups (groups.Indirect at) = IsRange at × (size at ≡ 12)

-- what a command may do
abbrev pub IsWork : Work → Type 0
IsWork (work.Copy source target) = IsRange source × IsRange target × (size source ≡ size target)
IsWork (work.Fill target word) = IsRange target × (size target % 4 ≡ 0)
IsWork (work.Clear target words unit) = IsRange target × ((unit ≡ 2) ⊎ (unit ≡ 4)) × (size target % (4 * unit) ≡ 0)
IsWork (work.Dispatch shader counts slots) = AreGroups counts × AreSlots 0 slots

-- a condition lies in one word
abbrev pub IsCond : Option Cond → Type 0
IsCond None = ⊤
IsCond (Some c) = IsRange c.at × (size c.at ≡ 4)

-- an operation keeps the rules of its line
abbrev pub IsListed : VkOp → Type 0
IsListed (op.HostWrite r n) = IsRange r
IsListed (op.Pipeline n) = ⊤
IsListed (op.Barrier b) = IsMask b.source × IsMask b.dest
IsListed (op.Command c) = IsWork c.work × IsCond c.cond
IsListed (op.Submit k) = ⊤
IsListed (op.Fence k) = ⊤
IsListed (op.HostRead r n) = IsRange r

-- ---- numbers of the sizes that the types have, which is known of each value in memory

abbrev pub IsSmall : ℕ → Type 0
IsSmall n = n < 2 ^ 32

abbrev pub IsWide : ℕ → Type 0
IsWide n = n < 2 ^ 64

pub record FitsRange (r : Range) : Type 0 where
  pub block : IsSmall r.block
  pub from : IsWide r.from
  pub to : IsWide r.to

abbrev pub FitsSecond : Option ℕ → Type 0
FitsSecond None = ⊤
FitsSecond (Some n) = IsWide n

abbrev pub slot_number : SlotName → ℕ
slot_number (slot.Constant i) = i
slot_number (slot.Srv i) = i
slot_number (slot.Uav i) = i

abbrev pub FitSlots : List SlotRange → Type 0
FitSlots [] = ⊤
FitSlots (s ∷ ss) = (slot_number s.slot < 256) × FitsRange s.range × FitSlots ss

abbrev pub FitGroups : Groups → Type 0
FitGroups (groups.Direct x y z) = IsSmall x × IsSmall y × IsSmall z
FitGroups (groups.Indirect at) = FitsRange at

abbrev pub FitsWork : Work → Type 0
FitsWork (work.Copy source target) = FitsRange source × FitsRange target
FitsWork (work.Fill target word) = FitsRange target × IsSmall word
FitsWork (work.Clear target words unit) = FitsRange target × (length words ≡ 4) × AllByRecursion IsSmall words × IsSmall unit
FitsWork (work.Dispatch shader counts slots) = IsSmall shader × FitGroups counts × FitSlots slots

abbrev pub FitsCond : Option Cond → Type 0
FitsCond None = ⊤
FitsCond (Some c) = FitsRange c.at × IsSmall c.value

pub record FitsCommand (c : Command) : Type 0 where
  pub number : IsWide c.number
  pub call : IsSmall c.call
  pub work : FitsWork c.work
  pub cond : FitsCond c.cond

abbrev pub Fits : VkOp → Type 0
Fits (op.HostWrite r n) = FitsRange r × IsSmall n
Fits (op.Pipeline n) = IsSmall n
Fits (op.Barrier b) = IsWide b.first × FitsSecond b.second
Fits (op.Command c) = FitsCommand c
Fits (op.Submit k) = IsWide k
Fits (op.Fence k) = IsWide k
Fits (op.HostRead r n) = FitsRange r × IsSmall n

-- ---- texts

-- an operation that the grammar has
pub record IsOp (o : VkOp) : Type 0 where
  pub listed : IsListed o
  pub fits : Fits o

-- a text is that of a listing
pub record ListText (text : List ℕ) (ops : List VkOp) : Type 0 where
  pub spelled : text ≡ text_of ops
  pub each : AllByRecursion IsOp ops

-- line n, from 1, is the first bad line of a text: behind the lines of some operations stands something, and no
-- operation's line
pub record IsFirstBad (text : List ℕ) (n : ℕ) : Type 0 where
  pub ops : List VkOp
  pub rest : List ℕ
  pub spelled : text ≡ text_of ops ++ rest
  pub each : AllByRecursion IsOp ops
  pub more : 0 < length rest
  pub no_line : (o : VkOp) (behind : List ℕ) → IsOp o → rest ≡ line o ++ behind → ⊥
  pub number : n ≡ 1 + length ops

-- what reading a text ends in, where it is no listing's: its first bad line, or want of memory
abbrev pub BadOnly : List ℕ → TraceEnd → Type 0
BadOnly text (Bad n) = IsFirstBad text n
BadOnly text NoMemory = ⊤
