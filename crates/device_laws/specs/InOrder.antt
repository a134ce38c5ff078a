-- What the bytes that a device holds become, once the commands that are left are run in order.
use Rattle.std.specs.Prelude.{◌≡◌, ℕ, cond, true, false, List, ◌∷◌, ◌++◌, length, map, Option}
use Rattle.std.specs.List.{AllByRecursion}
use Rattle.dx_types.specs.declared.range.Range.{Range}
use Rattle.buffer_blocks.specs.declared.block.Block.{Block}
use Rattle.buffer_blocks.specs.Block.{bytes_of}
use Rattle.call_log.specs.Grammar.{part_of}
use Rattle.vk_types.specs.declared.command.Command as c
use Rattle.vk_types.specs.declared.message.Batch.{Batch}
use Rattle.vk_types.specs.declared.message.HostPart.{HostPart}
use Rattle.vk_types.specs.declared.message.Snap.{Snap}
use Rattle.vk_types.specs.declared.op.VkOp.{VkOp}
use Rattle.vk_types.specs.Effects.{Meaning, effect}
use Rattle.vk_types.specs.Hazards.{is_touched, touches}
use Rattle.vk_types.specs.Listing.{or_empty}
use Rattle.vk_types.specs.Memory.{Memory, byte_of, number_at, range}
use Rattle.device_memory.specs.Held.{memory_of}
use Rattle.device_memory.specs.Meant.{meaning_by}
use Rattle.command_queue.specs.Left.{HazardsHold, left, put_all, run_commands}
use Rattle.command_queue.specs.Readiness.{fresh}
use Rattle.vk_device.specs.declared.accepted.Accepted.{Accepted}
use Rattle.vk_device.specs.Accepting.{zeroed}
use Rattle.vk_device.specs.Completing.{released}
use Rattle.vk_device.specs.State.{State}
use Rattle.device_laws.specs.Holding.{is_among}
use Rattle.device_laws.specs.Standing.{commands_in}

-- the whole of a block, and its bytes
abbrev pub whole : Block → Range × List ℕ
whole b = (range b.number 0 (length (bytes_of b)), bytes_of b)

-- a part of the log, and where the host writes it
abbrev pub part_in : List ℕ → HostPart → Range × List ℕ
part_in log h = (h.range, or_empty (part_of log h.span.start h.span.len))

-- what the host writes for a batch: the blocks that it takes, whose bytes are all 0, its pages, and then its parts of the log
abbrev pub host_bytes : List ℕ → Batch → List (Range × List ℕ)
host_bytes log b = (map whole (map zeroed b.blocks.items) ++ map whole b.pages.items) ++ map (part_in log) b.writes.items

-- memory after a batch in order: the host writes its bytes, and then its commands are run one after another
abbrev pub after_batch : Meaning → List ℕ → Batch → Memory → Memory
after_batch meaning log b m = run_commands meaning (commands_in b.ops.items) (put_all (host_bytes log b) m)

-- each two conflicting commands among operations are ordered by a barrier that stands between them
abbrev pub AreOrdered : List VkOp → Type 0
AreOrdered ops = HazardsHold (map fresh ops)

-- with the module that is given, if one is, the command does what it means
abbrev pub DoesAsMeant : Meaning → Option (List ℕ) → c.Command → Type 0
DoesAsMeant meaning words d = (m : Memory) → effect (meaning_by words) d m ≡ effect meaning d m

-- the blocks that go as the oldest batch is completed: its pages, and those that were given up
abbrev pub gone_with : State → Accepted → List ℕ
gone_with d a = a.pages.items ++ released a.number d.marks

-- memory with each byte of these blocks 0
abbrev pub without_blocks : List ℕ → Memory → Memory
without_blocks ns m = λ block at. cond (is_among block ns) 0 (m block at)

-- no command of these touches a byte of these blocks
abbrev pub Spare : List c.Command → List ℕ → Type 0
Spare ds ns = AllByRecursion (λ d. (block at : ℕ) → is_among block ns ≡ true → is_touched (touches d) block at ≡ false) ds

-- what is left, run in order, makes this memory of what is held; and barriers order the conflicting commands that are left
pub record LeadsTo (meaning : Meaning) (d : State) (m : Memory) : Type 0 where
  pub hazards : HazardsHold d.steps
  pub bytes : run_commands meaning (left d.steps) (memory_of d.held) ≡ m

-- the copy is of one of these ranges, and has its bytes in this memory
pub record IsCopyIn (m : Memory) (ranges : List Range) (snap : Snap) : Type 0 where
  pub front : List Range
  pub range : Range
  pub back : List Range
  pub listed : ranges ≡ front ++ range ∷ back
  pub block : snap.block ≡ range.block
  pub bytes : (k : ℕ) → number_at snap.bytes k ≡ byte_of m range k
