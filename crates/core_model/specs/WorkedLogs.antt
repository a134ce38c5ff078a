-- Two small logs with what their runs give: an update that is copied and read, and five buffers whose commands may be
-- run in another order.
use Rattle.std.specs.Prelude.{◌≡◌, ℕ, false, true, ◌==◌, List, [], ◌∷◌, map, Some, None}
use Rattle.dx_types.specs.declared.range.Range.{Range}
use Rattle.vk_types.specs.declared.command.Work.{Work}
use Rattle.vk_types.specs.declared.command.Work.TheVariants as work
use Rattle.vk_types.specs.declared.op.VkOp.{VkOp}
use Rattle.vk_types.specs.declared.op.VkOp.TheVariants as op
use Rattle.base_lemmas.specs.Lists.{numbers_from}
use Rattle.vk_types.specs.Memory.{range}
use Rattle.vk_types.specs.Hazards.{write_access, read_write_access}
use Rattle.vk_types.specs.Effects.{Meaning, Act, Host_write, Device, Host_read}
use Rattle.vk_types.specs.BarrierCauses.{all_device, host_reads}
use Rattle.core_model.specs.Script.{Create, Stage, Command, Set_state, Bytes, Turn, Asked, Item, Script}
use Rattle.core_model.specs.CoreState.{Core, Bytes_said, End_said}
use Rattle.core_model.specs.Runs.{IsRun}

-- no shader means anything
abbrev pub no_shaders : Meaning
no_shaders = record { words = λ shader groups slots u. []; count = λ shader groups. 0 }

-- the sixteen bytes 00 to 0f
abbrev pub sixteen : List ℕ
sixteen = numbers_from 0 16

-- the sixteen bytes of a buffer or a block
abbrev pub all_of : ℕ → Range
all_of block = range block 0 16

-- a buffer of sixteen bytes is created
abbrev pub buffer : ℕ → List ℕ → Turn
buffer call bytes = Item call call true (Create call bytes) []

-- one buffer is copied to another
abbrev pub copy : ℕ → ℕ → ℕ → Turn
copy call target source = Item call call true (Command (work.Copy (all_of source) (all_of target)) None)
    (all_of source ∷ all_of target ∷ [])

-- a buffer is cleared to a word
abbrev pub clear : ℕ → ℕ → ℕ → Turn
clear call target word = Item call call true (Command (work.Fill (all_of target) word) None) (all_of target ∷ [])

-- a command with a number
abbrev pub command : ℕ → ℕ → Work → VkOp
command number call w = op.Command (record { number = number; call = call; work = w; cond = None })

-- the barrier behind transfers, caused by two commands
abbrev pub behind_transfers : ℕ → ℕ → VkOp
behind_transfers first second = op.Barrier (record {
  source = record { indirect = None; compute = None; transfer = Some write_access; host = None };
  dest = all_device read_write_access;
  first = first;
  second = Some second;
})

-- the barrier to the host
abbrev pub to_host : ℕ → VkOp
to_host first =
    op.Barrier (record { source = all_device write_access; dest = host_reads; first = first; second = None })

-- An update, a copy, a read ------------------------------------------------------------------------------------------

abbrev pub update_copy_map : Script
update_copy_map = record {
  turns =
      buffer 1 []
      ∷ buffer 2 []
      ∷ Item 3 3 true (Stage sixteen (Some (all_of 1)) None) (all_of 1 ∷ [])
      ∷ copy 4 2 1
      ∷ Asked 5 (Bytes (all_of 2)) (Some 4) false
      ∷ [];
  calls = 5;
  size = λ r. 16;
  class = λ r. None;
  is_staging = λ r. r == 2;
}

abbrev pub update_copy_map_ops : List VkOp
update_copy_map_ops =
    op.HostWrite (all_of 512) 1
    ∷ op.HostWrite (all_of 513) 2
    ∷ op.HostWrite (all_of 514) 3
    ∷ command 1 3 (work.Copy (all_of 514) (all_of 512))
    ∷ behind_transfers 1 2
    ∷ command 2 4 (work.Copy (all_of 512) (all_of 513))
    ∷ to_host 2
    ∷ op.Submit 1
    ∷ op.Fence 1
    ∷ op.HostRead (all_of 513) 5
    ∷ []

-- its run without a schedule gives the bytes of the update and this listing
abbrev pub PlaysUpdateCopyMap : Type 0
PlaysUpdateCopyMap =
    (core : Core) × IsRun no_shaders update_copy_map [] core
    × (core.replies ≡ Bytes_said 5 sixteen ∷ End_said ∷ []) × (core.listing ≡ update_copy_map_ops)

-- Five buffers -------------------------------------------------------------------------------------------------------

abbrev pub five_buffers : Script
five_buffers = record {
  turns =
      buffer 1 sixteen
      ∷ buffer 2 []
      ∷ buffer 3 []
      ∷ buffer 4 []
      ∷ buffer 5 []
      ∷ Item 6 6 true Set_state []
      ∷ Item 7 7 true Set_state []
      ∷ copy 8 2 1
      ∷ copy 9 3 2
      ∷ clear 10 1 5
      ∷ clear 11 4 6
      ∷ copy 12 5 3
      ∷ Asked 13 (Bytes (all_of 5)) (Some 12) false
      ∷ [];
  calls = 13;
  size = λ r. 16;
  class = λ r. None;
  is_staging = λ r. r == 5;
}

abbrev pub five_buffers_ops : List VkOp
five_buffers_ops =
    op.HostWrite (all_of 512) 1
    ∷ op.HostWrite (all_of 513) 2
    ∷ op.HostWrite (all_of 514) 3
    ∷ op.HostWrite (all_of 515) 4
    ∷ op.HostWrite (all_of 516) 5
    ∷ command 1 8 (work.Copy (all_of 512) (all_of 513))
    ∷ behind_transfers 1 2
    ∷ command 2 9 (work.Copy (all_of 513) (all_of 514))
    ∷ command 3 10 (work.Fill (all_of 512) 5)
    ∷ command 4 11 (work.Fill (all_of 515) 6)
    ∷ behind_transfers 2 5
    ∷ command 5 12 (work.Copy (all_of 514) (all_of 516))
    ∷ to_host 5
    ∷ op.Submit 1
    ∷ op.Fence 1
    ∷ op.HostRead (all_of 516) 13
    ∷ []

-- App plays all calls and hands the chunk over, which goes to the device; the commands are run as 1, 4, 3, 2, 5
abbrev pub five_buffers_steps : List ℕ
five_buffers_steps =
    0 ∷ 0 ∷ 0 ∷ 0 ∷ 0 ∷ 0 ∷ 0 ∷ 0 ∷ 0 ∷ 0 ∷ 0 ∷ 0 ∷ 0 ∷ 1 ∷ 3 ∷ 4 ∷ 16 ∷ 28 ∷ 22 ∷ 16 ∷ 16 ∷ []

-- the number of the command, and 0 of an act of the host
abbrev pub act_number : Act → ℕ
act_number (Host_write target bytes) = 0
act_number (Device d) = d.number
act_number (Host_read source) = 0

-- the numbers of the commands, as they were run
abbrev pub run_order : Core → List ℕ
run_order core = map (λ x. act_number x.act) core.ran

-- its run by that schedule gives the bytes that the first buffer had, and this listing, though the device runs the
-- commands in another order
abbrev pub PlaysFiveBuffers : Type 0
PlaysFiveBuffers =
    (core : Core) × IsRun no_shaders five_buffers five_buffers_steps core
    × (core.replies ≡ Bytes_said 13 sixteen ∷ End_said ∷ []) × (core.listing ≡ five_buffers_ops)
    × (run_order core ≡ 1 ∷ 4 ∷ 3 ∷ 2 ∷ 5 ∷ [])
