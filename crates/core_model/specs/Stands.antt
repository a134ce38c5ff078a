-- Blocks that stand for buffers, and blocks that commands may still touch.
use Rattle.std.specs.Prelude.{◌≡◌, ℕ, ◌<◌, Bool, true, false, ◌==◌, List, ◌++◌, Some}
use Rattle.std.specs.List.{list_any}
use Rattle.vk_types.specs.Memory.{Memory}
use Rattle.vk_types.specs.Effects.{Act, Host_write, Device, Host_read, act_touches}
use Rattle.vk_types.specs.Entries.{Entry}
use Rattle.core_model.specs.Script.{Script, InOrder}
use Rattle.core_model.specs.Renaming.{BlockMap}
use Rattle.core_model.specs.CoreState.{Owner, Unmade, Home, Returning, Spare, Live, Retired, Paged, Dropped, Core}
use Rattle.core_model.specs.CoreState.{flat, of_messages, of_running, waiting}

-- each live buffer has a block of its own, and the block begins with the buffer's bytes
pub record Stands (script : Script) (memory : Memory) (blocks : BlockMap) (state : InOrder) : Type 0 where
  pub has_block : (r : ℕ) → state.live r ≡ true → (b : ℕ) × (blocks r ≡ Some b)
  pub is_live : (r b : ℕ) → blocks r ≡ Some b → state.live r ≡ true
  pub own : (r s b : ℕ) → blocks r ≡ Some b → blocks s ≡ Some b → r ≡ s
  pub bytes : (r b i : ℕ) → blocks r ≡ Some b → i < script.size r → memory b i ≡ state.bytes r i

-- the act has the block in its touches
abbrev pub touches_block : Act → ℕ → Bool
touches_block a block = list_any (λ t. t.range.block == block) (act_touches a)

abbrev pub is_host_write : Act → Bool
is_host_write (Host_write target bytes) = true
is_host_write (Device command) = false
is_host_write (Host_read source) = false

abbrev pub is_host_read : Act → Bool
is_host_read (Host_write target bytes) = false
is_host_read (Device command) = false
is_host_read (Host_read source) = true

abbrev pub device_touches : Act → ℕ → Bool
device_touches (Host_write target bytes) block = false
device_touches (Device command) block = touches_block (Device command) block
device_touches (Host_read source) block = false

-- the chunks that are not finished: the open one, and those that were handed over and have no post
abbrev pub unfinished : Core → List Entry
unfinished core = flat (of_messages core.completions) ++ (flat (of_running core.accepted) ++ flat (waiting core))

-- a command of a chunk that is not finished has the block in its touches
abbrev pub may_touch : Core → ℕ → Bool
may_touch core block = list_any (λ x. device_touches x.act block) (unfinished core)

-- the block may be handed out: it is home or on its way, or a page that came back
abbrev pub IsFree : Owner → Type 0
IsFree Unmade = ⊥
IsFree (Home k) = Unit {0}
IsFree (Returning k) = Unit {0}
IsFree Spare = Unit {0}
IsFree (Live buffer since bound) = ⊥
IsFree (Retired chunk since bound) = ⊥
IsFree (Paged chunk since bound) = ⊥
IsFree Dropped = ⊥

-- no command that is not finished touches a block that may be handed out
abbrev pub FreeIsIdle : Core → Type 0
FreeIsIdle core = (b : ℕ) → IsFree (core.owner b) → may_touch core b ≡ false
