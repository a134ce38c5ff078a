-- What the device holds in a state of the core.
use Rattle.std.specs.Prelude.{ℕ, ◌+◌, Bool, List, map, length}
use Rattle.vk_types.specs.declared.message.Placed.{Placed}
use Rattle.core_model.specs.CoreState.{Segment, Core, on_device}
use Rattle.core_model.specs.Spine.{holds_block}

-- the chunks that the device completed
abbrev pub completed_count : Core → ℕ
completed_count core = length core.taken + (length core.posts + length core.completions)

-- the places of these chunks' items, chunk by chunk
abbrev pub placed_by : List Segment → List (List Placed)
placed_by ss = map (λ s. s.placed) ss

-- the device holds the block, by the chunks that it accepted
abbrev pub device_holds : Core → ℕ → Bool
device_holds core block = holds_block (completed_count core) (placed_by (on_device core)) block
