-- The readings of a step: any choices, the choices of the core that is stepped, and the parts in threads, which have
-- no places to count.
use Rattle.std.specs.Prelude.{ℕ, ◌+◌, Bool, true, false, nat_lt, length}
use Rattle.core_model.specs.CoreState.{Core, taken_count, handed_count}

pub data Reading : Type 0 where
  -- any lawful choice of posts, blocks and pages
  Any_choices : Reading
  -- the choices of the core that is stepped
  First_choices : Reading
  -- any choices, with parts that may hold a message in hand
  In_threads : Reading

abbrev pub chooses_first : Reading → Bool
chooses_first Any_choices = false
chooses_first First_choices = true
chooses_first In_threads = false

-- a page that came back has the length that it had. In threads a post may have pages of any lengths that suffice
abbrev pub keeps_pages : Reading → Bool
keeps_pages Any_choices = true
keeps_pages First_choices = true
keeps_pages In_threads = false

-- a queue, or the device, has a place for one more
abbrev pub has_place : Reading → ℕ → Bool
has_place Any_choices held = nat_lt held 4
has_place First_choices held = nat_lt held 4
has_place In_threads held = true

-- a chunk may be handed over: its queue has a place, in threads no more than 32 chunks are on their way
abbrev pub may_hand_over : Reading → Core → Bool
may_hand_over Any_choices core = nat_lt (length core.chunks) 4
may_hand_over First_choices core = nat_lt (length core.chunks) 4
may_hand_over In_threads core = nat_lt (handed_count core) (taken_count core + 32)
