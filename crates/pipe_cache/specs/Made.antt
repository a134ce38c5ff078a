-- A module in its cell, as a note sees it.
use Rattle.std.specs.Arc.{arc_value}
use Rattle.pipe_cache.specs.Cells.{Seen}
use Rattle.pipe_cache.specs.declared.made.Made.{Made}

abbrev pub seen_of : Made → Seen
seen_of m = record { tokens = (arc_value m.source).words.items; made = m.emitted }
