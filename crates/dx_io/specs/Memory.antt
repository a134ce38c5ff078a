-- Sources and sinks in memory, by what a caller sees of them.
use Rattle.std.specs.Prelude.{ℕ, ◌≡◌, ◌+◌, ◌==◌, ◌&&◌, ◌||◌, Bool, not, List, length, min, drop, nat_lt, if◌then◌else◌}
use Rattle.std.specs.List.{list_any}
use Rattle.std.specs.Global.{Vec}
use Rattle.dx_io.specs.Faults.{one_more}
use Rattle.dx_io.specs.declared.calls.Calls.{Calls}
use Rattle.dx_io.specs.declared.memory_source.MemSource.{MemSource}
use Rattle.dx_io.specs.declared.memory_sink.MemSink.{MemSink}

-- No call was made yet, and these are to fail.
abbrev pub no_calls : Vec ℕ → Calls
no_calls fails = record { fails = fails; made = 0; faults = 0 }

-- The number of the next call, one above the calls before, stands among those that fail.
abbrev pub is_due : Calls → Bool
is_due c = list_any (λ number. number == c.made + 1) c.fails.items

-- One more fault is counted.
abbrev pub after_fault : Calls → Calls
after_fault c = record c { faults = one_more c.faults }

-- One more call is counted, and a fault where it failed.
abbrev pub after_call : Calls → Bool → Calls
after_call c failed = record c { made = one_more c.made; faults = (if failed then one_more c.faults else c.faults) }

-- The bytes that a source has left.
abbrev pub source_left : MemSource → List ℕ
source_left s = drop s.at s.bytes.items

-- The calls of a source so far, with those that are to fail.
abbrev pub source_calls : MemSource → Calls
source_calls s = s.calls

-- How often a read of a source has failed.
abbrev pub source_faults : MemSource → ℕ
source_faults s = s.calls.faults

-- The most bytes that one read moves.
abbrev pub source_most : MemSource → ℕ
source_most s = s.most

-- The next read fails.
abbrev pub read_fails : MemSource → Bool
read_fails s = is_due s.calls

-- How many bytes a read moves that does not fail: as many as there are and fit, up to the most.
abbrev pub read_count : MemSource → ℕ → ℕ
read_count s room = min s.most (min room (length (drop s.at s.bytes.items)))

-- A read changed no more than the counters and what is left.
abbrev pub CountsRead : MemSource → Bool → MemSource → Type 0
CountsRead old failed new = (new.calls ≡ after_call old.calls failed) × (new.most ≡ old.most)

-- The bytes that a sink holds.
abbrev pub sink_held : MemSink → List ℕ
sink_held s = s.bytes.items

-- The calls of a sink so far, with those that are to fail.
abbrev pub sink_calls : MemSink → Calls
sink_calls s = s.calls

-- How often a write to a sink has failed.
abbrev pub sink_faults : MemSink → ℕ
sink_faults s = s.calls.faults

-- How often a write to a sink has failed for want of memory.
abbrev pub sink_starved : MemSink → ℕ
sink_starved s = s.starved

-- The most bytes that one write takes.
abbrev pub sink_most : MemSink → ℕ
sink_most s = s.most

-- The next write, of these bytes, fails whatever memory there is.
abbrev pub write_fails : MemSink → List ℕ → Bool
write_fails s from = is_due s.calls || ((s.most == 0) && nat_lt 0 (length from))

-- A write changed no more than the counters and what is held. Want of memory is counted where
-- nothing else made it fail.
abbrev pub CountsWrite : MemSink → List ℕ → Bool → MemSink → Type 0
CountsWrite old from failed new =
    (new.calls ≡ after_call old.calls failed) × (new.most ≡ old.most)
    × (new.starved ≡ (if failed && not (write_fails old from) then one_more old.starved else old.starved))
