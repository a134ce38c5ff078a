-- What std's readers and writers show as sources and sinks: how often they failed.
use Rattle.std.specs.Prelude.{ℕ}
use Rattle.dx_io.specs.declared.standard.StdSource.{StdSource}
use Rattle.dx_io.specs.declared.standard.StdSink.{StdSink}

-- How often a read has failed.
abbrev pub reader_faults : {T : Type 0} → StdSource T → ℕ
reader_faults s = s.faults

-- How often a write has failed.
abbrev pub writer_faults : {T : Type 0} → StdSink T → ℕ
writer_faults s = s.faults
