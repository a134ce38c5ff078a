use Rattle.vk_trace.specs.declared.kind.LineKind.TheVariants.{HostRead}
use Rattle.vk_trace.specs.Reading.{IsOpOf, fields}
use Rattle.vk_trace.proofs.Ops.{none_ends, host_read_of}
use Rattle.vk_trace.proofs.read.host_read.Goals as goal

pub returns-in_err-range : goal.returns-in_err-range
returns-in_err-range c = none_ends (IsOpOf HostRead) fields _ _ c.from_residual.ensures (λ o good e. let h = host_read_of o _ good e in c.in_err-range.ensures h.0 h.1 h.2)
