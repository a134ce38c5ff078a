use Rattle.std.proofs.Common.{sym}
use Rattle.barrier_track.specs.Bytes.{start_of}
use Rattle.barrier_track.proofs.Bytes.{byte_last, byte_none}
use Rattle.barrier_track.proofs.ranges.byte.Goals as goal

pub returns-in-Some : goal.returns-in-Some
returns-in-Some c = byte_last c.args.starts.now.entries c.args.at _ c.in-Some.has c.in-Some.ensures

pub returns-in-None : goal.returns-in-None
returns-in-None c = sym (byte_none (start_of c.args.starts.now.entries) c.args.at c.in-None.ensures)
