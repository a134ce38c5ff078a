-- Which calls are commands of the device.
use Rattle.std.specs.Prelude.{ℕ, ◌==◌, Bool, true, false, not, ◌&&◌, List, Option, None, Some, is_none}
use Rattle.d3d_model.specs.declared.codes.TheConstants.{MAP_WRITE}
use Rattle.call_log.specs.Call as calls
use Rattle.call_log.specs.Call.{Call, Issued}
use Rattle.d3d_model.specs.Verdict.{has_bytes}
use Rattle.d3d_model.specs.InOrder.{State, verdict_in, before_call, call_at}

-- an accepted call that writes at least one byte of a buffer that is there; views and buffers are never empty
abbrev pub writes : Call → Bool
writes (calls.CopyRegion target target_offset source source_offset len) = not (len == 0)
writes (calls.Copy target source) = true
writes (calls.Update res offset bytes) = has_bytes bytes
writes (calls.ClearUav view v0 v1 v2 v3) = true
writes (calls.MapWrite res mode offset bytes) = (mode == MAP_WRITE) && has_bytes bytes
writes _ = false

abbrev pub command_in : State → Option Issued → Bool
command_in s None = false
command_in s (Some i) = is_none (verdict_in s i) && writes i.call

-- call n of a log makes a command
abbrev pub makes_command : List Issued → ℕ → Bool
makes_command log n = command_in (before_call log n) (call_at log n)
