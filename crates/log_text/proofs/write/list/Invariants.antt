use Rattle.std.proofs.Common.{◌≡◌, ◌++◌, take}
use Rattle.std.specs.String.{string_bytes}
use Rattle.std.specs.List.{flat_map}
use Rattle.log_text.specs.LogText.{first_line, line}
use Rattle.log_text.proofs.write.list.Given as goal

abbrev pub invariant-calls : goal.invariant-calls
invariant-calls l = string_bytes l.text ≡ first_line ++ flat_map line (take l.i l.log.frames)
