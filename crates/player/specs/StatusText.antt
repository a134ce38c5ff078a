-- What the program says of a status on standard error.
use Rattle.std.specs.Prelude.{ℕ, List, [], ◌++◌, codes, decimal}
use Rattle.call_log.specs.declared.fault.LogFault.{LogFault}
use Rattle.call_log.specs.declared.fault.LogKind.{LogKind}
use Rattle.call_log.specs.declared.fault.LogKind.TheVariants as kinds
use Rattle.player.specs.declared.status.Status as status
use Rattle.player.specs.declared.status.Status.TheVariants as statuses

abbrev pub kind_name : LogKind → List ℕ
kind_name kinds.Magic = codes "Magic"
kind_name kinds.Version = codes "Version"
kind_name kinds.Truncated = codes "Truncated"
kind_name kinds.BodyLength = codes "BodyLength"
kind_name kinds.UnknownKind = codes "UnknownKind"
kind_name kinds.Trailing = codes "Trailing"
kind_name kinds.NoEnd = codes "NoEnd"

abbrev pub bad_log_text : LogFault → List ℕ
bad_log_text fault = kind_name fault.kind ++ (codes " at " ++ decimal fault.at)

abbrev pub draw_text : ℕ → List ℕ
draw_text n = codes "call " ++ (decimal n ++ codes " is a draw")

abbrev pub bad_text_text : ℕ → List ℕ
bad_text_text line = codes "line " ++ decimal line

abbrev pub not_built_text : ℕ → ℕ → List ℕ
not_built_text n kind = codes "call " ++ (decimal n ++ (codes " of kind " ++ (decimal kind ++ codes " is not built")))

abbrev pub text_of : status.Status → List ℕ
text_of statuses.Done = []
text_of statuses.Usage = codes "usage"
text_of statuses.ReadFault = codes "read fault"
text_of statuses.WriteFault = codes "write fault"
text_of (statuses.Unsupported n) = draw_text n
text_of (statuses.BadLog fault) = bad_log_text fault
text_of statuses.TooLong = codes "longer than 67108864 bytes"
text_of statuses.NoMemory = codes "no memory"
text_of (statuses.BadText line) = bad_text_text line
text_of (statuses.NotBuilt n kind) = not_built_text n kind
