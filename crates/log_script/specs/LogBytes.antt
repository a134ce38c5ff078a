-- The data of a log's calls are bytes.
use Rattle.std.specs.Prelude.{⊤, List}
use Rattle.std.specs.List.{AllByRecursion}
use Rattle.call_log.specs.Call as calls
use Rattle.call_log.specs.Call.{Call, Issued}
use Rattle.core_model.specs.HostBytes.{AreBytes}

-- what a creation, an update or a map hands over
abbrev pub CallHasBytes : Call → Type 0
CallHasBytes (calls.Buffer id size usage bind misc stride bytes) = AreBytes bytes
CallHasBytes (calls.Update res offset bytes) = AreBytes bytes
CallHasBytes (calls.MapWrite res mode offset bytes) = AreBytes bytes
CallHasBytes _ = ⊤

abbrev pub LogHasBytes : List Issued → Type 0
LogHasBytes log = AllByRecursion (λ i. CallHasBytes i.call) log
