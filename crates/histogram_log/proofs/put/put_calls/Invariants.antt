use Rattle.std.proofs.Common.{◌≡◌, ◌++◌, take}
use Rattle.std.specs.Prelude.{map}
use Rattle.call_log.specs.View.{call_view}
use Rattle.histogram_log.specs.Logged.{spelled}
use Rattle.histogram_log.proofs.put.put_calls.Given as goal

abbrev pub invariant-calls : goal.invariant-calls
invariant-calls l = l.log.items ≡ l.fn.log.items ++ spelled (map call_view (take l.call-index l.calls))
