use Rattle.std.proofs.Common.{◌≡◌, drop}
use Rattle.vk_types.specs.Listing.{op_touches}
use Rattle.list_audit.specs.Shared.{shared_bytes}
use Rattle.list_audit.proofs.sharing.shared_bytes.Given as goal

abbrev pub invariant-loop-i : goal.invariant-loop-i
invariant-loop-i l = shared_bytes (op_touches l.first) (op_touches l.second) ≡ shared_bytes (drop l.i (op_touches l.first)) (op_touches l.second)
