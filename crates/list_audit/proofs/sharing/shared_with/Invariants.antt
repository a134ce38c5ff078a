use Rattle.std.proofs.Common.{◌≡◌, drop}
use Rattle.vk_types.specs.Listing.{op_touches}
use Rattle.list_audit.specs.Shared.{shared_with}
use Rattle.list_audit.proofs.sharing.shared_with.Given as goal

abbrev pub invariant-loop-i : goal.invariant-loop-i
invariant-loop-i l = shared_with l.t (op_touches l.op) ≡ shared_with l.t (drop l.i (op_touches l.op))
