use Rattle.std.proofs.Common.{◌≡◌, ◌≤◌, ◌++◌, All, drop}
use Rattle.lifetime.specs.declared.holds.Mark.{Mark}
use Rattle.vk_device.specs.Accepting.{marks_by}
use Rattle.vk_device.proofs.accept.retire_all.Given as goal

abbrev pub invariant-each : goal.invariant-each
invariant-each l =
    (l.holds ++ marks_by l.k (drop l.block-index l.blocks) ≡ l.fn.holds ++ marks_by l.k l.blocks) × All (λ (m : Mark). m.chunk ≤ l.k) l.holds
