use Rattle.std.proofs.Common.{◌≡◌, ◌+◌, ◌-◌, ◌++◌}
use Rattle.spirv_emit.specs.Module.{zero_variables}
use Rattle.spirv_emit.specs.Emits.{layout_of, written}
use Rattle.spirv_emit.proofs.code.Code.locals.Given as goal

abbrev pub invariant-loop-i : goal.invariant-loop-i
invariant-loop-i l =
    let at = layout_of l.plan in
    (l.initial.self.words ++ written (zero_variables at l.initial.self.next l.count) ≡ l.self.words ++ written (zero_variables at l.self.next (l.count - l._i)))
    × (l.self.next ≡ l.initial.self.next + l._i)
