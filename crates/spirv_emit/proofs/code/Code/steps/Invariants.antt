use Rattle.std.proofs.Common.{◌≡◌, ◌+◌, ◌++◌, drop}
use Rattle.std.specs.Prelude.{IsTrue}
use Rattle.spirv_emit.specs.Code.{steps_ops}
use Rattle.spirv_emit.specs.Emits.{layout_of, written, steps_are_small}
use Rattle.spirv_emit.proofs.code.Code.steps.Given as goal

abbrev pub invariant-loop-step : goal.invariant-loop-step
invariant-loop-step l =
    let at = layout_of l.plan in
    (l.initial.self.words ++ written (steps_ops at l.words.leaves l.words.first l.initial.self.next l.steps) ≡ l.self.words ++ written (steps_ops at l.words.leaves l.words.first l.self.next (drop l.step-index l.steps)))
    × (l.self.next ≡ l.initial.self.next + l.step-index)
    × IsTrue (steps_are_small (drop l.step-index l.steps))
