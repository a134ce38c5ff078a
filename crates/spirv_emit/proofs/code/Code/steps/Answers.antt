use Rattle.std.proofs.Common.{◌+◌, ap, ◌∙◌, arith}
use Rattle.std.proofs.lemmas.List.{drop_all}
use Rattle.spirv_emit.specs.Emits.{layout_of}
use Rattle.spirv_emit.specs.Code.{steps_ops}
use Rattle.spirv_model.specs.declared.code.UnaryCode.TheVariants.{Negate}
use Rattle.spirv_emit.specs.declared.formula.Taken.TheVariants.{Leaf}
use Rattle.spirv_emit.specs.declared.formula.Step.TheVariants.{One}
use Rattle.spirv_emit.proofs.Words.ListedCode.{moved, finished, steps_front}
use Rattle.spirv_emit.proofs.Words.CalculationsAndAccesses.{small_next}
use Rattle.spirv_emit.proofs.code.Code.steps.Goals as goal

pub loop-step-preserved : goal.loop-step-preserved
loop-step-preserved c =
    let at = layout_of c.args.plan.now in
    let h = c.loop-step.invariant in
    let s = c.in_ok-step.ensures in
    let lt = c.loop-step-test.true in (
      moved _ _ _ _ _ _ h.0 (steps_front at c.args.words.now.leaves c.args.words.now.first _ _ c.args.steps.now c.loop-step.step-index _ lt s.next_is) s.words_are,
      s.next_is ∙ ap (λ n. n + 1) h.1 ∙ omega arith,
      small_next c.args.steps.now c.loop-step.step-index (One Negate (Leaf 0)) lt h.2,
    )

pub returns : goal.returns
returns c =
    let at = layout_of c.args.plan.now in
    let h = c.loop-step.invariant in
    let n = c.loop-step.self.next in record {
      words_are = finished _ _ _ _ h.0 (ap (steps_ops at c.args.words.now.leaves c.args.words.now.first n) (drop_all c.loop-step.step-index c.args.steps.now c.loop-step-test.false));
      next_is = omega (arith, h.1, c.loop-step-test.false, c.loop-step.auto.step-index-end);
    }
