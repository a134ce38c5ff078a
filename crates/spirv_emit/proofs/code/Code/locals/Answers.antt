use Rattle.std.proofs.Common.{◌+◌, ap, ◌∙◌, arith}
use Rattle.spirv_emit.specs.Emits.{layout_of}
use Rattle.spirv_emit.proofs.Words.ListedCode.{moved, finished}
use Rattle.spirv_emit.proofs.Words.ModuleParts.{variables_front, variables_done}
use Rattle.spirv_emit.proofs.code.Code.locals.Goals as goal

pub loop-i-preserved : goal.loop-i-preserved
loop-i-preserved c =
    let at = layout_of c.args.plan.now in
    let h = c.loop-i.invariant in
    let s = c.in_ok-local.ensures in
    (moved _ _ _ _ _ _ h.0 (variables_front at _ _ c.args.count c.loop-i._i c.loop-i-test.true s.next_is) s.words_are, s.next_is ∙ ap (λ n. n + 1) h.1 ∙ omega arith)

pub returns : goal.returns
returns c =
    let at = layout_of c.args.plan.now in
    let h = c.loop-i.invariant in
    record {
      words_are = finished _ _ _ _ h.0 (variables_done at c.loop-i.self.next c.args.count c.loop-i._i c.loop-i-test.false);
      next_is = omega (arith, h.1, c.loop-i-test.false);
    }
