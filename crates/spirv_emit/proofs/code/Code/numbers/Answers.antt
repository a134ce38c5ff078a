use Rattle.std.proofs.Common.{◌+◌, ap, ◌∙◌, arith}
use Rattle.std.proofs.lemmas.List.{drop_all}
use Rattle.spirv_emit.specs.Module.{constants}
use Rattle.spirv_emit.proofs.Words.ListedCode.{moved, finished}
use Rattle.spirv_emit.proofs.Words.ModuleParts.{constants_front}
use Rattle.spirv_emit.proofs.code.Code.numbers.Goals as goal

pub loop-number-preserved : goal.loop-number-preserved
loop-number-preserved c =
    let h = c.loop-number.invariant in
    let s = c.in_ok-number.ensures in
    (moved _ _ _ _ _ _ h.0 (constants_front _ _ c.args.numbers.now c.loop-number.number-index c.loop-number-test.true s.next_is) s.words_are, s.next_is ∙ ap (λ n. n + 1) h.1 ∙ omega arith)

pub returns : goal.returns
returns c =
    let h = c.loop-number.invariant in
    record {
      words_are = finished _ _ _ _ h.0 (ap (constants c.loop-number.self.next) (drop_all c.loop-number.number-index c.args.numbers.now c.loop-number-test.false));
      next_is = omega (arith, h.1, c.loop-number-test.false, c.loop-number.auto.number-index-end);
    }
