use Rattle.std.proofs.Common.{◌+◌, drop, sym, ap, ◌∙◌, None}
use Rattle.std.specs.Prelude.{flat_map}
use Rattle.std.proofs.lemmas.List.{drop_all}
use Rattle.spirv_emit.specs.Numbers.{with_numbers, operand_numbers}
use Rattle.spirv_emit.proofs.Words.Nodes.{flat_front}
use Rattle.spirv_emit.proofs.collect.add_operands.Goals as goal

pub loop-operand-preserved : goal.loop-operand-preserved
loop-operand-preserved c =
    let i = c.loop-operand.operand-index in
    let xs = c.args.operands.now in
    c.loop-operand.invariant ∙ flat_front operand_numbers xs c.loop-operand.numbers i None c.loop-operand-test.true ∙ ap (λ z. with_numbers z (flat_map operand_numbers (drop (i + 1) xs))) (sym c.in_ok-add_operand.ensures)

pub returns : goal.returns
returns c = sym (c.loop-operand.invariant ∙ ap (λ z. with_numbers c.loop-operand.numbers (flat_map operand_numbers z)) (drop_all c.loop-operand.operand-index c.args.operands.now c.loop-operand-test.false))
