use Rattle.std.proofs.Common.{◌+◌, ◌-◌, sym, ap, ◌∙◌}
use Rattle.spirv_emit.specs.Numbers.{with_numbers, from_on}
use Rattle.spirv_emit.proofs.Words.Nodes.{from_front, from_done}
use Rattle.spirv_emit.proofs.collect.add_below.Goals as goal

pub loop-number-preserved : goal.loop-number-preserved
loop-number-preserved c =
    let i = c.loop-number.number in
    c.loop-number.invariant ∙ ap (with_numbers c.loop-number.numbers) (from_front i c.args.limit c.loop-number-test.true) ∙ ap (λ z. with_numbers z (from_on (i + 1) (c.args.limit - (i + 1)))) (sym c.in_ok-add.ensures)

pub returns : goal.returns
returns c = sym (c.loop-number.invariant ∙ ap (with_numbers c.loop-number.numbers) (from_done c.loop-number.number c.args.limit c.loop-number-test.false))
