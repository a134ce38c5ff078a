use Rattle.std.proofs.Common.{◌+◌, drop, sym, ap, ◌∙◌}
use Rattle.std.proofs.lemmas.List.{drop_all}
use Rattle.spirv_emit.specs.Numbers.{with_numbers}
use Rattle.spirv_emit.proofs.Words.Nodes.{numbers_step}
use Rattle.spirv_emit.proofs.collect.add_all.Goals as goal

pub loop-number-preserved : goal.loop-number-preserved
loop-number-preserved c =
    let i = c.loop-number.number-index in
    c.loop-number.invariant ∙ numbers_step c.args.more.now c.loop-number.numbers i c.loop-number-test.true ∙ ap (λ z. with_numbers z (drop (i + 1) c.args.more.now)) (sym c.in_ok-add.ensures)

pub returns : goal.returns
returns c = sym (c.loop-number.invariant ∙ ap (with_numbers c.loop-number.numbers) (drop_all c.loop-number.number-index c.args.more.now c.loop-number-test.false))
