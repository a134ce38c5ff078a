use Rattle.std.proofs.Common.{◌+◌, drop, sym, ap, ◌∙◌}
use Rattle.std.specs.Prelude.{flat_map}
use Rattle.std.proofs.lemmas.List.{drop_all}
use Rattle.spirv_emit.specs.Numbers.{with_numbers, declared_numbers}
use Rattle.spirv_emit.proofs.Words.Nodes.{flat_front}
use Rattle.spirv_emit.proofs.collect.add_declared.Goals as goal

pub loop-one-preserved : goal.loop-one-preserved
loop-one-preserved c =
    let i = c.loop-one.one-index in
    let xs = c.args.declared.now in
    c.loop-one.invariant ∙ flat_front declared_numbers xs c.loop-one.numbers i _ c.loop-one-test.true ∙ ap (λ z. with_numbers z (flat_map declared_numbers (drop (i + 1) xs))) (sym c.in_ok-add_all.ensures)

pub returns : goal.returns
returns c = sym (c.loop-one.invariant ∙ ap (λ z. with_numbers c.loop-one.numbers (flat_map declared_numbers z)) (drop_all c.loop-one.one-index c.args.declared.now c.loop-one-test.false))
