use Rattle.std.proofs.Common.{◌-◌, ◌<◌, length, get_or, sym, ◌∙◌, arith}
use Rattle.std.proofs.lemmas.Option.{slice_get-get_or}
use Rattle.vk_order.specs.declared.cuts.Cut.{Cut}
use Rattle.vk_order.proofs.CutOrder.{rise_next, rise_whole}
use Rattle.vk_order.proofs.cuts.rises.Goals as goal

pub loop-i-preserved : goal.loop-i-preserved
loop-i-preserved c =
    let cuts = c.args.cuts.now in let i = c.loop-i.i in let l = c.loop-i-test.true in
    let zero : Cut = record { block = 0; at = 0 } in
    let before : i - 1 < length cuts = omega (arith, l) in
    rise_next cuts i (get_or cuts (i - 1) zero) (get_or cuts i zero) c.loop-i.auto.i (slice_get-get_or cuts (i - 1) zero before) (slice_get-get_or cuts i zero l)
    (sym c.precedes.ensures ∙ c.if-not-precedes.false) c.loop-i.invariant

pub returns : goal.returns
returns c = λ _. rise_whole c.args.cuts.now c.loop-i.i c.loop-i-test.false c.loop-i.invariant
