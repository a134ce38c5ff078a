use Rattle.std.proofs.Common.{◌+◌, ◌-◌, ◌/◌, ◌<◌, length, get_or, sym, ◌∙◌, arith}
use Rattle.std.proofs.lemmas.Option.{slice_get-get_or}
use Rattle.vk_order.specs.declared.cuts.Cut.{Cut}
use Rattle.vk_order.proofs.CutOrder.{step_low, step_high}
use Rattle.vk_order.proofs.cuts.place_of.Goals as goal

pub halves-preserved-then-precedes : goal.halves-preserved-then-precedes
halves-preserved-then-precedes c =
    let cuts = c.args.cuts.now in let middle = c.halves.low + (c.halves.high - c.halves.low) / 2 in let low = c.halves-test.true in let within = c.halves.invariant.within in
    let zero : Cut = record { block = 0; at = 0 } in
    let there : middle < length cuts = omega (arith, low, within) in
    record {
      order = omega (arith, low);
      within = within;
      below = step_low cuts middle (get_or cuts middle zero) c.args.cut.now c.requires (slice_get-get_or cuts middle zero there) (sym c.precedes.ensures ∙ c.if-precedes.true);
      above = c.halves.invariant.above;
    }

pub halves-preserved : goal.halves-preserved
halves-preserved c =
    let cuts = c.args.cuts.now in let middle = c.halves.low + (c.halves.high - c.halves.low) / 2 in let low = c.halves-test.true in let within = c.halves.invariant.within in
    let zero : Cut = record { block = 0; at = 0 } in
    let there : middle < length cuts = omega (arith, low, within) in
    record {
      order = omega (arith, low);
      within = omega (arith, low, within);
      below = c.halves.invariant.below;
      above = step_high cuts middle (get_or cuts middle zero) c.args.cut.now c.requires (slice_get-get_or cuts middle zero there) (sym c.precedes.ensures ∙ c.if-precedes.false);
    }
