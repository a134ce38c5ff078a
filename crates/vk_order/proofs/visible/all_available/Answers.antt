use Rattle.std.proofs.Common.{◌≡◌, true, false, sym, ◌∙◌, arith}
use Rattle.vk_types.specs.Hazards.{touches}
use Rattle.vk_order.specs.Asks.{is_available}
use Rattle.vk_order.proofs.AllScan.{all_hit, all_miss, all_none}
use Rattle.vk_order.proofs.visible.all_available.Goals as goal
use Rattle.vk_order.proofs.visible.all_available.Goals.{in-Some+else-not-is_available, in_default}

pub returns-then-not-is_available : goal.returns-then-not-is_available
returns-then-not-is_available c =
    let fails : c.is_available.result ≡ false = grind arith in
    sym (all_hit (is_available c.args.source.now) (touches c.args.c.now) c.loop-i.i c.in-Some.t
    (sym c.touch_at.ensures ∙ c.in-Some.is) (sym c.is_available.ensures ∙ fails))

pub loop-i-preserved : goal.loop-i-preserved
loop-i-preserved c =
    elim c.match-touch_at.branch [
      | in-Some+else-not-is_available w ↦
          let passes : w.is_available.result ≡ true = grind arith in
          all_miss (is_available c.args.source.now) (touches c.args.c.now) c.loop-i.i w.in-Some.t
          (sym c.touch_at.ensures ∙ w.in-Some.is) (sym w.is_available.ensures ∙ passes) c.loop-i.invariant
      | in_default w ↦ all_none (is_available c.args.source.now) (touches c.args.c.now) c.loop-i.i (sym c.touch_at.ensures ∙ w.in_default.is) c.loop-i.invariant
    ]
