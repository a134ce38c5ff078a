use Rattle.std.proofs.Common.{◌≡◌, true, false, sym, ◌∙◌, arith}
use Rattle.vk_types.specs.Hazards.{touches}
use Rattle.vk_types.specs.Covered.{host_visible}
use Rattle.vk_order.proofs.AllScan.{all_hit, all_miss, all_none}
use Rattle.vk_order.proofs.visible.command_is_visible_to_host.Goals as goal
use Rattle.vk_order.proofs.visible.command_is_visible_to_host.Goals.{in-Some+else-not-touch_is_visible_to_host, in_default}

pub returns-then-not-touch_is_visible_to_host : goal.returns-then-not-touch_is_visible_to_host
returns-then-not-touch_is_visible_to_host c =
    let fails : c.touch_is_visible_to_host.result ≡ false = grind arith in
    sym (all_hit (λ t. host_visible c.args.mid.now t c.args.u.now) (touches c.args.c.now) c.loop-i.i c.in-Some.t
    (sym c.touch_at.ensures ∙ c.in-Some.is) (sym c.touch_is_visible_to_host.ensures ∙ fails))

pub loop-i-preserved : goal.loop-i-preserved
loop-i-preserved c =
    elim c.match-touch_at.branch [
      | in-Some+else-not-touch_is_visible_to_host w ↦
          let passes : w.touch_is_visible_to_host.result ≡ true = grind arith in
          all_miss (λ t. host_visible c.args.mid.now t c.args.u.now) (touches c.args.c.now) c.loop-i.i w.in-Some.t
          (sym c.touch_at.ensures ∙ w.in-Some.is) (sym w.touch_is_visible_to_host.ensures ∙ passes) c.loop-i.invariant
      | in_default w ↦ all_none (λ t. host_visible c.args.mid.now t c.args.u.now) (touches c.args.c.now) c.loop-i.i (sym c.touch_at.ensures ∙ w.in_default.is) c.loop-i.invariant
    ]
