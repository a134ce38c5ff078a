use Rattle.std.proofs.Common.{◌≡◌, true, false, sym, ◌∙◌, arith}
use Rattle.base_lemmas.specs.Lists.{all_pass}
use Rattle.vk_types.specs.Hazards.{touches}
use Rattle.vk_types.specs.Covered.{commands_visible}
use Rattle.vk_order.proofs.AllScan.{all_hit, all_miss, all_none}
use Rattle.vk_order.proofs.visible.commands_are_visible.Goals as goal
use Rattle.vk_order.proofs.visible.commands_are_visible.Goals.{in-Some+else-not-touch_is_visible, in_default}

pub returns-then-not-touch_is_visible : goal.returns-then-not-touch_is_visible
returns-then-not-touch_is_visible c =
    let fails : c.touch_is_visible.result ≡ false = grind arith in
    sym (all_hit (λ t. all_pass (commands_visible c.args.mid.now c.args.c.now c.args.d.now t) (touches c.args.d.now)) (touches c.args.c.now) c.loop-i.i c.in-Some.t
    (sym c.touch_at.ensures ∙ c.in-Some.is) (sym c.touch_is_visible.ensures ∙ fails))

pub loop-i-preserved : goal.loop-i-preserved
loop-i-preserved c =
    elim c.match-touch_at.branch [
      | in-Some+else-not-touch_is_visible w ↦
          let passes : w.touch_is_visible.result ≡ true = grind arith in
          all_miss (λ t. all_pass (commands_visible c.args.mid.now c.args.c.now c.args.d.now t) (touches c.args.d.now)) (touches c.args.c.now) c.loop-i.i w.in-Some.t
          (sym c.touch_at.ensures ∙ w.in-Some.is) (sym w.touch_is_visible.ensures ∙ passes) c.loop-i.invariant
      | in_default w ↦ all_none (λ t. all_pass (commands_visible c.args.mid.now c.args.c.now c.args.d.now t) (touches c.args.d.now)) (touches c.args.c.now) c.loop-i.i (sym c.touch_at.ensures ∙ w.in_default.is) c.loop-i.invariant
    ]
