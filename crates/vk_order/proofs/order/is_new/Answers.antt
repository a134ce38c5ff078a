use Rattle.std.proofs.Common.{◌≤◌, ◌&&◌, true, not, slice_get, sym, ap, ◌∙◌, arith}
use Rattle.std.proofs.lemmas.Bool.{le-leb}
use Rattle.vk_order.specs.Order.{is_act_in}
use Rattle.vk_order.proofs.Rising.{none_of}
use Rattle.vk_order.proofs.order.is_new.Goals as goal

pub returns-then-from-past : goal.returns-then-from-past
returns-then-from-past c =
    let le : c.args.past ≤ c.args.place = omega (arith, c.from.ensures, c.if-from-past.true) in
    le-leb c.args.past c.from.result (omega (arith, c.if-from-past.true))
    ∙ sym (ap (λ b. is_act_in (slice_get c.args.ops.now c.args.place) && not b) (none_of c.args.front.now c.args.past c.args.place c.requires le)
    ∙ ap (λ b. b && true) (sym c.is_act_at.ensures ∙ c.if-is_act_at.true))
