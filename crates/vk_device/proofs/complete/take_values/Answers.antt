use Rattle.std.proofs.Common.{◌∙◌}
use Rattle.vk_device.proofs.Giving.{values_begin, values_more, values_end}
use Rattle.vk_device.proofs.complete.take_values.Goals as goal

pub ends-init : goal.ends-init
ends-init c = values_begin c.args.upto c.args.queries.now c.new-values.result.items c.new-values.ensures.items

pub ends-preserved : goal.ends-preserved
ends-preserved c =
    values_more c.args.upto c.args.queries.now c.ends.queries c.answer.new.self c.ends.values.items c.push.new.self.items c.in-Some.value c.in-Some.ensures c.in_ok-push.ensures.items c.ends.invariant

pub returns : goal.returns
returns c =
    let end = rw c.in_default.is at c.answer.ensures in
    let all = values_end c.args.upto c.args.queries.now c.ends.queries c.ends.values.items end.1 c.ends.invariant in
    record { values = all.0; rest = end.0 ∙ all.1 }
