use Rattle.std.proofs.Common.{◌++◌, ◌∷◌, [], List, map, ap, sym, ◌∙◌, append_assoc, append-nil}
use Rattle.vk_types.specs.declared.op.VkOp.{VkOp}
use Rattle.command_queue.specs.declared.queue.Listed.{Listed}
use Rattle.command_queue.specs.Readiness.{fresh}
use Rattle.vk_device.proofs.Taking.{popped_none}
use Rattle.vk_device.proofs.accept.push_all.Goals as goal

pub each-init : goal.each-init
each-init c = ap (λ (l : List VkOp). c.args.queue.now ++ map fresh l) c.from-rest.ensures.0

pub each-preserved : goal.each-preserved
each-preserved c =
    ap (λ (l : List Listed). l ++ map fresh c.pop_front.new.self.items) c.in_ok-push.ensures.ok
    ∙ append_assoc c.each.queue (fresh c.in-Some.op ∷ []) (map fresh c.pop_front.new.self.items)
    ∙ ap (λ (l : List VkOp). c.each.queue ++ map fresh l) (sym c.in-Some.ensures.items) ∙ c.each.invariant

pub returns : goal.returns
returns c =
    sym (append-nil c.each.queue) ∙ ap (λ (l : List VkOp). c.each.queue ++ map fresh l) (sym (popped_none c.each.rest.items c.pop_front.new.self.items (rw c.in_default.is at c.pop_front.ensures.items) c.pop_front.ensures.rest)) ∙ c.each.invariant
