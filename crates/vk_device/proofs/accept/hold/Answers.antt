use Rattle.device_memory.specs.Held.{block_of}
use Rattle.vk_device.proofs.Taking.{holds_begin, holds_more, holds_free, holds_end, popped_none}
use Rattle.vk_device.proofs.accept.hold.Goals as goal

pub each-init : goal.each-init
each-init c = holds_begin (block_of c.args.memory.now) c.args.blocks.items c.from-rest.result.items c.from-rest.ensures.0 c.requires

pub add-requires : goal.add-requires
add-requires c =
    holds_free (block_of c.args.memory.now) c.args.blocks.items c.each.rest.items c.pop_front.new.self.items
    c.in-Some.block c.each.memory c.in-Some.ensures.items c.each.invariant

pub each-preserved : goal.each-preserved
each-preserved c =
    holds_more (block_of c.args.memory.now) c.args.blocks.items c.each.rest.items c.pop_front.new.self.items
    c.in-Some.block c.each.memory c.add.new.self c.in-Some.ensures.items c.in_ok-add.ensures.ok c.each.invariant

pub returns : goal.returns
returns c = holds_end (block_of c.args.memory.now) c.args.blocks.items c.each.rest.items (block_of c.each.memory) (popped_none c.each.rest.items c.pop_front.new.self.items (rw c.in_default.is at c.pop_front.ensures.items) c.pop_front.ensures.rest) c.each.invariant
