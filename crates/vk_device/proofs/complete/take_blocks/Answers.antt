use Rattle.std.proofs.Common.{◌+◌, drop, get_or, refl, arith}
use Rattle.std.proofs.lemmas.List.{drop_more, drop_all}
use Rattle.device_memory.specs.Held.{block_of}
use Rattle.vk_device.proofs.Giving.{blocks_begin, blocks_more, blocks_end}
use Rattle.vk_device.proofs.complete.take_blocks.Goals as goal

pub each-init : goal.each-init
each-init c = blocks_begin (block_of c.args.memory.now) c.args.numbers.now c.args.numbers.now c.new-blocks.result.items refl c.new-blocks.ensures.items

pub each-preserved : goal.each-preserved
each-preserved c =
    let i = c.each.number-index in
    blocks_more (block_of c.args.memory.now) c.args.numbers.now (drop i c.args.numbers.now) (drop (i + 1) c.args.numbers.now) (get_or c.args.numbers.now i 0)
    c.each.blocks.items c.push_some.new.values.items c.take_out-block.result c.each.memory c.take_out-block.new.memory
    (drop_more c.args.numbers.now i 0 (omega arith)) c.take_out-block.ensures.block c.take_out-block.ensures.rest c.in_ok-push_some.ensures c.each.invariant

pub returns : goal.returns
returns c =
    let all = blocks_end (block_of c.args.memory.now) c.args.numbers.now (drop c.each.number-index c.args.numbers.now) c.each.blocks.items (block_of c.each.memory)
    (drop_all c.each.number-index c.args.numbers.now (omega arith)) c.each.invariant in
    record { blocks = all.0; rest = all.1 }
