use Rattle.std.proofs.Common.{◌≡◌, map, refl, ◌∙◌}
use Rattle.std.proofs.lemmas.Bool.{leb-true}
use Rattle.device_memory.specs.Held.{block_of}
use Rattle.vk_device.specs.Accepting.{Blocks, length_if, with_blocks, zeroed}
use Rattle.vk_device.proofs.Lengths.{has_part, zeroed_length}
use Rattle.vk_device.proofs.check_batch.lies_in.Goals as goal

pub returns-then-r : goal.returns-then-r
returns-then-r c = λ t.
    let r = c.args.r.now in
    let held : Blocks = block_of c.args.memory.now in
    let blocks : Blocks = with_blocks (map zeroed c.args.blocks.now) held in
    let first : c.length_with-brought.result ≡ length_if (blocks r.block) =
    c.length_with-brought.ensures held c.held_length-held.ensures ∙ zeroed_length c.args.blocks.now held held r.block refl in
    has_part (with_blocks c.args.pages.now blocks r.block) c.in-Some.len r.from r.to (c.in-Some.ensures blocks first) c.if-r.true (leb-true r.to c.in-Some.len t)
