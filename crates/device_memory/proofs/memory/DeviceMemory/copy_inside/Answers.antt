use Rattle.std.proofs.Common.{ap, subst, ◌∙◌}
use Rattle.vk_types.specs.Memory.{byte_of, put}
use Rattle.device_memory.specs.Held.{Held, AreAlike, memory_of}
use Rattle.device_memory.proofs.Exchanges.{put_memory, put_alike, put_numbered}
use Rattle.device_memory.proofs.Moves.{moved_in}
use Rattle.device_memory.proofs.memory.DeviceMemory.copy_inside.Goals as goal

pub invariant_of-self : goal.invariant_of-self
invariant_of-self c =
    let es = c.self.inside.blocks.entries in
    let fs = (c.get_mut.follows.lender c.move_in_block.new.block).entries in
    put_numbered es fs c.args.target.now (byte_of (memory_of es) c.args.source.now) c.in-Some.block.now c.move_in_block.new.block c.in-Some.ensures.value
    (moved_in es c.args.source.now c.args.target.now c.in-Some.block.now c.move_in_block.new.block c.requires.block c.requires.size c.in-Some.ensures.value c.move_in_block.ensures)
    (c.get_mut.follows.holds c.move_in_block.new.block).0 c.self.invariant

pub returns-clause-memory : goal.returns-clause-memory
returns-clause-memory c =
    let es = c.self.inside.blocks.entries in
    let fs = (c.get_mut.follows.lender c.move_in_block.new.block).entries in
    put_memory es fs c.args.target.now (byte_of (memory_of es) c.args.source.now) c.in-Some.block.now c.move_in_block.new.block c.in-Some.ensures.value
    (moved_in es c.args.source.now c.args.target.now c.in-Some.block.now c.move_in_block.new.block c.requires.block c.requires.size c.in-Some.ensures.value c.move_in_block.ensures)
    (c.get_mut.follows.holds c.move_in_block.new.block).0
    ∙ ap (λ (l : Held). put c.args.target.now (byte_of (memory_of l) c.args.source.now) (memory_of l)) c.self.view_is

pub returns-clause-alike : goal.returns-clause-alike
returns-clause-alike c =
    let es = c.self.inside.blocks.entries in
    let fs = (c.get_mut.follows.lender c.move_in_block.new.block).entries in
    subst (λ (l : Held). AreAlike l fs) c.self.view_is
    (put_alike es fs c.args.target.now (byte_of (memory_of es) c.args.source.now) c.in-Some.block.now c.move_in_block.new.block c.in-Some.ensures.value
    (moved_in es c.args.source.now c.args.target.now c.in-Some.block.now c.move_in_block.new.block c.requires.block c.requires.size c.in-Some.ensures.value c.move_in_block.ensures)
    (c.get_mut.follows.holds c.move_in_block.new.block).0)
