use Rattle.std.proofs.Common.{ap, subst, ◌∙◌}
use Rattle.vk_types.specs.Memory.{number_at, put}
use Rattle.device_memory.specs.Held.{Held, AreAlike, memory_of}
use Rattle.device_memory.proofs.Exchanges.{put_memory, put_alike, put_numbered}
use Rattle.device_memory.proofs.memory.DeviceMemory.write.Goals as goal

pub invariant_of-self : goal.invariant_of-self
invariant_of-self c =
    put_numbered c.self.inside.blocks.entries (c.get_mut.follows.lender c.write_block.new.block).entries c.args.target.now (number_at c.args.bytes.now) c.in-Some.block.now c.write_block.new.block c.in-Some.ensures.value
    c.write_block.ensures (c.get_mut.follows.holds c.write_block.new.block).0 c.self.invariant

pub returns-clause-memory : goal.returns-clause-memory
returns-clause-memory c =
    put_memory c.self.inside.blocks.entries (c.get_mut.follows.lender c.write_block.new.block).entries c.args.target.now (number_at c.args.bytes.now) c.in-Some.block.now c.write_block.new.block c.in-Some.ensures.value
    c.write_block.ensures (c.get_mut.follows.holds c.write_block.new.block).0
    ∙ ap (λ (l : Held). put c.args.target.now (number_at c.args.bytes.now) (memory_of l)) c.self.view_is

pub returns-clause-alike : goal.returns-clause-alike
returns-clause-alike c =
    subst (λ (l : Held). AreAlike l (c.get_mut.follows.lender c.write_block.new.block).entries) c.self.view_is
    (put_alike c.self.inside.blocks.entries (c.get_mut.follows.lender c.write_block.new.block).entries c.args.target.now (number_at c.args.bytes.now) c.in-Some.block.now c.write_block.new.block c.in-Some.ensures.value
    c.write_block.ensures (c.get_mut.follows.holds c.write_block.new.block).0)
