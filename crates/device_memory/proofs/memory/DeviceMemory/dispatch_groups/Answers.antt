use Rattle.std.proofs.Common.{ℕ, List, ap, ◌∙◌}
use Rattle.vk_types.specs.Effects.{put_slots, slots_words}
use Rattle.device_memory.specs.Held.{memory_of}
use Rattle.device_memory.specs.Meant.{module_meaning_of}
use Rattle.device_memory.proofs.memory.DeviceMemory.dispatch_groups.Goals as goal

pub returns-clause-memory : goal.returns-clause-memory
returns-clause-memory c =
    let m = memory_of c.args.self.now in
    let ss = c.args.slots.now in
    c.dispatch_counted.ensures.memory
    ∙ ap (λ (counts : List ℕ). put_slots ((module_meaning_of c.args.machine.now).words 0 counts (slots_words m ss)) ss m) c.counts-counts.ensures
