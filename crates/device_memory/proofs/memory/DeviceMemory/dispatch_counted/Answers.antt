use Rattle.std.proofs.Common.{sym, ap, subst, ◌∙◌}
use Rattle.std.specs.List.{AllByRecursion}
use Rattle.device_memory.specs.Held.{Held}
use Rattle.device_memory.specs.Binding.{CanLend, given}
use Rattle.device_memory.proofs.Bindings.{can_lend}
use Rattle.device_memory.proofs.Dispatched.{dispatch_leaves, have_slots}
use Rattle.device_memory.proofs.memory.DeviceMemory.dispatch_counted.Goals as goal

pub lend_parts-requires : goal.lend_parts-requires
lend_parts-requires c =
    subst (λ (l : Held). AllByRecursion (CanLend l) c.args.slots.now) (sym c.take_parts.ensures.blocks) (can_lend c.args.self.now c.args.slots.now c.requires.bound c.requires.apart)

pub return_parts-requires : goal.return_parts-requires
return_parts-requires c = have_slots c.args.self.now c.args.slots.now c.requires.bound c.requires.apart

pub returns-clause-memory : goal.returns-clause-memory
returns-clause-memory c =
    (dispatch_leaves c.args.self.now c.take_parts.new.self c.return_parts.new.self c.args.slots.now c.requires.bound c.requires.apart c.args.machine.now c.args.counts
    c.take_parts.new.bound c.lend_parts.new.bound c.run_allowed-count.new.bound c.into_writes-parts.result c.take_parts.ensures.blocks
    (c.take_parts.ensures.bound ∙ ap (given c.args.self.now c.args.slots.now) c.new-bound.ensures) c.lend_parts.ensures
    c.run_allowed-count.ensures.words c.run_allowed-count.ensures.around c.into_writes-parts.ensures.words c.into_writes-parts.ensures.around c.return_parts.ensures).0

pub returns-clause-alike : goal.returns-clause-alike
returns-clause-alike c =
    (dispatch_leaves c.args.self.now c.take_parts.new.self c.return_parts.new.self c.args.slots.now c.requires.bound c.requires.apart c.args.machine.now c.args.counts
    c.take_parts.new.bound c.lend_parts.new.bound c.run_allowed-count.new.bound c.into_writes-parts.result c.take_parts.ensures.blocks
    (c.take_parts.ensures.bound ∙ ap (given c.args.self.now c.args.slots.now) c.new-bound.ensures) c.lend_parts.ensures
    c.run_allowed-count.ensures.words c.run_allowed-count.ensures.around c.into_writes-parts.ensures.words c.into_writes-parts.ensures.around c.return_parts.ensures).1
