use Rattle.std.proofs.Common.{sym, ◌∙◌}
use Rattle.vk_types.specs.declared.command.Work.TheVariants as work
use Rattle.device_memory.specs.Held.{memory_of}
use Rattle.device_memory.specs.Meant.{no_meaning}
use Rattle.device_memory.proofs.Commands.{ran_work, ran_fill}
use Rattle.device_memory.proofs.memory.DeviceMemory.run.Goals as goal

pub returns-in-Fill-clause-memory : goal.returns-in-Fill-clause-memory
returns-in-Fill-clause-memory c =
    ran_fill no_meaning c.args.c.now (memory_of c.args.self.now) (memory_of c.clear.new.self) c.in-Fill.target c.in-Fill.word c.in-Fill.is
    (sym c.is_skipped.ensures ∙ c.if-is_skipped.false) c.clear.ensures.memory

pub returns-in-Clear-clause-memory : goal.returns-in-Clear-clause-memory
returns-in-Clear-clause-memory c =
    ran_work no_meaning c.args.c.now (memory_of c.args.self.now) (memory_of c.clear-in-Clear.new.self) (work.Clear c.in-Clear.target c.in-Clear.words c.in-Clear.unit) c.in-Clear.is
    (sym c.is_skipped.ensures ∙ c.if-is_skipped.false) c.clear-in-Clear.ensures.memory
