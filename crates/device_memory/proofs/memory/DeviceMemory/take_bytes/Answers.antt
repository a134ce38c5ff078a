use Rattle.std.proofs.Common.{[], ap, sym, subst, ◌∙◌}
use Rattle.std.specs.List.{AllByRecursion}
use Rattle.std.specs.Map.{set_value}
use Rattle.device_memory.specs.Held.{Held, IsNumbered}
use Rattle.device_memory.specs.Writes.{exchanged}
use Rattle.device_memory.proofs.Exchanges.{under, exchanged_none, exchanged_set, numbered_exchanged}
use Rattle.device_memory.proofs.memory.DeviceMemory.take_bytes.Goals as goal
use Rattle.device_memory.proofs.memory.DeviceMemory.take_bytes.Goals.{in-Some, in-None}

pub returns-clause-rest : goal.returns-clause-rest
returns-clause-rest c =
    let es = c.self.inside.blocks.entries in
    elim c.match-get_mut.branch [
      | in-Some w ↦ rw w.self-inside-is (
          (c.get_mut.follows.holds w.take_bytes.new.self).0
          ∙ ap (set_value (under c.args.number) es) w.take_bytes.ensures.rest
          ∙ exchanged_set c.args.number [] w.in-Some.block.now es w.in-Some.ensures.value
          ∙ ap (exchanged c.args.number []) c.self.view_is
          )
      | in-None w ↦ rw (w.self-inside-is, c.get_mut.follows.holds-at-none) (exchanged_none c.args.number [] es w.in-None.ensures.value ∙ ap (exchanged c.args.number []) c.self.view_is)
    ]

pub invariant_of-self : goal.invariant_of-self
invariant_of-self c =
    let es = c.self.inside.blocks.entries in
    elim c.match-get_mut.branch [
      | in-Some w ↦ rw w.self-inside-is (
          subst (λ (l : Held). AllByRecursion IsNumbered l)
          (sym ((c.get_mut.follows.holds w.take_bytes.new.self).0 ∙ ap (set_value (under c.args.number) es) w.take_bytes.ensures.rest ∙ exchanged_set c.args.number [] w.in-Some.block.now es w.in-Some.ensures.value))
          (numbered_exchanged c.args.number [] es c.self.invariant)
          )
      | in-None w ↦ rw (w.self-inside-is, c.get_mut.follows.holds-at-none) c.self.invariant
    ]
