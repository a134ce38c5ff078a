use Rattle.std.proofs.Common.{◌≡◌}
use Rattle.d3d_memory.specs.Shown.{uav_words, uav_around, with_writes}
use Rattle.d3d_memory.proofs.Shows.{upto}
use Rattle.d3d_memory.proofs.bind.bind_writes.Given as goal

abbrev pub invariant-slots : goal.invariant-slots
invariant-slots l =
    let b = l.bindings in
    l.slots ≡ with_writes (upto l.slot (uav_words l.memory b l.declared) l.initial.slots.words.writes) (upto l.slot (uav_around b l.declared) l.initial.slots.around) l.initial.slots
