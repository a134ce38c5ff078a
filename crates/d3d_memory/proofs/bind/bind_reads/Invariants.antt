use Rattle.std.proofs.Common.{◌≡◌}
use Rattle.d3d_memory.specs.Shown.{srv_words, with_reads}
use Rattle.d3d_memory.proofs.Shows.{upto}
use Rattle.d3d_memory.proofs.bind.bind_reads.Given as goal

abbrev pub invariant-slots : goal.invariant-slots
invariant-slots l =
    let b = l.bindings in
    l.slots ≡ with_reads (upto l.slot (srv_words l.memory b l.declared) l.initial.slots.words.reads) l.initial.slots
