use Rattle.std.proofs.Common.{◌≡◌}
use Rattle.d3d_state.specs.Meaning.{objects_of}
use Rattle.d3d_memory.specs.Shown.{constant_words, with_constants}
use Rattle.d3d_memory.proofs.Shows.{upto}
use Rattle.d3d_memory.proofs.bind.bind_constants.Given as goal

abbrev pub invariant-slots : goal.invariant-slots
invariant-slots l =
    let o = objects_of l.objects in
    l.slots ≡ with_constants (upto l.slot (constant_words o l.memory l.bindings l.declared) l.initial.slots.words.constants) l.initial.slots
