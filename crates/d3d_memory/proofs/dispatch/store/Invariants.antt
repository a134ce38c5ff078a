use Rattle.std.proofs.Common.{◌≡◌, drop, map}
use Rattle.shader_slots.specs.Bound.{words_bound}
use Rattle.d3d_model.specs.Memory.{stored, uavs_shown}
use Rattle.d3d_memory.proofs.dispatch.store.Given as goal

abbrev pub invariant-slots : goal.invariant-slots
invariant-slots l =
    let shown = uavs_shown (l.bindings) l.declared in
    record {
      parts : drop l.slot l.parts ≡ drop l.slot l.initial.parts;
      stored : stored l.memory (drop l.slot shown) (map words_bound (drop l.slot l.initial.parts)) ≡ stored l.initial.memory shown (map words_bound l.initial.parts);
    }
