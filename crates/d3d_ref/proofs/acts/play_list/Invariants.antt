use Rattle.std.proofs.Common.{◌≡◌, ◌-◌, length, take}
use Rattle.d3d_model.specs.Binding.{default_bindings}
use Rattle.d3d_model.specs.D3dState.{calls_of_list}
use Rattle.d3d_state.specs.Meaning.{objects_of}
use Rattle.d3d_effects.specs.Listed.{bindings_after}
use Rattle.d3d_memory.specs.Limits.{HasRoom}
use Rattle.d3d_ref.specs.Runs.{runs_from}
use Rattle.d3d_ref.proofs.acts.play_list.Given as goal

abbrev pub invariant-calls : goal.invariant-calls
invariant-calls l =
    let o = objects_of l.objects in
    let cs = calls_of_list o l.list in
    record {
      set : l.bindings ≡ bindings_after o default_bindings (take l.i cs);
      ran : l.memory ≡ runs_from o default_bindings l.initial.memory (take l.i cs);
      room : HasRoom l.memory (length cs - l.i);
    }
