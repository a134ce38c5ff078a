use Rattle.std.proofs.Common.{◌≡◌, length}
use Rattle.std.specs.Prelude.{flat_map}
use Rattle.shader_model.specs.Shader.{program_of}
use Rattle.shader_model.specs.Dispatch.{group_invocations, invocations, run_all}
use Rattle.shader_eval.specs.Frames.{IsFor}
use Rattle.shader_eval.proofs.dispatch.run_all_groups.Given as goal

abbrev pub invariant-groups : goal.invariant-groups
invariant-groups l = record {
  sizes : l.places.sizes ≡ l.fn.groups;
  words : run_all (program_of l.shader) (flat_map (group_invocations l.shader.group) l.places.left) l.slots.words ≡ run_all (program_of l.shader) (invocations l.fn.groups l.shader.group) l.initial.slots.words;
  around : l.slots.around ≡ l.initial.slots.around;
  made : IsFor l.frame l.shader;
}

abbrev pub decreases-groups : goal.decreases-groups
decreases-groups l = length l.places.left
