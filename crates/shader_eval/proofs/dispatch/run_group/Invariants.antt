use Rattle.std.proofs.Common.{◌≡◌, length, map}
use Rattle.shader_model.specs.Shader.{program_of}
use Rattle.shader_model.specs.Dispatch.{in_group, group_invocations, run_all}
use Rattle.shader_eval.specs.Frames.{IsFor}
use Rattle.shader_eval.proofs.dispatch.run_group.Given as goal

abbrev pub invariant-threads : goal.invariant-threads
invariant-threads l = record {
  sizes : l.threads.sizes ≡ l.shader.group;
  words : run_all (program_of l.shader) (map (in_group l.shader.group l.group) l.threads.left) l.slots.words ≡ run_all (program_of l.shader) (group_invocations l.shader.group l.group) l.initial.slots.words;
  around : l.slots.around ≡ l.initial.slots.around;
  made : IsFor l.frame l.shader;
}

abbrev pub decreases-threads : goal.decreases-threads
decreases-threads l = length l.threads.left
