use Rattle.std.proofs.Common.{◌≡◌, length, map}
use Rattle.shader_model.specs.Dispatch.{in_group, group_invocations}
use Rattle.spirv_model.specs.Meaning.ModuleDispatch.{group_of, run_all}
use Rattle.spirv_run.specs.Tables.{IsFor}
use Rattle.spirv_run.proofs.dispatch.run_group.Given as goal

abbrev pub invariant-threads : goal.invariant-threads
invariant-threads l = record {
  sizes : l.threads.sizes ≡ group_of l.table;
  words : run_all l.table (map (in_group (group_of l.table) l.group) l.threads.left) l.slots.words ≡ run_all l.table (group_invocations (group_of l.table) l.group) l.initial.slots.words;
  around : l.slots.around ≡ l.initial.slots.around;
  room : IsFor l.frame l.table;
}

abbrev pub decreases-threads : goal.decreases-threads
decreases-threads l = length l.threads.left
