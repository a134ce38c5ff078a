use Rattle.std.proofs.Common.{◌≡◌, length}
use Rattle.std.specs.Prelude.{flat_map}
use Rattle.shader_model.specs.Dispatch.{group_invocations, invocations}
use Rattle.spirv_model.specs.Meaning.ModuleDispatch.{group_of, run_all}
use Rattle.spirv_run.specs.Tables.{IsFor}
use Rattle.spirv_run.proofs.dispatch.run_all_groups.Given as goal

abbrev pub invariant-groups : goal.invariant-groups
invariant-groups l = record {
  sizes : l.places.sizes ≡ l.groups;
  words : run_all l.table (flat_map (group_invocations (group_of l.table)) l.places.left) l.slots.words ≡ run_all l.table (invocations l.groups (group_of l.table)) l.initial.slots.words;
  around : l.slots.around ≡ l.initial.slots.around;
  room : IsFor l.frame l.table;
}

abbrev pub decreases-groups : goal.decreases-groups
decreases-groups l = length l.places.left
