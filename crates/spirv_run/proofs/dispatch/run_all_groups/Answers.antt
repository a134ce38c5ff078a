use Rattle.std.proofs.Common.{rules, ◌≡◌, ap, ◌∙◌, subst}
use Rattle.std.specs.Prelude.{flat_map}
use Rattle.shader_model.specs.Dispatch.{group_invocations}
use Rattle.shader_model.specs.PlacesLeft.{PlacesLeft, IsBelow}
use Rattle.spirv_model.specs.Meaning.ModuleDispatch.{group_of, run_all}
use Rattle.spirv_run.proofs.Walking.{one_group}
use Rattle.spirv_run.proofs.dispatch.run_all_groups.Goals as goal

pub groups-init : goal.groups-init
groups-init c =
    let w = c.args.table.now in
    record {
      sizes = ap (λ (t : PlacesLeft). t.sizes) c.below-places.ensures;
      words = ap (λ (t : PlacesLeft). run_all w (flat_map (group_invocations (group_of w)) t.left) c.args.slots.now.words) c.below-places.ensures;
      around = search rules;
      room = c.requires.room;
    }

pub run_group-requires-clause-group : goal.run_group-requires-clause-group
run_group-requires-clause-group c = subst (IsBelow c.in-Some.group) c.groups.invariant.sizes c.in-Some.ensures.below

pub groups-preserved : goal.groups-preserved
groups-preserved c =
    let w = c.args.table.now in
    let before = c.groups.invariant in
    let after = c.run_group.ensures in
    record {
      sizes = c.in-Some.ensures.sizes ∙ before.sizes;
      words = one_group w (group_of w) c.in-Some.group c.groups.places.left c.next.new.self.left c.groups.slots.words c.run_group.new.slots.words c.in-Some.ensures.taken after.words ∙ before.words;
      around = after.around ∙ before.around;
      room = after.room;
    }
