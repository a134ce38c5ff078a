use Rattle.std.proofs.Common.{rules, ◌≡◌, ap, ◌∙◌}
use Rattle.std.specs.Prelude.{flat_map}
use Rattle.shader_model.specs.Shader.{program_of}
use Rattle.shader_model.specs.Dispatch.{group_invocations, run_all}
use Rattle.shader_model.specs.PlacesLeft.{PlacesLeft}
use Rattle.shader_eval.proofs.Walking.{one_group}
use Rattle.shader_eval.proofs.dispatch.run_all_groups.Goals as goal

pub groups-init : goal.groups-init
groups-init c =
    let p = program_of c.args.shader.now in
    let size = c.args.shader.now.group in
    record {
      sizes = ap (λ (t : PlacesLeft). t.sizes) c.below-places.ensures;
      words = ap (λ (t : PlacesLeft). run_all p (flat_map (group_invocations size) t.left) c.args.slots.now.words) c.below-places.ensures;
      around = search rules;
      made = c.requires.made;
    }

pub groups-preserved : goal.groups-preserved
groups-preserved c =
    let p = program_of c.args.shader.now in
    let size = c.args.shader.now.group in
    let before = c.groups.invariant in
    let after = c.run_group.ensures in
    record {
      sizes = c.in-Some.ensures.sizes ∙ before.sizes;
      words = one_group p size c.in-Some.group c.groups.places.left c.next.new.self.left c.groups.slots.words c.run_group.new.slots.words c.in-Some.ensures.taken after.words ∙ before.words;
      around = after.around ∙ before.around;
      made = after.made;
    }
