use Rattle.std.proofs.Common.{rules, ◌≡◌, map, ap, ◌∙◌, subst}
use Rattle.shader_model.specs.Dispatch.{in_group}
use Rattle.shader_model.specs.PlacesLeft.{PlacesLeft, IsBelow, all_left}
use Rattle.spirv_model.specs.Meaning.ModuleDispatch.{group_of, run_all}
use Rattle.spirv_run.proofs.Walking.{one_thread}
use Rattle.spirv_run.proofs.dispatch.run_group.Goals as goal

pub threads-init : goal.threads-init
threads-init c =
    let w = c.args.table.now in
    let size = group_of w in
    let all : c.below-threads.result ≡ all_left size = c.below-threads.ensures ∙ ap all_left c.group.ensures in
    record {
      sizes = ap (λ (t : PlacesLeft). t.sizes) all;
      words = ap (λ (t : PlacesLeft). run_all w (map (in_group size c.args.group) t.left) c.args.slots.now.words) all;
      around = search rules;
      room = c.requires.room;
    }

pub run_thread-requires-clause-thread : goal.run_thread-requires-clause-thread
run_thread-requires-clause-thread c = subst (IsBelow c.in-Some.thread) c.threads.invariant.sizes c.in-Some.ensures.below

pub threads-preserved : goal.threads-preserved
threads-preserved c =
    let w = c.args.table.now in
    let before = c.threads.invariant in
    let after = c.run_thread.ensures in
    record {
      sizes = c.in-Some.ensures.sizes ∙ before.sizes;
      words = one_thread w (group_of w) c.args.group c.in-Some.thread c.threads.threads.left c.next.new.self.left c.threads.slots.words c.run_thread.new.slots.words c.in-Some.ensures.taken after.words ∙ before.words;
      around = after.around ∙ before.around;
      room = after.room;
    }
