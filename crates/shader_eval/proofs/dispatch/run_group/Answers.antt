use Rattle.std.proofs.Common.{rules, ◌≡◌, map, ap, ◌∙◌}
use Rattle.shader_model.specs.Shader.{program_of}
use Rattle.shader_model.specs.Invocation.{invoked}
use Rattle.shader_model.specs.Dispatch.{in_group, run_all}
use Rattle.shader_model.specs.PlacesLeft.{PlacesLeft, all_left}
use Rattle.shader_eval.proofs.Walking.{one_thread}
use Rattle.shader_eval.proofs.dispatch.run_group.Goals as goal

pub threads-init : goal.threads-init
threads-init c =
    let p = program_of c.args.shader.now in
    let size = c.args.shader.now.group in
    let all : c.below-threads.result ≡ all_left size = c.below-threads.ensures ∙ ap all_left c.group-size.ensures in
    record {
      sizes = ap (λ (t : PlacesLeft). t.sizes) all;
      words = ap (λ (t : PlacesLeft). run_all p (map (in_group size c.args.group) t.left) c.args.slots.now.words) all;
      around = search rules;
      made = c.requires.made;
    }

pub threads-preserved : goal.threads-preserved
threads-preserved c =
    let p = program_of c.args.shader.now in
    let size = c.args.shader.now.group in
    let g = c.args.group in
    let t = c.in-Some.thread in
    let s = c.threads.slots.words in
    let before = c.threads.invariant in
    let after = c.invoke.ensures in
    let one = after.words ∙ ap (λ z. invoked p (in_group z g t) s) c.group-size.ensures in
    record {
      sizes = c.in-Some.ensures.sizes ∙ before.sizes;
      words = one_thread p size g t c.threads.threads.left c.next.new.self.left s c.invoke.new.slots.words c.in-Some.ensures.taken one ∙ before.words;
      around = after.around ∙ before.around;
      made = after.made;
    }
