use Rattle.std.proofs.Common.{ℕ, ap, ◌∙◌}
use Rattle.std.specs.Prelude.{slice_index}
use Rattle.shader_model.specs.Invocation.{source, with_target}
use Rattle.shader_eval.specs.Actions.{first_of_pair, second_of_pair}
use Rattle.shader_eval.specs.Frames.{seen}
use Rattle.shader_eval.proofs.Components.{target_of, of_two}
use Rattle.shader_eval.proofs.frame.Frame.by_pair.Goals as goal

pub returns : goal.returns
returns c =
    let f = c.args.self.now in
    let w = c.args.slots.now.words in
    let i = c.args.instr.now in
    let s = seen f w in
    let g : ℕ → ℕ → ℕ = source c.args.thread.now s i in
    let r = c.each_pair-values in
    let v = of_two (first_of_pair c.args.of) (g 0) (g 1) c.source-a.result c.source-b.result r.result.0 r.ensures.first c.source-a.ensures c.source-b.ensures in
    let u = of_two (second_of_pair c.args.of) (g 0) (g 1) c.source-a.result c.source-b.result r.result.1 r.ensures.second c.source-a.ensures c.source-b.ensures in
    let f2 = c.set.new.self in
    ap (λ z. seen z w) c.set-2.ensures
    ∙ ap (λ z. seen (record z { temps = with_target i.second (λ k. slice_index r.result.1 k) z.temps }) w) c.set.ensures
    ∙ ap (λ z. seen (record f { temps = z }) w) (ap (with_target i.second (λ k. slice_index r.result.1 k)) (target_of i.first _ r.result.0 f.temps v) ∙ target_of i.second _ r.result.1 _ u)
