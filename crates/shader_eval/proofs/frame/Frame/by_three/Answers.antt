use Rattle.std.proofs.Common.{ℕ, ap, ◌∙◌}
use Rattle.shader_model.specs.Invocation.{source}
use Rattle.shader_eval.specs.Actions.{three_of}
use Rattle.shader_eval.specs.Frames.{seen}
use Rattle.shader_eval.proofs.Components.{target_of, of_three}
use Rattle.shader_eval.proofs.frame.Frame.by_three.Goals as goal

pub returns : goal.returns
returns c =
    let f = c.args.self.now in
    let w = c.args.slots.now.words in
    let i = c.args.instr.now in
    let s = seen f w in
    let g : ℕ → ℕ → ℕ = source c.args.thread.now s i in
    let v = of_three (three_of c.args.of) (g 0) (g 1) (g 2) c.source-a.result c.source-b.result c.source-c.result c.each_three-values.result c.each_three-values.ensures c.source-a.ensures c.source-b.ensures c.source-c.ensures in
    ap (λ z. seen z w) c.set.ensures ∙ ap (λ z. seen (record f { temps = z }) w) (target_of i.first _ c.each_three-values.result f.temps v)
