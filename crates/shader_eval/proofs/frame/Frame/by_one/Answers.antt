use Rattle.std.proofs.Common.{ℕ, ap, ◌∙◌}
use Rattle.shader_model.specs.Invocation.{source}
use Rattle.shader_eval.specs.Actions.{one_of}
use Rattle.shader_eval.specs.Frames.{seen}
use Rattle.shader_eval.proofs.Components.{target_of, of_one}
use Rattle.shader_eval.proofs.frame.Frame.by_one.Goals as goal

pub returns : goal.returns
returns c =
    let f = c.args.self.now in
    let w = c.args.slots.now.words in
    let i = c.args.instr.now in
    let s = seen f w in
    let g : ℕ → ℕ → ℕ = source c.args.thread.now s i in
    let v = of_one (one_of c.args.of) (g 0) c.source-a.result c.each_one-values.result c.each_one-values.ensures c.source-a.ensures in
    ap (λ z. seen z w) c.set.ensures ∙ ap (λ z. seen (record f { temps = z }) w) (target_of i.first _ c.each_one-values.result f.temps v)
