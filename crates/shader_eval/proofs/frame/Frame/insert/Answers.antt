use Rattle.std.proofs.Common.{ℕ, ap, ◌∙◌}
use Rattle.shader_model.specs.Invocation.{source}
use Rattle.shader_eval.specs.Actions.{field_in}
use Rattle.shader_eval.specs.Frames.{seen}
use Rattle.shader_eval.proofs.Components.{target_of, of_four}
use Rattle.shader_eval.proofs.frame.Frame.insert.Goals as goal

pub returns : goal.returns
returns c =
    let f = c.args.self.now in
    let w = c.args.slots.now.words in
    let i = c.args.instr.now in
    let s = seen f w in
    let g : ℕ → ℕ → ℕ = source c.args.thread.now s i in
    let v = of_four field_in (g 0) (g 1) (g 2) (g 3) c.source-width.result c.source-first.result c.source-a.result c.source-b.result c.each_insert-values.result c.each_insert-values.ensures c.source-width.ensures c.source-first.ensures c.source-a.ensures c.source-b.ensures in
    ap (λ z. seen z w) c.set.ensures ∙ ap (λ z. seen (record f { temps = z }) w) (target_of i.first _ c.each_insert-values.result f.temps v)
