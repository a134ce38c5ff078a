use Rattle.std.proofs.Common.{ap, ◌∙◌, ◌*◌, ℕ}
use Rattle.d3d_memory.proofs.Clearing.{cleared_bytes}
use Rattle.d3d_memory.proofs.clear.clear.Goals as goal

pub returns : goal.returns
returns c =
    cleared_bytes c.args.bytes.now c.put_repeated.new.bytes c.args.v.now c.args.values.now c.spell-spelled.result (c.from.result * c.from-2.result) c.elements.result c.element_words.result
    c.told-values
    c.spell-spelled.ensures
    (ap (λ (n : ℕ). n * c.from-2.result) c.from.ensures ∙ ap (λ (n : ℕ). c.args.v.now.first * n) c.from-2.ensures)
    c.elements.ensures.value
    c.element_words.ensures.value
    c.put_repeated.ensures
