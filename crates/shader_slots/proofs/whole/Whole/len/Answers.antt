use Rattle.std.proofs.Common.{sym, ap, length, ◌∙◌, arith}
use Rattle.shader_slots.proofs.Parts.{words_within}
use Rattle.shader_slots.proofs.whole.Whole.len.Goals as goal

pub returns-clause-count : goal.returns-clause-count
returns-clause-count c =
    let w = c.self.inside in
    sym (words_within w.bytes.items w.from w.to (omega arith)) ∙ ap (λ p. length p.words) c.self.view_is
