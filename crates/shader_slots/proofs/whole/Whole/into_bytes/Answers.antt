use Rattle.std.proofs.Common.{sym, ap, ◌∙◌, arith}
use Rattle.shader_slots.specs.Part.{bytes_of}
use Rattle.shader_slots.proofs.Parts.{bytes_back}
use Rattle.shader_slots.proofs.whole.Whole.into_bytes.Goals as goal

pub returns : goal.returns
returns c =
    let w = c.self.inside in
    sym (bytes_back w.bytes.items w.from w.to (omega arith) (omega arith) (omega arith) (λ i lt. omega arith)) ∙ ap bytes_of c.self.view_is
