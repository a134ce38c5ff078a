use Rattle.d3d_memory.proofs.Parts as parts
use Rattle.std.proofs.Common.{◌∙◌, ℕ, Option, ap}
use Rattle.std.specs.Prelude.{unwrap_or}
use Rattle.d3d_model.specs.D3dState.{Memory, count_of}
use Rattle.d3d_memory.proofs.memory.Memory.count.Goals as goal

pub returns : goal.returns
returns c =
    let found = parts.value_at c.self.inside.counts.entries c.args.query c.copied.result (c.copied.ensures ∙ c.get.ensures.value) in
    c.unwrap_or.ensures ∙ ap (λ (o : Option ℕ). unwrap_or o 0) found ∙ ap (λ (m : Memory). count_of m c.args.query) c.self.view_is
