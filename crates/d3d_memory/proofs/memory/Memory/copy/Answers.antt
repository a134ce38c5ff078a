use Rattle.d3d_memory.proofs.Parts as parts
use Rattle.std.proofs.Common.{◌∙◌, ap, ℕ, List, length}
use Rattle.d3d_memory.specs.Contents.{copied}
use Rattle.d3d_memory.proofs.memory.Memory.copy.Goals as goal

pub returns : goal.returns
returns c =
    let long = ap (λ (l : List ℕ). length l) c.bytes-len.ensures in
    parts.copied_whole _ c.args.self.now c.copy.new.self c.self.view_is c.args.target c.args.source (c.copy.ensures ∙ ap (λ (n : ℕ). copied c.self.inside.contents c.args.target 0 c.args.source 0 n) long)
