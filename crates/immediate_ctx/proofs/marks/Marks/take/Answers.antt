use Rattle.std.proofs.Common.{ℕ, ap, ◌∙◌}
use Rattle.base_lemmas.specs.IdMap.{remove}
use Rattle.base_lemmas.proofs.CodeMaps.{map_of-remove}
use Rattle.immediate_ctx.specs.Tables.{Numbers}
use Rattle.immediate_ctx.proofs.marks.Marks.take.Goals as goal

pub returns : goal.returns
returns c =
    map_of-remove (λ (n : ℕ). n) c.self.inside.chunks.entries c.remove.new.self.entries c.args.block
    c.remove.ensures.updates.0
    ∙ ap (λ (m : Numbers). remove m c.args.block) c.self.view_is
