use Rattle.std.proofs.Common.{ℕ, ap, ◌∙◌}
use Rattle.base_lemmas.specs.IdMap.{insert}
use Rattle.base_lemmas.proofs.CodeMaps.{map_of-insert}
use Rattle.immediate_ctx.specs.Tables.{Numbers}
use Rattle.immediate_ctx.proofs.marks.Marks.mark.Goals as goal

pub returns-clause-ok : goal.returns-clause-ok
returns-clause-ok c =
    map_of-insert (λ (n : ℕ). n) c.self.inside.chunks.entries c.insert.new.self.entries c.args.block c.args.chunk
    c.in_ok-insert.ensures.updates.0
    ∙ ap (λ (m : Numbers). insert m c.args.block c.args.chunk) c.self.view_is
