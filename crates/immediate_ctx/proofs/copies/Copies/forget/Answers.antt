use Rattle.std.proofs.Common.{List, ℕ, ap, ◌∙◌}
use Rattle.base_lemmas.specs.IdMap.{remove}
use Rattle.base_lemmas.proofs.CodeMaps.{map_of-remove}
use Rattle.immediate_ctx.specs.Tables.{Bytes}
use Rattle.immediate_ctx.proofs.copies.Copies.forget.Goals as goal

pub returns : goal.returns
returns c =
    map_of-remove (λ (n : (List ℕ)). n) c.self.inside.blocks.entries c.remove.new.self.entries c.args.block
    c.remove.ensures.updates.0
    ∙ ap (λ (m : Bytes). remove m c.args.block) c.self.view_is
