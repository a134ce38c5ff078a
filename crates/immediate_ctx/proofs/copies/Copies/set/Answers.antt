use Rattle.std.proofs.Common.{List, ℕ, ap, ◌∙◌}
use Rattle.base_lemmas.specs.IdMap.{insert}
use Rattle.base_lemmas.proofs.CodeMaps.{map_of-insert}
use Rattle.immediate_ctx.specs.Tables.{Bytes}
use Rattle.immediate_ctx.proofs.copies.Copies.set.Goals as goal

pub returns : goal.returns
returns c =
    map_of-insert (λ (n : (List ℕ)). n) c.self.inside.blocks.entries c.insert.new.self.entries c.args.s.block
    c.args.s.bytes c.in_ok-insert.ensures.updates.0
    ∙ ap (λ (m : Bytes). insert m c.args.s.block c.args.s.bytes) c.self.view_is
