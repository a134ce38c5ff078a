use Rattle.std.proofs.Common.{List, ℕ, ap, ◌∙◌}
use Rattle.base_lemmas.specs.IdMap.{insert}
use Rattle.base_lemmas.specs.CodeMap.{map_of}
use Rattle.d3d_model.specs.Regions.{filled}
use Rattle.base_lemmas.proofs.CodeMaps.{map_of-insert}
use Rattle.d3d_memory.specs.Contents.{Contents}
use Rattle.d3d_memory.proofs.Kept.{items_of}
use Rattle.d3d_memory.proofs.contents.Contents.create.Goals as goal

pub returns-clause-ok : goal.returns-clause-ok
returns-clause-ok c =
    map_of-insert items_of c.self.inside.buffers.entries c.insert.new.self.entries c.args.id _ c.in_ok-insert.ensures.updates.0
    ∙ ap (λ (b : List ℕ). insert (map_of items_of c.self.inside.buffers.entries) c.args.id b) c.in_ok-bytes.ensures
    ∙ ap (λ (m : Contents). insert m c.args.id (filled c.args.size c.args.first.now)) c.self.view_is
