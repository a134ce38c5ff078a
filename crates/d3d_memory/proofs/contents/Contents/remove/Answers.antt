use Rattle.std.proofs.Common.{ap, ◌∙◌}
use Rattle.base_lemmas.specs.IdMap.{remove}
use Rattle.base_lemmas.proofs.CodeMaps.{map_of-remove}
use Rattle.d3d_memory.specs.Contents.{Contents}
use Rattle.d3d_memory.proofs.Kept.{items_of}
use Rattle.d3d_memory.proofs.contents.Contents.remove.Goals as goal

pub returns : goal.returns
returns c = map_of-remove items_of c.self.inside.buffers.entries c.remove.new.self.entries c.args.id c.remove.ensures.updates.0 ∙ ap (λ (m : Contents). remove m c.args.id) c.self.view_is
