use Rattle.d3d_memory.proofs.Parts as parts
use Rattle.base_lemmas.proofs.CodeMaps.{map_of-remove}
use Rattle.d3d_memory.proofs.memory.Memory.forget_query.Goals as goal

pub returns : goal.returns
returns c =
    parts.forgotten _ c.args.self.now _ _ c.args.query c.self.view_is
    (map_of-remove (λ n. n) c.self.inside.begun_at.entries c.remove.new.self.entries c.args.query c.remove.ensures.updates.0)
    (map_of-remove (λ n. n) c.self.inside.counts.entries c.remove-2.new.self.entries c.args.query c.remove-2.ensures.updates.0)
