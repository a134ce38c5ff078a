use Rattle.d3d_memory.proofs.Parts as parts
use Rattle.base_lemmas.proofs.CodeMaps.{map_of-insert}
use Rattle.d3d_memory.proofs.memory.Memory.begin.Goals as goal

pub returns-clause-ok : goal.returns-clause-ok
returns-clause-ok c =
    parts.begun _ c.args.self.now _ c.args.query c.self.view_is (map_of-insert (λ n. n) c.self.inside.begun_at.entries c.insert.new.self.entries c.args.query c.self.inside.ran c.in_ok-insert.ensures.updates.0)
