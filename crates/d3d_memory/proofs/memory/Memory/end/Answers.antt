use Rattle.d3d_memory.proofs.Parts as parts
use Rattle.std.proofs.Common.{◌∙◌, ℕ, Option, ap}
use Rattle.std.specs.Prelude.{unwrap_or}
use Rattle.base_lemmas.specs.IdMap.{IdMap, insert}
use Rattle.base_lemmas.specs.CodeMap.{map_of}
use Rattle.base_lemmas.proofs.CodeMaps.{map_of-insert}
use Rattle.d3d_memory.proofs.memory.Memory.end.Goals as goal

pub returns-clause-ok : goal.returns-clause-ok
returns-clause-ok c =
    let old : IdMap ℕ = map_of (λ n. n) c.self.inside.counts.entries in
    let found = parts.value_at c.self.inside.begun_at.entries c.args.query c.copied.result (c.copied.ensures ∙ c.get.ensures.value) in
    parts.ended _ c.args.self.now _ c.args.query c.unwrap_or-begun_at.result c.self.view_is
    (c.unwrap_or-begun_at.ensures ∙ ap (λ (o : Option ℕ). unwrap_or o c.self.inside.ran) found)
    (
    map_of-insert (λ n. n) c.self.inside.counts.entries c.insert.new.self.entries c.args.query c.saturating_sub-count.result c.in_ok-insert.ensures.updates.0
    ∙ ap (λ (k : ℕ). insert old c.args.query k) c.saturating_sub-count.ensures
    )
