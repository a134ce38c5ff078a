use Rattle.std.proofs.Common.{ℕ, ap, ◌∙◌}
use Rattle.base_lemmas.specs.IdMap.{insert}
use Rattle.base_lemmas.proofs.CodeMaps.{map_of-insert}
use Rattle.immediate_ctx.specs.Tables.{Numbers}
use Rattle.immediate_ctx.proofs.values.Values.set.Goals as goal

pub returns : goal.returns
returns c =
    map_of-insert (λ (n : ℕ). n) c.self.inside.counts.entries c.insert.new.self.entries c.args.v.now.query
    c.args.v.now.value c.in_ok-insert.ensures.updates.0
    ∙ ap (λ (m : Numbers). insert m c.args.v.now.query c.args.v.now.value) c.self.view_is
