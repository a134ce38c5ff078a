use Rattle.std.proofs.Common.{[], true, ap, ◌∙◌}
use Rattle.base_lemmas.specs.IdMap.{insert}
use Rattle.d3d_uses.specs.declared.held.Held.{Held}
use Rattle.d3d_uses.proofs.Summaries.{put_in}
use Rattle.d3d_uses.proofs.uses.Uses.discarded_first.Goals as goal

pub returns-clause-discarded : goal.returns-clause-discarded
returns-clause-discarded c =
    put_in c.self.inside.held.entries c.insert.new.self.entries c.args.self.now c.args.id c.discard.new.self c.self.view_is c.in_ok-insert.ensures.updates.0
    ∙ ap (insert c.args.self.now c.args.id) (c.discard.ensures ∙ ap (λ (h : Held). record h { discarded = true; bound = [] }) c.new-held.ensures)
