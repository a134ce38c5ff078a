use Rattle.std.proofs.Common.{sym, subst}
use Rattle.d3d_uses.specs.Summary.{Uses, Forgets}
use Rattle.d3d_uses.proofs.Summaries.{summarises-removed}
use Rattle.d3d_uses.proofs.uses.Uses.removed.Goals as goal

pub returns : goal.returns
returns c =
    subst (λ (u : Uses). Forgets c.args.self.now c.args.id u) (sym c.forget.ensures)
    (λ past res other s. summarises-removed past c.args.self.now c.args.id res other s)
