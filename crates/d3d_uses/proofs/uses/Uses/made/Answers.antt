use Rattle.std.proofs.Common.{sym, subst}
use Rattle.d3d_uses.specs.Summary.{Uses, RecordsMaking}
use Rattle.d3d_uses.proofs.Summaries.{summarises-made}
use Rattle.d3d_uses.proofs.uses.Uses.made.Goals as goal

pub returns : goal.returns
returns c =
    subst (λ (u : Uses). RecordsMaking c.args.self.now c.args.id u) (sym c.forget.ensures)
    (λ call past res before. summarises-made call past c.args.self.now c.args.id res before)
