use Rattle.std.proofs.Common.{sym, ap, subst, ◌∙◌}
use Rattle.d3d_uses.specs.Summary.{BindsMore, held_if}
use Rattle.d3d_uses.specs.declared.held.Held.{Held}
use Rattle.d3d_uses.proofs.Summaries.{put_in}
use Rattle.d3d_uses.proofs.uses.Uses.bound_first.Goals as goal

pub returns-clause-bound : goal.returns-clause-bound
returns-clause-bound c =
    let r = c.args.range.now in (
      c.bind.new.self,
      put_in c.self.inside.held.entries c.insert.new.self.entries c.args.self.now r.res _ c.self.view_is c.in_ok-insert.ensures.updates.0,
      subst (λ (h : Held). BindsMore h c.args.call r.from r.to c.bind.new.self) (c.new-held.ensures ∙ sym (ap held_if c.requires)) c.in_ok-bind.ensures.bound,
    )
