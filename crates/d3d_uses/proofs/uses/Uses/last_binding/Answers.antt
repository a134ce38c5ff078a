use Rattle.std.proofs.Common.{ap, ◌∙◌}
use Rattle.d3d_uses.specs.declared.held.Held.{Held}
use Rattle.d3d_uses.proofs.Summaries.{found_some, found_none}
use Rattle.d3d_uses.proofs.uses.Uses.last_binding.Goals as goal

pub returns-in_err-get : goal.returns-in_err-get
returns-in_err-get c = λ calls s.
    c.from_residual.ensures
    ∙ ap (λ (h : Held). h.last) (found_none c.self.inside.held.entries c.args.self.now c.args.id c.self.view_is c.in_err-get.ensures.value)
    ∙ s.last

pub returns : goal.returns
returns c = λ calls s.
    ap (λ (h : Held). h.last) (found_some c.self.inside.held.entries c.args.self.now c.args.id c.in_ok-get.field-0.now c.self.view_is c.in_ok-get.ensures.value) ∙ s.last
