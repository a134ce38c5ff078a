use Rattle.std.proofs.Common.{ap, ◌∙◌}
use Rattle.d3d_uses.specs.declared.held.Held.{Held}
use Rattle.d3d_uses.proofs.Summaries.{found_some, found_none}
use Rattle.d3d_uses.proofs.uses.Uses.was_discarded.Goals as goal

pub returns-in-Some : goal.returns-in-Some
returns-in-Some c = λ calls s none.
    ap (λ (h : Held). h.discarded) (found_some c.self.inside.held.entries c.args.self.now c.args.id c.in-Some.held.now c.self.view_is c.in-Some.ensures.value) ∙ s.discarded none

pub returns-in-None : goal.returns-in-None
returns-in-None c = λ calls s none.
    ap (λ (h : Held). h.discarded) (found_none c.self.inside.held.entries c.args.self.now c.args.id c.self.view_is c.in-None.ensures.value) ∙ s.discarded none
