use Rattle.std.proofs.Common.{ap, ◌∙◌}
use Rattle.d3d_uses.specs.Ranges.{meet_any}
use Rattle.d3d_uses.specs.declared.held.Held.{Held}
use Rattle.d3d_uses.proofs.Summaries.{found_some, found_none}
use Rattle.d3d_uses.proofs.uses.Uses.is_bound.Goals as goal

pub returns-in-Some : goal.returns-in-Some
returns-in-Some c = λ calls s.
    let r = c.args.range.now in
    c.meets.ensures
    ∙ ap (λ (h : Held). meet_any h.bound r.from r.to) (found_some c.self.inside.held.entries c.args.self.now r.res c.in-Some.held.now c.self.view_is c.in-Some.ensures.value)
    ∙ s.bound r.from r.to

pub returns-in-None : goal.returns-in-None
returns-in-None c = λ calls s.
    let r = c.args.range.now in
    ap (λ (h : Held). meet_any h.bound r.from r.to) (found_none c.self.inside.held.entries c.args.self.now r.res c.self.view_is c.in-None.ensures.value)
    ∙ s.bound r.from r.to
