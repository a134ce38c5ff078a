use Rattle.std.proofs.Common.{ap, ◌∙◌}
use Rattle.d3d_uses.specs.Ranges.{Ranges, meet_any}
use Rattle.d3d_uses.proofs.Merged.{none_meets, none_before, last_decides}
use Rattle.d3d_uses.proofs.ranges.Ranges.meets.Goals as goal

pub returns-then-to-from : goal.returns-then-to-from
returns-then-to-from c = none_meets c.args.self.now c.args.from c.args.to c.if-to-from.true

pub returns-in-Some : goal.returns-in-Some
returns-in-Some c =
    last_decides c.self.inside.ends.entries c.args.from c.args.to _ c.in-Some.end c.last_until.ensures.ordered c.self.invariant c.if-to-from.false c.in-Some.ensures.last
    ∙ ap (λ (rs : Ranges). meet_any rs c.args.from c.args.to) c.self.view_is

pub returns-in-None : goal.returns-in-None
returns-in-None c =
    none_before c.self.inside.ends.entries c.args.from c.args.to c.last_until.ensures.ordered c.if-to-from.false c.in-None.ensures.last
    ∙ ap (λ (rs : Ranges). meet_any rs c.args.from c.args.to) c.self.view_is
