use Rattle.std.proofs.Common.{◌≤◌, ℕ, Option, subst}
use Rattle.std.specs.Prelude.{IfSome}
use Rattle.d3d_uses.specs.Ranges.{IsLast}
use Rattle.d3d_uses.proofs.Merged.{joins_already}
use Rattle.d3d_uses.proofs.ranges.join_at.Goals as goal

pub returns-in-Some-clause-joined : goal.returns-in-Some-clause-joined
returns-in-Some-clause-joined c =
    let rs = c.args.ends.now.entries in
    let last = subst (λ (o : Option (ℕ × ℕ)). IsLast rs c.args.to o) c.in-Some.is c.requires.last in
    let before = subst (λ (o : Option (ℕ × ℕ)). IfSome o (λ r. r.0 ≤ c.args.from)) c.in-Some.is c.requires.before in
    joins_already rs c.args.from c.args.to _ _ c.requires.apart c.requires.full last before c.if-to-end.true c.requires.ordered
