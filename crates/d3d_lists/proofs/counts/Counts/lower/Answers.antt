use Rattle.std.proofs.Common.{◌-◌, ap, ◌∙◌}
use Rattle.d3d_lists.proofs.Numbers.{lowered_by}
use Rattle.d3d_lists.proofs.counts.Counts.lower.Goals as goal

pub returns : goal.returns
returns c = lowered_by c.args.self.now c.set.new.self c.args.id c.saturating_sub.result (c.saturating_sub.ensures ∙ ap (λ n. n - 1) c.get-count.ensures) c.set.ensures
