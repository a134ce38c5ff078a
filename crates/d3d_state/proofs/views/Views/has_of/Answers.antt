use Rattle.std.proofs.Common.{ap, ◌∙◌}
use Rattle.std.specs.Prelude.{nat_lt}
use Rattle.d3d_state.specs.Codes.{Views}
use Rattle.d3d_state.specs.Counted.{views_of}
use Rattle.d3d_state.proofs.Counts.{has-views_of}
use Rattle.d3d_state.proofs.views.Views.has_of.Goals as goal

pub returns : goal.returns
returns c =
    ap (nat_lt 0) (c.count_in.ensures ∙ c.self.invariant.of_buffer c.args.res ∙ ap (λ (m : Views). views_of m c.args.res) c.self.view_is)
    ∙ has-views_of c.args.self.now c.args.res
