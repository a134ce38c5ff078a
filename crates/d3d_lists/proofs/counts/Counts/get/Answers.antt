use Rattle.std.proofs.Common.{ℕ, Option, ap, sym, ◌∙◌}
use Rattle.std.specs.Prelude.{unwrap_or}
use Rattle.d3d_lists.proofs.Numbers.{found}
use Rattle.d3d_lists.proofs.counts.Counts.get.Goals as goal

pub returns : goal.returns
returns c =
    c.unwrap_or.ensures
    ∙ ap (λ (o : Option ℕ). unwrap_or o 0) (sym (found c.self.inside.counts.entries c.args.self.now c.args.id c.copied.result c.self.view_is (c.copied.ensures ∙ c.get.ensures.value)))
