use Rattle.std.proofs.Common.{◌≡◌, [], length}
use Rattle.std.specs.List.{All}
use Rattle.d3d_model.specs.D3dState.{Objects}
use Rattle.d3d_effects.specs.Listed.{KeepsList}
use Rattle.d3d_effects.specs.declared.listed.ListUses.{ListUses}
use Rattle.d3d_plan.proofs.kept.Kept.new.Given as goal

abbrev pub invariant-contexts : goal.invariant-contexts
invariant-contexts l = record {
  many : length l.opened.items ≡ l._i;
  none : All (λ (d : ListUses). (o : Objects) → KeepsList o [] d) l.opened.items;
}
