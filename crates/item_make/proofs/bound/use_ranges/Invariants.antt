use Rattle.std.proofs.Common.{ℕ, List, take}
use Rattle.dx_types.specs.declared.range.Span.{Span}
use Rattle.core_model.specs.Batching.{Made}
use Rattle.d3d_state.specs.Meaning.{objects_of}
use Rattle.batch_make.specs.Making.{Has}
use Rattle.item_make.specs.Bound.{with_ranges}
use Rattle.item_make.proofs.bound.use_ranges.Given as goal

abbrev pub invariant-each : goal.invariant-each
invariant-each l =
    (part : Span → List ℕ) (m : Made) → Has part m l.initial.parts
    → Has part (record m { staging = with_ranges l.blocks (objects_of l.objects) (take l.r-index l.ranges) m.staging }) l.parts
