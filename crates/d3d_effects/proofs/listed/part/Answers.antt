use Rattle.std.proofs.Common.{◌∙◌}
use Rattle.d3d_effects.proofs.Parts.{part_at_start, part_behind}
use Rattle.d3d_effects.proofs.listed.part.Goals as goal
use Rattle.d3d_effects.proofs.listed.part.Goals.{then-item-eq0, else-item-eq0}

pub returns : goal.returns
returns c =
    elim c.if-item-eq0.branch [
      | then-item-eq0 w ↦
          part_at_start c.args.ranges.now c.between.result.now c.args.ends.now c.args.item c.end_of.result c.if-item-eq0.start c.between.ensures c.end_of.ensures w.if-item-eq0.true w.start-is
      | else-item-eq0 w ↦
          part_behind c.args.ranges.now c.between.result.now c.args.ends.now c.args.item c.end_of.result c.if-item-eq0.start c.between.ensures c.end_of.ensures w.if-item-eq0.false (w.start-is ∙ w.end_of-start.ensures)
    ]
