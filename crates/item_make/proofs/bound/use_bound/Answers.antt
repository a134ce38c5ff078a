use Rattle.std.proofs.Common.{List, subst}
use Rattle.std.proofs.lemmas.Result.{on_ok_weaker}
use Rattle.dx_types.specs.declared.range.Range.{Range}
use Rattle.d3d_state.specs.Meaning.{objects_of}
use Rattle.batch_make.specs.Making.{Has}
use Rattle.item_make.proofs.Staging.{ranges_are}
use Rattle.item_make.proofs.bound.use_bound.Goals as goal

pub returns : goal.returns
returns c =
    on_ok_weaker c.use_ranges.result
    (λ made. λ part script past m s sized live names h. (
      h.0,
      subst (λ (l : List Range). Has part (record m { staging = l }) c.use_ranges.new.parts)
          (ranges_are script past (objects_of c.args.objects.now) sized c.args.blocks.now m.blocks names c.args.ranges.now m.staging live)
          (made part m h.1),
    ))
    c.use_ranges.ensures
