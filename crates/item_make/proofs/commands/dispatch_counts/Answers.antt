use Rattle.std.proofs.Common.{ap, ◌∙◌}
use Rattle.std.proofs.lemmas.Result.{on_ok_weaker}
use Rattle.dx_types.specs.declared.range.Range.{Range}
use Rattle.dx_types.specs.declared.range.ResRange.{ResRange}
use Rattle.vk_types.specs.declared.command.Groups.TheVariants as groups
use Rattle.core_model.specs.Renaming.{range_on}
use Rattle.d3d_state.specs.Meaning.{objects_of}
use Rattle.log_script.specs.Makers.{of_maker, bytes_from}
use Rattle.log_script.specs.Plays.{dispatch}
use Rattle.item_make.proofs.commands.dispatch_counts.Goals as goal

pub returns : goal.returns
returns c =
    on_ok_weaker c.predicated.result
    (λ made. λ part script past p m names h.
    let counts = groups.Indirect (bytes_from past c.args.res c.args.offset 12) in
    made part script past p m (dispatch past (objects_of c.args.objects.now) c.args.set.now counts) names
    (c.in_ok-work.ensures past m.blocks counts names
    (ap (λ (r : Range). groups.Indirect r)
    (c.range_on-at.ensures.by_maker past m.blocks names ∙ ap (λ (r : ResRange). range_on m.blocks (of_maker past r)) c.bytes_at-counts.ensures)))
    h)
    c.predicated.ensures
