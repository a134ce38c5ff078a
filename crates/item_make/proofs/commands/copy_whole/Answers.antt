use Rattle.std.proofs.Common.{◌≡◌, ap, ◌∙◌}
use Rattle.std.proofs.lemmas.Result.{on_ok_weaker}
use Rattle.dx_types.specs.declared.range.Range.{Range}
use Rattle.vk_types.specs.declared.command.Work.TheVariants as work
use Rattle.core_model.specs.Renaming.{work_on}
use Rattle.d3d_state.specs.Meaning.{objects_of}
use Rattle.log_script.specs.Makers.{of_maker}
use Rattle.log_script.specs.Plays.{whole}
use Rattle.item_make.proofs.Played.{whole_is}
use Rattle.item_make.proofs.commands.copy_whole.Goals as goal

pub returns : goal.returns
returns c =
    on_ok_weaker c.predicated.result
    (λ made. λ part script past p m names h.
    let o = objects_of c.args.objects.now in
    let w = work.Copy (whole past o c.args.source) (whole past o c.args.target) in
    let is : c.copy-work.result ≡ work_on m.blocks w =
    c.copy-work.ensures past m.blocks names
    ∙ ap (λ (r : Range). work_on m.blocks (work.Copy r (of_maker past c.whole-to.result))) (ap (of_maker past) c.whole-from.ensures ∙ whole_is past o c.args.source)
    ∙ ap (λ (r : Range). work_on m.blocks (work.Copy (whole past o c.args.source) r)) (ap (of_maker past) c.whole-to.ensures ∙ whole_is past o c.args.target) in
    made part script past p m w names is h)
    c.predicated.ensures
