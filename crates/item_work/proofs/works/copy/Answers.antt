use Rattle.std.proofs.Common.{ap, ◌∙◌}
use Rattle.dx_types.specs.declared.range.Range.{Range}
use Rattle.vk_types.specs.declared.command.Work.TheVariants as work
use Rattle.core_model.specs.Renaming.{range_on}
use Rattle.log_script.specs.Makers.{of_maker}
use Rattle.item_work.proofs.works.copy.Goals as goal

pub returns : goal.returns
returns c = λ past of names.
    ap (λ (r : Range). work.Copy r c.range_on-to.result) (c.range_on-from.ensures.by_maker past of names)
    ∙ ap (λ (r : Range). work.Copy (range_on of (of_maker past c.args.source.now)) r) (c.range_on-to.ensures.by_maker past of names)
