use Rattle.std.proofs.Common.{◌≡◌, ◌==◌, ap, ◌∙◌}
use Rattle.std.proofs.lemmas.Bool.{eq-eqb, ne_eqb}
use Rattle.std.proofs.lemmas.Result.{on_ok_weaker}
use Rattle.dx_types.specs.declared.range.ResRange.{ResRange}
use Rattle.vk_types.specs.declared.command.Work.TheVariants as work
use Rattle.core_model.specs.Renaming.{work_on}
use Rattle.core_model.specs.Script.{Set_state}
use Rattle.log_script.specs.Makers.{of_maker, bytes_from}
use Rattle.log_script.specs.Plays.{predicated}
use Rattle.item_make.proofs.Played.{if_play, else_play}
use Rattle.item_make.proofs.commands.copy_region.Goals as goal

pub returns-then-length-eq0 : goal.returns-then-length-eq0
returns-then-length-eq0 c = λ part script past o p m names h.
    let w = work.Copy (bytes_from past c.args.source c.args.source_offset c.args.length) (bytes_from past c.args.target c.args.target_offset c.args.length) in
    if_play part script c.args.call p _ _ m (c.args.length == 0) Set_state (predicated past c.args.set.now.predicate w) (eq-eqb c.args.length 0 c.if-length-eq0.true) h

pub returns : goal.returns
returns c =
    on_ok_weaker c.predicated.result
    (λ made. λ part script past o p m names h.
    let w = work.Copy (bytes_from past c.args.source c.args.source_offset c.args.length) (bytes_from past c.args.target c.args.target_offset c.args.length) in
    let is : c.copy-work.result ≡ work_on m.blocks w =
    c.copy-work.ensures past m.blocks names
    ∙ ap (λ (r : ResRange). work_on m.blocks (work.Copy (of_maker past r) (of_maker past c.bytes_at-to.result))) c.bytes_at-from.ensures
    ∙ ap (λ (r : ResRange). work_on m.blocks (work.Copy (bytes_from past c.args.source c.args.source_offset c.args.length) (of_maker past r))) c.bytes_at-to.ensures in
    else_play part script c.args.call p _ _ m (c.args.length == 0) Set_state (predicated past c.args.set.now.predicate w) (ne_eqb c.args.length 0 c.if-length-eq0.false)
    (made part script past p m w names is h))
    c.predicated.ensures
