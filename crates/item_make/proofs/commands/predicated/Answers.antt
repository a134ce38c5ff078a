use Rattle.std.proofs.Common.{sym, ◌∙◌}
use Rattle.item_make.proofs.Played.{skipped_command, made_command}
use Rattle.item_make.proofs.commands.predicated.Goals as goal

pub returns-then-skips : goal.returns-then-skips
returns-then-skips c = λ part script past p m w names is h.
    skipped_command part script c.args.call p _ _ past c.args.set.now.predicate m w (sym c.skips.ensures ∙ c.if-skips.true) h

pub returns : goal.returns
returns c = λ part script past p m w names is h.
    made_command part script c.args.call p _ _ past c.args.set.now.predicate m w c.args.work c.condition-cond.result
    (c.in_ok-command.ensures.stream m h.0, c.in_ok-command.ensures.parts part m h.0 h.1) is
    (c.condition-cond.ensures past m.blocks names) (sym c.skips.ensures ∙ c.if-skips.false)
