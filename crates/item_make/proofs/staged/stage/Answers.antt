use Rattle.std.proofs.Common.{Option, sym, ◌∙◌, subst}
use Rattle.dx_types.specs.declared.range.Range.{Range}
use Rattle.core_model.specs.Batching.{make_write}
use Rattle.core_model.specs.Succession.{IsStagedRange}
use Rattle.log_script.specs.Makers.{of_maker}
use Rattle.item_make.proofs.Played.{none_staged, skipped_stage, copied_stage, writes_go_on}
use Rattle.item_make.proofs.staged.stage.Goals as goal

pub returns-in_default : goal.returns-in_default
returns-in_default c = λ part script past p m bytes predicate spells long at is skip cause names h.
    none_staged part script c.args.call p _ _ past predicate m bytes (of_maker past c.args.target.now) (at ∙ c.in_default.is) h

pub returns-then-is_skipped : goal.returns-then-is_skipped
returns-then-is_skipped c = λ part script past p m bytes predicate spells long at is skip cause names h.
    skipped_stage part script c.args.call p _ _ past predicate m bytes c.in-Some.source (of_maker past c.args.target.now)
    (at ∙ c.in-Some.is) (subst (λ (o : Option Range). IsStagedRange bytes o) c.in-Some.is is) (sym skip ∙ c.if-is_skipped.true)
    (writes_go_on c.in-Some.source bytes m _ h.0, c.in_ok-write.ensures part m bytes spells long h.1)

pub returns : goal.returns
returns c = λ part script past p m bytes predicate spells long at is skip cause names h.
    let written = make_write c.in-Some.source bytes m in
    let goes = writes_go_on c.in-Some.source bytes m _ h.0 in
    copied_stage part script c.args.call p _ _ past predicate m bytes c.in-Some.source (of_maker past c.args.target.now)
    c.range_on-to.result c.args.cond
    (at ∙ c.in-Some.is) (subst (λ (o : Option Range). IsStagedRange bytes o) c.in-Some.is is) (sym skip ∙ c.if-is_skipped.false)
    (c.range_on-to.ensures.by_maker past m.blocks names) cause
    (c.in_ok-command.ensures.stream written goes, c.in_ok-command.ensures.parts part written goes (c.in_ok-write.ensures part m bytes spells long h.1))
