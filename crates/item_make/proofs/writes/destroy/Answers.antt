use Rattle.std.proofs.Common.{sym, ◌∙◌}
use Rattle.log_script.specs.Makers.{maker}
use Rattle.item_make.proofs.Naming.{gone_named}
use Rattle.item_make.proofs.Played.{destroyed, destroyed_none}
use Rattle.item_make.proofs.writes.destroy.Goals as goal

pub returns-in_default-clause-made : goal.returns-in_default-clause-made
returns-in_default-clause-made c = λ part script before call p m s names h.
    destroyed_none part script call p s _ (maker before c.args.id) m (sym (names c.args.id) ∙ sym c.remove.ensures.value ∙ c.in_default.is) h

pub returns-in_default-clause-named : goal.returns-in_default-clause-named
returns-in_default-clause-named c = λ before of alone names. gone_named c.args.blocks.now _ before of c.args.id c.remove.ensures.removed alone names

pub returns-clause-made : goal.returns-clause-made
returns-clause-made c = λ part script before call p m s names h.
    destroyed part script call p s _ (maker before c.args.id) c.in-Some.block m
    (sym (names c.args.id) ∙ sym c.remove.ensures.value ∙ c.in-Some.is) h.0 (c.drop_staging.ensures part m h.1)

pub returns-clause-named : goal.returns-clause-named
returns-clause-named c = λ before of alone names. gone_named c.args.blocks.now _ before of c.args.id c.remove.ensures.removed alone names
