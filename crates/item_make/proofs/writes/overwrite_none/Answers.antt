use Rattle.std.proofs.lemmas.Result.{on_ok_weaker}
use Rattle.item_make.proofs.Played.{overwritten}
use Rattle.item_make.proofs.writes.overwrite_none.Goals as goal

pub returns : goal.returns
returns c =
    on_ok_weaker c.write.result
    (λ made. λ part script before call bytes p m s spells long names h.
    overwritten part script call p s _ before c.args.id c.args.from c.args.span.len m bytes c.range_on-range.result long
    (c.range_on-range.ensures.by_maker before m.blocks names) h.0 (made part m bytes spells long h.1))
    c.write.ensures
