use Rattle.std.proofs.Common.{Some}
use Rattle.std.proofs.lemmas.Result.{on_ok_weaker}
use Rattle.core_model.specs.Batching.{give_block}
use Rattle.item_make.proofs.Naming.{created_named}
use Rattle.item_make.proofs.Played.{created}
use Rattle.item_make.proofs.writes.create.Goals as goal

pub returns-clause-made : goal.returns-clause-made
returns-clause-made c =
    on_ok_weaker c.insert.result
    (λ _. λ part script call buffer bytes p m at staging spells long h.
    created part script call p _ _ m buffer c.args.block c.args.span.len bytes at long
    (c.in_ok-give_block.ensures script buffer m staging h.0)
    (c.in_ok-write.ensures part (give_block script buffer (Some c.args.block) m) bytes spells long h.1))
    c.insert.ensures.inserted

pub returns-clause-named : goal.returns-clause-named
returns-clause-named c =
    on_ok_weaker c.insert.result
    (λ is. λ before of call never names. created_named c.args.blocks.now _ before of call c.args.id c.args.block is never names)
    c.insert.ensures.inserted
