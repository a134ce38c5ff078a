use Rattle.std.proofs.Common.{get_or, arith}
use Rattle.std.proofs.lemmas.Option.{slice_get-get_or}
use Rattle.vk_order.proofs.Rows.{no_row}
use Rattle.vk_order.proofs.turns.ready_rank.Goals as goal

pub returns-then-are_stages : goal.returns-then-are_stages
returns-then-are_stages c =
    let rows = c.args.rows.now in let i = c.loop-i.i in
    record {
      number = i;
      row = get_or rows i no_row;
      there = slice_get-get_or rows i no_row c.loop-i-test.true;
      same = c.are_stages.ensures c.if-are_stages.true;
      ready = omega arith;
    }
