use Rattle.std.proofs.Common.{◌≡◌, List, length, get_or, refl, sym, ap, subst, arith}
use Rattle.std.proofs.lemmas.Option.{slice_get-get_or}
use Rattle.vk_order.specs.declared.turns.Row.{Row}
use Rattle.vk_order.specs.Turns.{RowsGrew}
use Rattle.vk_order.proofs.Places.{get_set_same}
use Rattle.vk_order.proofs.Rows.{no_row, rows_same, rows_set}
use Rattle.vk_order.proofs.turns.note_rank.Goals as goal

pub returns-then-are_stages-clause-grew : goal.returns-then-are_stages-clause-grew
returns-then-are_stages-clause-grew c =
    let old = c.args.rows.now in let rows = c.loop-i.rows in let i = c.loop-i.i in let row = get_or rows i no_row in let test = c.loop-i-test.true in
    let len : length rows ≡ length old = ap length c.loop-i.invariant in
    let m = c.max.ensures in
    rows_set old rows i row (record { stages = row.stages; latest = c.max.result; ready = row.ready }) (subst (λ (rs : List Row). RowsGrew old rs) (sym c.loop-i.invariant) (rows_same old))
    (slice_get-get_or rows i no_row (omega (arith, test, len))) refl (omega (arith, m)) (omega arith)

pub returns-then-are_stages-clause-noted : goal.returns-then-are_stages-clause-noted
returns-then-are_stages-clause-noted c = λ _.
    let rows = c.loop-i.rows in let i = c.loop-i.i in let row = get_or rows i no_row in let test = c.loop-i-test.true in
    let len : length rows ≡ length c.args.rows.now = ap length c.loop-i.invariant in
    let m = c.max.ensures in
    let next : Row = record { stages = row.stages; latest = c.max.result; ready = row.ready } in
    record {
      number = i;
      row = next;
      there = get_set_same rows i next (omega (arith, test, len));
      same = c.are_stages.ensures c.if-are_stages.true;
      latest = omega (arith, m);
    }

pub returns-clause-grew : goal.returns-clause-grew
returns-clause-grew c = subst (λ (rs : List Row). RowsGrew c.args.rows.now rs) (sym c.loop-i.invariant) (rows_same c.args.rows.now)
