use Rattle.std.proofs.Common.{◌≤◌, length, arith}
use Rattle.shader_tokens.proofs.Walking.{row-found, row-passed, row-none}
use Rattle.shader_tokens.proofs.table.find_row.Goals as goal

pub returns-then-row-number : goal.returns-then-row-number
returns-then-row-number c = row-found c.args.number c.loop-row.row-index c.rows-row-items.result.now _ c.rows-row-items.ensures c.loop-row.invariant c.loop-row-test.true c.if-row-number.true

pub loop-row-preserved : goal.loop-row-preserved
loop-row-preserved c = row-passed c.args.number c.loop-row.row-index c.rows-row-items.result.now _ c.loop-row.invariant c.loop-row-test.true c.if-row-number.false

pub returns : goal.returns
returns c =
    let all : length c.rows-row-items.result.now ≤ c.loop-row.row-index = omega arith in
    row-none c.args.number c.loop-row.row-index c.rows-row-items.result.now c.rows-row-items.ensures c.loop-row.invariant all
