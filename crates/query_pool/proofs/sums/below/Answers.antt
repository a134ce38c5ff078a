use Rattle.std.proofs.Common.{◌+◌, ◌-◌, ◌/◌, arith}
use Rattle.query_pool.proofs.Climbing.{below_length, below_past, below_upto}
use Rattle.query_pool.proofs.sums.below.Goals as goal

pub halves-init : goal.halves-init
halves-init c = (omega arith, below_length c.args.command c.args.sums.now, omega arith)

pub halves-preserved-then-sums-middle : goal.halves-preserved-then-sums-middle
halves-preserved-then-sums-middle c =
    let low = c.halves.low in let high = c.halves.high in
    let test = c.halves-test.true in let most = c.halves.invariant.2 in
    let past = below_past 0 0 c.args.command c.args.sums.now (low + (high - low) / 2) (record { command = 0; upto = 0 }) c.requires (omega (arith, test, most)) c.if-sums-middle.true in
    (omega (arith, past), c.halves.invariant.1, c.halves.invariant.2)

pub halves-preserved : goal.halves-preserved
halves-preserved c =
    let low = c.halves.low in let high = c.halves.high in
    let test = c.halves-test.true in let most = c.halves.invariant.2 in
    (c.halves.invariant.0, below_upto c.args.command c.args.sums.now (low + (high - low) / 2) (record { command = 0; upto = 0 }) (omega (arith, test, most)) c.if-sums-middle.false, omega (arith, test, most))

pub returns : goal.returns
returns c = (let a = c.halves.invariant.0 in let b = c.halves.invariant.1 in let t = c.halves-test.false in omega (arith, a, b, t))
