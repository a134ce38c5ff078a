use Rattle.std.proofs.Common.{arith}
use Rattle.query_pool.proofs.Placing.{new_at, there_at}
use Rattle.query_pool.proofs.sums.has.Goals as goal

pub returns-then-at-sums-clause-yes : goal.returns-then-at-sums-clause-yes
returns-then-at-sums-clause-yes c = λ t. there_at c.args.at c.args.command 0 c.args.sums.now (record { command = 0; upto = 0 }) c.requires c.if-at-sums.true t

pub returns-then-at-sums-clause-no : goal.returns-then-at-sums-clause-no
returns-then-at-sums-clause-no c = λ t. new_at c.args.at c.args.command 0 c.args.sums.now (record { command = 0; upto = 0 }) c.requires (λ lt. t)

pub returns-else-at-sums-clause-no : goal.returns-else-at-sums-clause-no
returns-else-at-sums-clause-no c = λ t.
    new_at c.args.at c.args.command 0 c.args.sums.now (record { command = 0; upto = 0 }) c.requires (λ lt. (let past = c.if-at-sums.false in absurd (omega (arith, lt, past))))
