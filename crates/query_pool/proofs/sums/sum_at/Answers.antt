use Rattle.std.proofs.Common.{◌≡◌, ◌-◌, suc, sym, ap, ◌∙◌, arith}
use Rattle.query_pool.specs.Running.{sum_at}
use Rattle.query_pool.proofs.Climbing.{first_sum, sum_at_is}
use Rattle.query_pool.proofs.sums.sum_at.Goals as goal

pub returns-then-count-eq0 : goal.returns-then-count-eq0
returns-then-count-eq0 c = sym (ap (λ n. sum_at 0 c.args.sums.now n) c.if-count-eq0.true ∙ first_sum 0 c.args.sums.now)

pub returns : goal.returns
returns c =
    let lt = c.requires in let some = c.if-count-eq0.false in
    let next : suc (c.args.count - 1) ≡ c.args.count = omega (arith, some) in
    sym (sum_at_is 0 c.args.sums.now (c.args.count - 1) (record { command = 0; upto = 0 }) (omega (arith, lt, some))) ∙ ap (λ n. sum_at 0 c.args.sums.now n) next
