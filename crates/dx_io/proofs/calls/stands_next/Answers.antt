use Rattle.std.proofs.Common.{◌<◌, ◌^◌, ◌+◌, ◌≤◌, sym, arith, get_or}
use Rattle.dx_io.proofs.NumberLemmas.{none_stands}
use Rattle.dx_io.proofs.calls.stands_next.Goals as goal

-- each number of the list is a u64
pub returns-in-None : goal.returns-in-None
returns-in-None c =
    let past : 2 ^ 64 ≤ c.args.made + 1 = omega (arith, c.in-None.ensures) in
    sym (none_stands c.args.numbers.now (c.args.made + 1) (λ k. let fits : get_or c.args.numbers.now k 0 < 2 ^ 64 = (c.type_inv.numbers k).fits in omega arith))
