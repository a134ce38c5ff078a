use Rattle.std.proofs.Common.{refl, sym, ap, ◌∙◌, arith}
use Rattle.std.proofs.lemmas.List.{get_or_read, length-set}
use Rattle.query_pool.specs.declared.sums.Sum.{Sum}
use Rattle.query_pool.specs.Running.{raised}
use Rattle.query_pool.proofs.Placing.{fit_from, raised_end, rise_fit, rise_still}
use Rattle.query_pool.proofs.sums.raise_from.Goals as goal

pub later-init : goal.later-init
later-init c = record { still = refl; fit = fit_from c.args.invocations c.args.sums.now.items c.args.at c.requires; len = refl }

pub later-preserved : goal.later-preserved
later-preserved c =
    let n = c.args.invocations in let i = c.later.i in let xs = c.later.sums.items in
    let none : Sum = record { command = 0; upto = 0 } in
    let test = c.later-test.true in let end = c.len-i-end.ensures in let same = c.later.invariant.len in let len = c.args.sums.now.ok.0 in
    let here = get_or_read xs i c.index.result.now (omega (arith, test, end, same, len)) c.index.ensures none in
    record {
      still = rise_still n i c.args.at xs c.args.sums.now.items c.raise.result none (omega (arith, test, end, same, len)) (c.raise.ensures ∙ ap (raised n) here) c.later.invariant.still;
      fit = rise_fit n i xs c.raise.result c.later.invariant.fit;
      len = length-set xs i c.raise.result ∙ same;
    }

pub returns : goal.returns
returns c =
    let test = c.later-test.false in let end = c.len-i-end.ensures in let same = c.later.invariant.len in let len = c.args.sums.now.ok.0 in
    sym (raised_end c.args.invocations c.later.i c.later.sums.items (omega (arith, test, end, same, len))) ∙ c.later.invariant.still
