use Rattle.std.proofs.Common.{◌≡◌, ℕ, ◌+◌, get_or, Some, slice_get, slice_index, sym, ap, ◌∙◌, inl, inr, arith}
use Rattle.std.proofs.lemmas.Bool.{cases_lt}
use Rattle.std.proofs.lemmas.Option.{slice_get-get_or, slice_get_within}
use Rattle.vk_order.proofs.order_by_index.are_ranks.Goals as goal

pub loop-i-preserved : goal.loop-i-preserved
loop-i-preserved c = λ j p l e.
    let order = c.args.order.now in let ranks = c.args.ranks.now in let i = c.loop-i.i in let test = c.loop-i-test.true in
    elim (cases_lt j i) [
      | inl less ↦ c.loop-i.invariant j p less e
      | inr ge ↦
          let same : j ≡ i = omega (arith, l, ge) in
          let both : Some p ≡ Some (get_or order i 0) = sym e ∙ (ap (slice_get order) same ∙ slice_get-get_or order i 0 test) in
          let is : p ≡ get_or order i 0 = cc both in
          let rank : slice_index ranks (get_or order i 0) ≡ i + 1 = sym c.rank_of.ensures ∙ c.if-rank_of-i.false in
          ap (slice_index ranks) is ∙ (rank ∙ ap (λ (n : ℕ). n + 1) (sym same))
    ]

pub returns : goal.returns
returns c = λ _. λ i p e. let w = slice_get_within c.args.order.now i p e in let end = c.loop-i-test.false in c.loop-i.invariant i p (omega (arith, w, end)) e
