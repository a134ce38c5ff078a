use Rattle.std.proofs.Common.{◌≡◌, ℕ, ◌+◌, get_or, Some, slice_get, sym, subst, ◌∙◌, arith}
use Rattle.std.proofs.lemmas.Option.{slice_get-get_or, slice_get_within}
use Rattle.std.proofs.lemmas.Bool.{both_ways}
use Rattle.vk_order.specs.Classes.{names}
use Rattle.vk_order.proofs.Rows.{NamedBelow, named_next, no_row}
use Rattle.vk_order.proofs.turns.named_rank.Goals as goal
use Rattle.vk_order.proofs.turns.named_rank.Goals.{then-names, else-names}

pub loop-i-preserved : goal.loop-i-preserved
loop-i-preserved c =
    let rows = c.args.rows.now in let b = c.args.b.now in let i = c.loop-i.i in let most = c.loop-i.most in
    let row = get_or rows i no_row in
    let there : slice_get rows i ≡ Some row = slice_get-get_or rows i no_row c.loop-i-test.true in
    elim c.if-names.branch [
      | then-names w ↦
          let m = w.max-most.ensures in
          subst (λ (n : ℕ). NamedBelow rows b (i + 1) n) (sym w.most-is)
          (named_next rows b i row most w.max-most.result c.loop-i.invariant there (omega (arith, m)) (λ k. omega (arith, m)))
      | else-names w ↦
          subst (λ (n : ℕ). NamedBelow rows b (i + 1) n) (sym w.most-is)
          (named_next rows b i row most most c.loop-i.invariant there (omega arith) (λ k. absurd (both_ways (names b.source row.stages) (sym c.names.ensures ∙ w.if-names.false) k)))
    ]

pub returns : goal.returns
returns c = λ i row e n. let w = slice_get_within c.args.rows.now i row e in let end = c.loop-i-test.false in c.loop-i.invariant i row (omega (arith, w, end)) e n
