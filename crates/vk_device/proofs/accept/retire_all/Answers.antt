use Rattle.std.proofs.Common.{ℕ, ◌+◌, ◌≤◌, ◌++◌, ◌∷◌, [], All, List, drop, get_or, ap, sym, subst, ◌∙◌, append_assoc, append-nil, arith}
use Rattle.std.proofs.lemmas.List.{drop_more, drop_all}
use Rattle.lifetime.specs.declared.holds.Mark.{Mark}
use Rattle.vk_device.specs.Accepting.{marks_by}
use Rattle.vk_device.proofs.Taking.{below_more}
use Rattle.vk_device.proofs.accept.retire_all.Goals as goal

pub each-preserved : goal.each-preserved
each-preserved c =
    let i = c.each.block-index in
    let cut = drop_more c.args.blocks.now i 0 (omega arith) in
    let m : Mark = record { chunk = c.args.k; block = get_or c.args.blocks.now i 0 } in (
      ap (λ (l : List Mark). l ++ marks_by c.args.k (drop (i + 1) c.args.blocks.now)) c.in_ok-retire.ensures.ok
          ∙ append_assoc c.each.holds (m ∷ []) (marks_by c.args.k (drop (i + 1) c.args.blocks.now))
          ∙ ap (λ (l : List ℕ). c.each.holds ++ marks_by c.args.k l) (sym cut) ∙ c.each.invariant.0,
      subst (All (λ (m : Mark). m.chunk ≤ c.args.k)) (sym c.in_ok-retire.ensures.ok) (below_more c.args.k c.each.holds m c.each.invariant.1 (omega arith)),
    )

pub returns-clause-ok : goal.returns-clause-ok
returns-clause-ok c =
    sym (append-nil c.each.holds)
    ∙ ap (λ (l : List ℕ). c.each.holds ++ marks_by c.args.k l) (sym (drop_all c.each.block-index c.args.blocks.now (omega arith))) ∙ c.each.invariant.0

pub retire-requires : goal.retire-requires
retire-requires c = c.each.invariant.1

pub returns-in_err-retire-clause-below : goal.returns-in_err-retire-clause-below
returns-in_err-retire-clause-below c =
    subst (All (λ (m : Mark). m.chunk ≤ c.args.k)) (sym c.in_err-retire.ensures.err) c.each.invariant.1

pub returns-clause-below : goal.returns-clause-below
returns-clause-below c = c.each.invariant.1
