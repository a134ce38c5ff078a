use Rattle.std.proofs.Common.{◌≡◌, ℕ, Some, slice_get, refl, sym, ap, subst, ◌∙◌, below_more, false, inl, inr, arith}
use Rattle.std.proofs.lemmas.Bool.{both_ways, cases_lt}
use Rattle.std.proofs.lemmas.Option.{slice_get-get_or}
use Rattle.vk_types.specs.declared.op.VkOp.{VkOp}
use Rattle.vk_order.specs.Order.{is_broken}
use Rattle.vk_order.specs.Turns.{IsNotedTurn}
use Rattle.vk_order.proofs.Broken.{kept_whole, whole_kept}
use Rattle.vk_order.proofs.Kept.{broken_backward, turns_more, turns_none}
use Rattle.vk_order.proofs.order_by_index.first_turned.Goals as goal

pub seconds-init : goal.seconds-init
seconds-init c = record { none = λ x y l. absurd (omega (arith, l)); holds = turns_none c.args.ops.now c.args.ranks.now c.in_ok-turns.turns }

pub seconds-preserved : goal.seconds-preserved
seconds-preserved c =
    let ops = c.args.ops.now in let ranks = c.args.ranks.now in let y = c.seconds.second in let o = c.index-ops-second.result in let test = c.seconds-test.true in
    let there : slice_get ops y ≡ Some o = slice_get-get_or ops y o test ∙ ap (λ (p : VkOp). Some p) (sym c.index-ops-second.is) in
    let end = c.if-first-second.false in
    let ends : (x : ℕ) → is_broken ops c.args.order.now x y ≡ false = λ x. elim (cases_lt x y) [
      | inl l ↦ c.broken_at-first.ensures.least x (omega (arith, l, end))
      | inr ge ↦ broken_backward ops c.args.order.now x y ge
    ] in
    record {
      none = λ x z l. below_more _ _ (λ k b. c.seconds.invariant.none x k b) (ends x) z l;
      holds = turns_more ops ranks c.seconds.turns c.note.new.self y o c.seconds.invariant.holds there
          (subst (λ (r : ℕ). IsNotedTurn c.seconds.turns c.note.new.self r o) c.rank_of.ensures c.note.ensures);
    }

pub returns-then-first-second-clause-ok : goal.returns-then-first-second-clause-ok
returns-then-first-second-clause-ok c =
    let ops = c.args.ops.now in let order = c.args.order.now in let first = c.broken_at-first.result in let second = c.seconds.second in
    (λ e. absurd (cc e), λ all. absurd (both_ways (is_broken ops order first second) (kept_whole ops order all.1 first second) (c.broken_at-first.ensures.here c.if-first-second.true)))

pub returns-clause-ok : goal.returns-clause-ok
returns-clause-ok c = (λ _. (c.requires.whole, whole_kept c.args.ops.now c.args.order.now c.seconds.second (omega arith) c.seconds.invariant.none), λ _. refl)
