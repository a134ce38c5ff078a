use Rattle.std.proofs.Common.{◌≡◌, ℕ, ◌+◌, ◌-◌, Bool, false, ◌&&◌, ◌||◌, refl, sym, ap, ◌∙◌, arith}
use Rattle.std.specs.Prelude.{slice_index_or}
use Rattle.std.specs.List.{list_any}
use Rattle.base_lemmas.specs.Lists.{numbers_from}
use Rattle.command_queue.specs.StageSets.{names_set}
use Rattle.command_queue.proofs.Passing.{named_more}
use Rattle.command_queue.proofs.scan.some_waits.Goals as goal

pub sets-init : goal.sets-init
sets-init c = refl

pub returns-then-waits_at : goal.returns-then-waits_at
returns-then-waits_at c =
    let p : ℕ → Bool = λ k. slice_index_or c.args.waiting.now k false && names_set c.args.m.now k in
    sym (sym c.sets.invariant ∙ named_more p c.sets.set (omega arith)
    ∙ ap (λ v. v || list_any p (numbers_from (c.sets.set + 1) (16 - (c.sets.set + 1)))) (sym c.waits_at.ensures ∙ c.if-waits_at.true))

pub sets-preserved : goal.sets-preserved
sets-preserved c =
    let p : ℕ → Bool = λ k. slice_index_or c.args.waiting.now k false && names_set c.args.m.now k in
    sym (named_more p c.sets.set (omega arith)
    ∙ ap (λ v. v || list_any p (numbers_from (c.sets.set + 1) (16 - (c.sets.set + 1)))) (sym c.waits_at.ensures ∙ c.if-waits_at.false))
    ∙ c.sets.invariant

pub returns : goal.returns
returns c =
    let p : ℕ → Bool = λ k. slice_index_or c.args.waiting.now k false && names_set c.args.m.now k in
    ap (λ n. list_any p (numbers_from c.sets.set n)) (let z : 0 ≡ 16 - c.sets.set = omega arith in z) ∙ c.sets.invariant
