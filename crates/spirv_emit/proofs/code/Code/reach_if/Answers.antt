use Rattle.std.proofs.Common.{◌≡◌, ◌+◌, ◌++◌, [], ◌∷◌, ap, refl, ◌∙◌, arith}
use Rattle.spirv_emit.specs.Emits.{layout_of}
use Rattle.spirv_model.specs.Op as op
use Rattle.spirv_emit.specs.Code.{calculation_size, reach_ops, missed_ops}
use Rattle.spirv_emit.proofs.Words.Appending.{appends_to}
use Rattle.spirv_emit.proofs.Words.CalculationsAndAccesses.{choice_made}
use Rattle.spirv_emit.proofs.code.Code.reach_if.Goals as goal

pub returns : goal.returns
returns c =
    let at = layout_of c.args.plan.now in
    let p = c.in_ok-condition.ensures.appends in
    let q = c.in_ok-choice.ensures.appends in
    let e = p.next_is in
    let f = q.next_is in
    let labels = c.in_ok-choice.ensures.labels in
    let l = c.args.self.now.next + calculation_size c.args.inside.now in
    let n2 : c.open_choice.new.self.next ≡ l + 3 = f ∙ ap (λ n. n + 3) e in
    let behind : c.in_ok-choice.choice.behind ≡ l + 2 = labels.1 ∙ ap (λ n. n + 2) e in
    appends_to
    (choice_made at c.args.inside.now _ (reach_ops at (l + 3) c.args.binding c.args.place.now c.args.action.now (l + 2)) _ (missed_ops at c.args.action.now ++ op.Branch (l + 2) ∷ []) _ _ _ _ p c.in_ok-condition.ensures.id q labels.0 labels.1 c.in_ok-reach.ensures c.in_ok-label.ensures c.in_ok-pass.ensures c.in_ok-label-2.ensures
    (ap (λ n. reach_ops at n c.args.binding c.args.place.now c.args.action.now c.in_ok-choice.choice.behind) n2 ∙ ap (λ n. reach_ops at (l + 3) c.args.binding c.args.place.now c.args.action.now n) behind)
    (ap (λ n. missed_ops at c.args.action.now ++ op.Branch n ∷ []) behind))
    refl (omega (arith, n2))
