use Rattle.std.proofs.Common.{◌+◌, [], ◌∷◌, ap, refl, ◌∙◌}
use Rattle.spirv_emit.specs.Emits.{out_op}
use Rattle.spirv_model.specs.declared.settings.TheConstants as setting
use Rattle.spirv_model.specs.Op as op
use Rattle.spirv_emit.proofs.Words.Appending.{puts_then, then_puts, appends_to}
use Rattle.spirv_emit.proofs.code.Code.out_if.Goals as goal

pub returns : goal.returns
returns c =
    let q = c.in_ok-choice.ensures.appends in
    let labels = c.in_ok-choice.ensures.labels in
    let n = c.args.self.now.next in
    appends_to (then_puts q (puts_then c.in_ok-out.ensures (puts_then c.in_ok-label.ensures (puts_then c.in_ok-branch.ensures c.in_ok-label-2.ensures))))
    (ap (λ k. op.SelectionMerge (n + 2) setting.NO_CONTROL ∷ op.BranchConditional c.args.condition n (n + 1) ∷ op.Label n ∷ out_op c.args.out ∷ op.Label k ∷ op.Branch c.in_ok-choice.choice.behind ∷ op.Label c.in_ok-choice.choice.behind ∷ []) labels.0
    ∙ ap (λ k. op.SelectionMerge (n + 2) setting.NO_CONTROL ∷ op.BranchConditional c.args.condition n (n + 1) ∷ op.Label n ∷ out_op c.args.out ∷ op.Label (n + 1) ∷ op.Branch k ∷ op.Label k ∷ []) labels.1)
    refl
