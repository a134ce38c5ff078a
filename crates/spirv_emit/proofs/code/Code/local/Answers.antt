use Rattle.std.proofs.Common.{[], ◌∷◌, ap, refl}
use Rattle.spirv_model.specs.Op as op
use Rattle.spirv_model.specs.declared.storage_classes.TheConstants as class
use Rattle.spirv_emit.specs.Layout as id
use Rattle.spirv_emit.proofs.Words.Appending.{appends_to}
use Rattle.spirv_emit.proofs.Words.ModuleParts.{fresh_made}
use Rattle.spirv_emit.proofs.code.Code.local.Goals as goal

pub returns : goal.returns
returns c =
    appends_to (fresh_made (λ r. op.Variable id.to_variable r class.FUNCTION (c.number.result ∷ [])) _ c.fresh-id.ensures.id c.fresh-id.ensures.next c.fresh-id.ensures.words c.in_ok-variable_from.ensures)
    (ap (λ k. op.Variable id.to_variable c.args.self.now.next class.FUNCTION (k ∷ []) ∷ []) c.number.ensures) refl
