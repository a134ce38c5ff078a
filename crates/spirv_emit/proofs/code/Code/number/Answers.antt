use Rattle.spirv_model.specs.Op as op
use Rattle.spirv_emit.specs.Layout as id
use Rattle.spirv_emit.proofs.Words.ModuleParts.{fresh_made}
use Rattle.spirv_emit.proofs.code.Code.number.Goals as goal

pub returns : goal.returns
returns c = fresh_made (λ r. op.Constant id.word_type r c.args.number) _ c.fresh-id.ensures.id c.fresh-id.ensures.next c.fresh-id.ensures.words c.in_ok-constant.ensures
