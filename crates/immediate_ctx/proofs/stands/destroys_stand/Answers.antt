use Rattle.immediate_ctx.proofs.Destroying.{destroys_live}
use Rattle.immediate_ctx.proofs.stands.destroys_stand.Goals as goal

pub returns : goal.returns
returns c = λ script names core s st id b d reading call ts. destroys_live script names core s st id b d reading call ts
