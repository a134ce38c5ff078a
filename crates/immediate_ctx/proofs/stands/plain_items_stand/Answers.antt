use Rattle.immediate_ctx.proofs.Playing.{overwrite_stands, plain_stands, shader_stands}
use Rattle.immediate_ctx.proofs.stands.plain_items_stand.Goals as goal

pub returns-clause-plain : goal.returns-clause-plain
returns-clause-plain c = plain_stands

pub returns-clause-shader : goal.returns-clause-shader
returns-clause-shader c = shader_stands

pub returns-clause-overwrite : goal.returns-clause-overwrite
returns-clause-overwrite c = overwrite_stands
