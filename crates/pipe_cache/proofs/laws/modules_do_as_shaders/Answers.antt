use Rattle.pipe_cache.proofs.Emitting.{does_as, is_spelled}
use Rattle.pipe_cache.proofs.laws.modules_do_as_shaders.Goals as goal

pub returns-clause-shader : goal.returns-clause-shader
returns-clause-shader c = is_spelled

pub returns-clause-does : goal.returns-clause-does
returns-clause-does c = does_as
