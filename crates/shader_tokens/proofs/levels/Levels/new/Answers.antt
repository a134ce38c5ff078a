use Rattle.shader_model.proofs.Putting.{put_none}
use Rattle.shader_tokens.proofs.levels.Levels.new.Goals as goal

pub returns-clause-seen : goal.returns-clause-seen
returns-clause-seen c = λ s. rw (c.new.ensures.items, c.new-2.ensures.items) (put_none s)
