use Rattle.std.proofs.Common.{ap}
use Rattle.shader_model.proofs.Putting.{put_one_more}
use Rattle.shader_tokens.specs.Levels.{levels_around}
use Rattle.shader_tokens.proofs.levels.Levels.add.Goals as goal

pub returns-clause-seen : goal.returns-clause-seen
returns-clause-seen c = λ s.
    ap (levels_around c.args.self.now.levels.items) (rw c.in_ok-push.ensures.items (put_one_more c.args.self.now.nodes.items c.args.node s))
