use Rattle.std.proofs.Common.{ap, ◌∙◌}
use Rattle.shader_model.specs.Body.{nodes_before}
use Rattle.shader_model.specs.Nesting.{put}
use Rattle.shader_tokens.specs.Levels.{levels_around}
use Rattle.shader_tokens.proofs.Around.{around_one_more}
use Rattle.shader_tokens.proofs.levels.Levels.close.Goals as goal

pub returns-in-Some-clause-seen : goal.returns-in-Some-clause-seen
returns-in-Some-clause-seen c = λ s.
    let inner = put (nodes_before c.args.self.now.nodes.items) s in
    rw (c.replace-nodes.ensures.after, c.replace-nodes.ensures.value)
    (ap (λ z. levels_around z inner) c.in-Some.ensures.items ∙ around_one_more c.pop.new.self.items c.in-Some.field-0 inner)
