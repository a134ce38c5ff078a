use Rattle.std.proofs.Common.{[], ap, ◌∙◌}
use Rattle.shader_model.specs.Body.{nodes_before}
use Rattle.shader_model.specs.Nesting.{put}
use Rattle.shader_model.proofs.Putting.{put_none}
use Rattle.shader_tokens.specs.Levels.{closed, levels_around}
use Rattle.shader_tokens.proofs.Around.{around_one_more}
use Rattle.shader_tokens.proofs.levels.Levels.open.Goals as goal

pub returns-clause-seen : goal.returns-clause-seen
returns-clause-seen c = λ s.
    let ls = c.args.self.now.levels.items in
    rw (c.in_ok-push.ensures.items, c.replace-before.ensures.after, c.new.ensures.items, c.replace-before.ensures.value)
    (around_one_more ls (record { block = c.args.block; before = c.args.self.now.nodes }) (put (nodes_before []) s)
    ∙ ap (λ z. levels_around ls (put (nodes_before c.args.self.now.nodes.items) (closed c.args.block z))) (put_none s))
