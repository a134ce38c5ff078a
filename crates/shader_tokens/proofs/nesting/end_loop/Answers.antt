use Rattle.std.proofs.Common.{ap, sym, ◌∙◌}
use Rattle.shader_model.specs.declared.tree.Node.TheVariants as n
use Rattle.shader_model.specs.Body.{End, node_before, nodes_before}
use Rattle.shader_model.specs.Nesting.{Upto, AtEndloop, put, spelled}
use Rattle.shader_tokens.specs.Levels.{closed, seen}
use Rattle.shader_tokens.proofs.Closing.{ended_loop}
use Rattle.shader_tokens.proofs.nesting.end_loop.Goals as goal

pub returns-clause-spells : goal.returns-clause-spells
returns-clause-spells c = λ later.
    let s = spelled later in
    let ns = c.in-Some.field-0.nodes.items in
    c.in_ok-add.ensures.seen s
    ∙ ap (λ z. seen c.close.new.self (put (node_before (n.Loop z)) s)) c.from_vec-body.ensures
    ∙ ap (seen c.close.new.self) (ended_loop ns s)
    ∙ ap (λ z. seen c.close.new.self (closed z (put (nodes_before ns) (Upto End AtEndloop s)))) (sym c.in-Loop.is)
    ∙ sym (c.in-Some.ensures.seen (Upto End AtEndloop s))
