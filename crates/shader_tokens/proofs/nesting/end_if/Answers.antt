use Rattle.std.proofs.Common.{ap, sym, ◌∙◌}
use Rattle.shader_model.specs.declared.tree.Node.TheVariants as n
use Rattle.shader_model.specs.Body.{End, node_before, nodes_before}
use Rattle.shader_model.specs.Nesting.{Upto, AtEndif, put, spelled}
use Rattle.shader_tokens.specs.Levels.{closed, seen}
use Rattle.shader_tokens.proofs.Closing.{ended_if, ended_else}
use Rattle.shader_tokens.proofs.nesting.end_if.Goals as goal

pub returns-in_ok-add-in-If-clause-spells : goal.returns-in_ok-add-in-If-clause-spells
returns-in_ok-add-in-If-clause-spells c = λ later.
    let s = spelled later in
    let ns = c.in-Some.field-0.nodes.items in
    c.in_ok-add-in-If.ensures.seen s
    ∙ ap (λ z. seen c.close.new.self (put (node_before (n.If c.in-If.test z c.new-no.result)) s)) c.from_vec-yes.ensures
    ∙ ap (λ z. seen c.close.new.self (put (node_before (n.If c.in-If.test ns z)) s)) c.new-no.ensures
    ∙ ap (seen c.close.new.self) (ended_if c.in-If.test ns s)
    ∙ ap (λ z. seen c.close.new.self (closed z (put (nodes_before ns) (Upto End AtEndif s)))) (sym c.in-If.is)
    ∙ sym (c.in-Some.ensures.seen (Upto End AtEndif s))

pub returns-in_ok-add-in-Else-clause-spells : goal.returns-in_ok-add-in-Else-clause-spells
returns-in_ok-add-in-Else-clause-spells c = λ later.
    let s = spelled later in
    let ns = c.in-Some.field-0.nodes.items in
    c.in_ok-add-in-Else.ensures.seen s
    ∙ ap (λ z. seen c.close.new.self (put (node_before (n.If c.in-Else.test c.in-Else.yes z)) s)) c.from_vec-no.ensures
    ∙ ap (seen c.close.new.self) (ended_else c.in-Else.test c.in-Else.yes ns s)
    ∙ ap (λ z. seen c.close.new.self (closed z (put (nodes_before ns) (Upto End AtEndif s)))) (sym c.in-Else.is)
    ∙ sym (c.in-Some.ensures.seen (Upto End AtEndif s))
