use Rattle.std.proofs.Common.{ap, sym, ◌∙◌}
use Rattle.shader_model.specs.Body.{End, nodes_before}
use Rattle.shader_model.specs.Nesting.{Upto, AtElse, put, spelled}
use Rattle.shader_tokens.specs.declared.levels.Open.TheVariants as open_
use Rattle.shader_tokens.specs.Levels.{closed, seen}
use Rattle.shader_tokens.proofs.Closing.{parted_if}
use Rattle.shader_tokens.proofs.nesting.part_if.Goals as goal

pub returns-clause-spells : goal.returns-clause-spells
returns-clause-spells c = λ later.
    let s = spelled later in
    let ns = c.in-Some.field-0.nodes.items in
    c.in_ok-open.ensures.seen s
    ∙ ap (λ z. seen c.close.new.self (closed (open_.Else c.in-If.test z) s)) c.from_vec.ensures
    ∙ ap (seen c.close.new.self) (parted_if c.in-If.test ns s)
    ∙ ap (λ z. seen c.close.new.self (closed z (put (nodes_before ns) (Upto End AtElse s)))) (sym c.in-If.is)
    ∙ sym (c.in-Some.ensures.seen (Upto End AtElse s))
