use Rattle.std.proofs.Common.{◌∷◌, ap, sym, ◌∙◌}
use Rattle.shader_model.specs.declared.tree.Node.TheVariants as n
use Rattle.shader_model.specs.Body.{Plain, Break, Continue, Return, node_before}
use Rattle.shader_model.specs.Nesting.{spelled}
use Rattle.shader_model.proofs.Trees.{before_plain, before_break, before_continue, before_return}
use Rattle.shader_model.proofs.Putting.{put_same}
use Rattle.shader_tokens.specs.Levels.{seen}
use Rattle.shader_tokens.proofs.nesting.step.Goals as goal

pub returns-in_ok-add-in-Plain-clause-spells : goal.returns-in_ok-add-in-Plain-clause-spells
returns-in_ok-add-in-Plain-clause-spells c = λ later.
    let l = c.args.levels.now in
    let s = spelled later in
    c.in_ok-add-in-Plain.ensures.seen s
    ∙ ap (seen l) (put_same (node_before (n.Plain c.in-Plain.i)) (Plain c.in-Plain.i) (before_plain c.in-Plain.i) s)
    ∙ ap (λ z. seen l (spelled (z ∷ later))) (sym c.in-Plain.is)

pub returns-in_ok-add-in-Break-clause-spells : goal.returns-in_ok-add-in-Break-clause-spells
returns-in_ok-add-in-Break-clause-spells c = λ later.
    let l = c.args.levels.now in
    let s = spelled later in
    c.in_ok-add-in-Break.ensures.seen s
    ∙ ap (seen l) (put_same (node_before (n.Break c.in-Break.test)) (Break c.in-Break.test) (before_break c.in-Break.test) s)
    ∙ ap (λ z. seen l (spelled (z ∷ later))) (sym c.in-Break.is)

pub returns-in_ok-add-in-Continue-clause-spells : goal.returns-in_ok-add-in-Continue-clause-spells
returns-in_ok-add-in-Continue-clause-spells c = λ later.
    let l = c.args.levels.now in
    let s = spelled later in
    c.in_ok-add-in-Continue.ensures.seen s
    ∙ ap (seen l) (put_same (node_before (n.Continue c.in-Continue.test)) (Continue c.in-Continue.test) (before_continue c.in-Continue.test) s)
    ∙ ap (λ z. seen l (spelled (z ∷ later))) (sym c.in-Continue.is)

pub returns-in_ok-add-in-Return-clause-spells : goal.returns-in_ok-add-in-Return-clause-spells
returns-in_ok-add-in-Return-clause-spells c = λ later.
    let l = c.args.levels.now in
    let s = spelled later in
    c.in_ok-add-in-Return.ensures.seen s
    ∙ ap (seen l) (put_same (node_before (n.Return c.in-Return.test)) (Return c.in-Return.test) (before_return c.in-Return.test) s)
    ∙ ap (λ z. seen l (spelled (z ∷ later))) (sym c.in-Return.is)
