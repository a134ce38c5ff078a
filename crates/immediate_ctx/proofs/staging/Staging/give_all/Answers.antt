use Rattle.std.proofs.Common.{List, ◌++◌, ◌∷◌, [], ap, sym, ◌∙◌, append_assoc, append-nil}
use Rattle.buffer_blocks.specs.declared.block.Block.{Block}
use Rattle.immediate_ctx.specs.Staging.{Pool}
use Rattle.immediate_ctx.proofs.staging.Staging.give_all.Goals as goal

pub each-init : goal.each-init
each-init c = sym (ap (λ (bs : List Block). record c.args.self.now { spare = bs }) (append-nil c.args.self.now.spare))

pub each-preserved : goal.each-preserved
each-preserved c =
    let page = c.in-Some.page in
    c.in_ok-give.ensures.ok ∙ ap (λ (p : Pool). record p { spare = p.spare ++ page ∷ [] }) c.each.invariant
    ∙ ap (λ (bs : List Block). record c.args.self.now { spare = bs })
    (append_assoc c.args.self.now.spare c.each.yielded (page ∷ []))
