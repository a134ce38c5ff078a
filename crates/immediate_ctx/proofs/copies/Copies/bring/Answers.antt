use Rattle.std.proofs.Common.{ap, sym, ◌∙◌}
use Rattle.base_lemmas.specs.IdMap.{insert}
use Rattle.immediate_ctx.specs.Tables.{Bytes}
use Rattle.immediate_ctx.proofs.Held.{with_snaps-last}
use Rattle.immediate_ctx.proofs.copies.Copies.bring.Goals as goal

pub each-preserved : goal.each-preserved
each-preserved c =
    let s = c.in-Some.s in
    c.in_ok-set.ensures ∙ ap (λ (m : Bytes). insert m s.block s.bytes) c.each.invariant
    ∙ sym (with_snaps-last c.args.self.now c.each.yielded s)
