use Rattle.std.proofs.Common.{ap, subst, map, List, ◌∙◌}
use Rattle.std.proofs.lemmas.Result.{on_ok_weaker}
use Rattle.dx_types.specs.declared.range.ResRange.{ResRange}
use Rattle.d3d_model.specs.Past.{Binds, Deed}
use Rattle.d3d_uses.specs.Summary.{Records}
use Rattle.d3d_effects.proofs.ListCalls.{other_deeds, write_deeds_in}
use Rattle.d3d_effects.proofs.listed.keep_listed.Goals as goal

pub returns-then-mode-eq-MAP_DISCARD : goal.returns-then-mode-eq-MAP_DISCARD
returns-then-mode-eq-MAP_DISCARD c =
    on_ok_weaker c.discarded.result
    (λ records o b bound. rw (c.in-MapWrite.is, c.if-mode-eq-MAP_DISCARD.true) (records c.args.n))
    c.discarded.ensures.discarded

pub returns-else-mode-eq-MAP_DISCARD : goal.returns-else-mode-eq-MAP_DISCARD
returns-else-mode-eq-MAP_DISCARD c =
    let w = c.in-MapWrite in
    on_ok_weaker c.bound_all.result
    (λ records o b bound. subst (λ (ds : List Deed). Records c.args.uses.now c.args.n ds c.bound_all.new.self)
    (ap (λ (rs : List ResRange). map Binds rs) bound ∙ write_deeds_in o b c.args.call.now w.res w.mode w.offset w.bytes w.is c.if-mode-eq-MAP_DISCARD.false)
    records)
    c.bound_all.ensures.bound

pub returns-in_default : goal.returns-in_default
returns-in_default c =
    on_ok_weaker c.bound_all-in_default.result
    (λ records o b bound. subst (λ (ds : List Deed). Records c.args.uses.now c.args.n ds c.bound_all-in_default.new.self)
    (ap (λ (rs : List ResRange). map Binds rs) bound ∙ other_deeds o b c.args.call.now c.in_default.not-MapWrite)
    records)
    c.bound_all-in_default.ensures.bound
