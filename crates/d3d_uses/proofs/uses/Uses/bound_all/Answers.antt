use Rattle.std.proofs.Common.{List, [], ◌∷◌, get_or, sym, subst, map, take}
use Rattle.dx_types.specs.declared.range.ResRange.{ResRange}
use Rattle.d3d_model.specs.Past.{Deed, Binds}
use Rattle.d3d_uses.specs.Summary.{Uses, Records}
use Rattle.d3d_uses.proofs.Records.{at_error, records-none, records-append, binds_more}
use Rattle.d3d_uses.proofs.uses.Uses.bound_all.Goals as goal

pub each-init : goal.each-init
each-init c = records-none c.args.self.now c.args.call

pub each-preserved : goal.each-preserved
each-preserved c =
    let rs = c.args.ranges.now in
    let i = c.each.range-index in
    let none : ResRange = record { res = 0; from = 0; to = 0 } in
    subst (λ (ds : List Deed). Records c.args.self.now c.args.call ds c.bound.new.self) (sym (binds_more rs i none c.each-test.true))
    (records-append c.args.self.now c.args.call (map Binds (take i rs)) c.each.self (Binds (get_or rs i none) ∷ []) c.bound.new.self c.each.invariant c.in_ok-bound.ensures.bound)

pub returns-in_err-bound-clause-front : goal.returns-in_err-bound-clause-front
returns-in_err-bound-clause-front c = at_error c.from_residual.result (
  c.each.range-index,
  subst (λ (u : Uses). Records c.args.self.now c.args.call (map Binds (take c.each.range-index c.args.ranges.now)) u) (sym c.in_err-bound.ensures.unchanged) c.each.invariant,
)
