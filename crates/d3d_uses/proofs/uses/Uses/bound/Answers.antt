use Rattle.std.proofs.Common.{Some, sym, ap, subst, ◌∙◌}
use Rattle.std.proofs.lemmas.Result.{on_ok_weaker, on_err_weaker}
use Rattle.base_lemmas.specs.IdMap.{get}
use Rattle.d3d_uses.specs.Summary.{Uses, BindsMore, BindsAt}
use Rattle.d3d_uses.specs.declared.held.Held.{Held}
use Rattle.d3d_uses.proofs.Summaries.{found_some, put_in, is_found, kept_back, not_lent, kept_at, summarises-bound}
use Rattle.d3d_uses.proofs.uses.Uses.bound.Goals as goal

pub bound_first-requires : goal.bound_first-requires
bound_first-requires c =
    ap (λ (u : Uses). get u c.args.range.now.res) (not_lent c.self.inside.held _ c.args.self.now c.self.view_is c.get_mut.follows.holds-at-none)
    ∙ kept_at c.self.inside.held.entries c.args.self.now c.args.range.now.res c.self.view_is
    ∙ sym c.in-None.ensures.value

pub returns-in-Some-clause-bound : goal.returns-in-Some-clause-bound
returns-in-Some-clause-bound c = on_ok_weaker c.bind.result (λ more. λ calls res s.
    let es = c.self.inside.held.entries in
    let r = c.args.range.now in
    let held = c.in-Some.held.now in
    let found = c.in-Some.ensures.value in
    let new = c.bind.new.self in
    let changes = (c.get_mut.follows.holds new).3 (is_found es r.res held found) in
    let is = put_in es (c.get_mut.follows.lender new).entries c.args.self.now r.res new c.self.view_is changes.0 in
    let binds = subst (λ (h : Held). BindsMore h c.args.call r.from r.to new) (found_some es c.args.self.now r.res held c.self.view_is found) more in
    summarises-bound c.args.call calls c.args.self.now r _ res (new, is, binds) s
    ) c.bind.ensures.bound

pub returns-in-Some-clause-unchanged : goal.returns-in-Some-clause-unchanged
returns-in-Some-clause-unchanged c = on_err_weaker c.bind.result (λ same.
    let es = c.self.inside.held.entries in
    let res = c.args.range.now.res in
    let new = c.bind.new.self in
    let found = ap Some same ∙ c.in-Some.ensures.value in
    kept_back es (c.get_mut.follows.lender new).entries c.args.self.now res new c.self.view_is found (c.get_mut.follows.holds new).0
    ) c.bind.ensures.unchanged

pub returns-in-None-clause-bound : goal.returns-in-None-clause-bound
returns-in-None-clause-bound c = on_ok_weaker c.bound_first.result (λ binds. λ calls res s.
    let before = not_lent c.self.inside.held _ c.args.self.now c.self.view_is c.get_mut.follows.holds-at-none in
    summarises-bound c.args.call calls c.args.self.now c.args.range.now _ res (subst (λ (u : Uses). BindsAt u c.args.call c.args.range.now c.bound_first.new.self) before binds) s
    ) c.bound_first.ensures.bound
