use Rattle.std.proofs.Common.{[], ◌∷◌, None, true, sym, ap, subst, ◌∙◌}
use Rattle.std.proofs.lemmas.Result.{on_ok_weaker}
use Rattle.base_lemmas.specs.IdMap.{get, insert}
use Rattle.d3d_model.specs.Past.{then_done, Discards}
use Rattle.d3d_uses.specs.Summary.{Uses, Summarises}
use Rattle.d3d_uses.specs.declared.held.Held.{Held}
use Rattle.d3d_uses.proofs.Summaries.{found_some, found_none, put_in, is_found, not_lent, kept_at, summarises-discarded}
use Rattle.d3d_uses.proofs.uses.Uses.discarded.Goals as goal

pub discarded_first-requires : goal.discarded_first-requires
discarded_first-requires c =
    ap (λ (u : Uses). get u c.args.id) (not_lent c.self.inside.held _ c.args.self.now c.self.view_is c.get_mut.follows.holds-at-none)
    ∙ kept_at c.self.inside.held.entries c.args.self.now c.args.id c.self.view_is
    ∙ sym c.in-None.ensures.value

pub returns-in-Some-clause-discarded : goal.returns-in-Some-clause-discarded
returns-in-Some-clause-discarded c = λ call calls res s.
    let es = c.self.inside.held.entries in
    let id = c.args.id in
    let held = c.in-Some.held.now in
    let found = c.in-Some.ensures.value in
    let new = c.discard.new.self in
    let changes = (c.get_mut.follows.holds new).3 (is_found es id held found) in
    let is = put_in es (c.get_mut.follows.lender new).entries c.args.self.now id new c.self.view_is changes.0
    ∙ ap (insert c.args.self.now id) (c.discard.ensures ∙ ap (λ (h : Held). record h { discarded = true; bound = [] }) (found_some es c.args.self.now id held c.self.view_is found)) in
    subst (λ (u : Uses). Summarises (then_done call calls (Discards id ∷ [])) u res) (sym is) (summarises-discarded call calls c.args.self.now id res s)

pub returns-in-None-clause-discarded : goal.returns-in-None-clause-discarded
returns-in-None-clause-discarded c = on_ok_weaker c.discarded_first.result (λ made. λ call calls res s.
    let id = c.args.id in
    let before = not_lent c.self.inside.held _ c.args.self.now c.self.view_is c.get_mut.follows.holds-at-none in
    let is = made
    ∙ ap (λ (u : Uses). insert u id (record { last = None; discarded = true; bound = [] })) before
    ∙ ap (λ (h : Held). insert c.args.self.now id (record h { discarded = true; bound = [] })) (found_none c.self.inside.held.entries c.args.self.now id c.self.view_is c.in-None.ensures.value) in
    subst (λ (u : Uses). Summarises (then_done call calls (Discards id ∷ [])) u res) (sym is) (summarises-discarded call calls c.args.self.now id res s)
    ) c.discarded_first.ensures.discarded
