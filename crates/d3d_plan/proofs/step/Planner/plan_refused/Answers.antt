use Rattle.std.proofs.Common.{◌++◌, ◌∷◌, [], List, Some, None, refl, subst, sym}
use Rattle.d3d_plan.specs.Planned.{refused_as}
use Rattle.d3d_plan.specs.Shown.{Shows}
use Rattle.d3d_plan.specs.declared.entry.Entry.{Entry}
use Rattle.d3d_plan.proofs.Pieces.{shown_refused, shows_more}
use Rattle.d3d_plan.proofs.step.Planner.plan_refused.Goals as goal

pub returns-clause-shows : goal.returns-clause-shows
returns-clause-shows c = λ plan shows.
    let old = c.args.self.now in
    let why = c.args.why in
    let e : Entry = record { verdict = Some why; last_use = None; words = None; shader = None; piece = record { start = 0; end = 0; first = 0; last = 0 } } in
    let own = shown_refused old.kept.tables why e refl in
    subst (λ (es : List Entry). Shows es old.kept.tables (plan ++ refused_as why ∷ [])) (sym c.in_ok-push.ensures.items)
    (shows_more old.entries.items old.kept.tables plan e (refused_as why) shows own.0 own.1)
