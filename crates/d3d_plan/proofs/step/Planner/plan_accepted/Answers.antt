use Rattle.std.proofs.Common.{◌≡◌, ◌++◌, ◌∷◌, [], List, None, refl, subst, sym, ◌∙◌}
use Rattle.call_log.specs.View.{call_view}
use Rattle.d3d_state.specs.Meaning.{objects_of}
use Rattle.d3d_checks.specs.Created.{shader_made}
use Rattle.d3d_plan.specs.Planned.{planned_as}
use Rattle.d3d_plan.specs.Shown.{Shows}
use Rattle.d3d_plan.specs.declared.entry.Entry.{Entry}
use Rattle.d3d_plan.proofs.Steps.{shows_accepted, stands_after}
use Rattle.d3d_plan.proofs.step.Planner.plan_accepted.Goals as goal

pub returns-clause-stands : goal.returns-clause-stands
returns-clause-stands c = λ s st.
    stands_after c.args.n s c.args.context (call_view c.args.call.now) c.args.self.now.objects c.apply.new.objects c.args.self.now.kept c.keep.new.self c.in_ok-piece.piece st
    c.in_ok-apply.ensures.applied c.in_ok-piece.ensures

pub returns-clause-shows : goal.returns-clause-shows
returns-clause-shows c = λ s plan st shows.
    let old = c.args.self.now in
    let call = call_view c.args.call.now in
    let e : Entry = record { verdict = None; last_use = c.last_use-last.result; words = c.in_ok-words.words; shader = c.in_ok-shared.shared; piece = c.in_ok-piece.piece } in
    let kept : c.in_ok-shared.shared ≡ shader_made c.args.n call = c.in_ok-shared.ensures ∙ c.as_ref.ensures.value ∙ c.requires.shader in
    subst (λ (es : List Entry). Shows es c.keep.new.self.tables (plan ++ planned_as c.args.n c.args.at s c.args.context call ∷ [])) (sym c.in_ok-push.ensures.items)
    (shows_accepted c.args.n c.args.at s c.args.context call (objects_of old.objects) old.kept c.keep.new.self old.entries.items plan e st.same st.keeps
    c.in_ok-piece.ensures shows refl (c.last_use-last.ensures s st.same st.keeps.tells) c.in_ok-words.ensures kept)
