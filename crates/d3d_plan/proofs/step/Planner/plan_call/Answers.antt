use Rattle.std.proofs.Common.{◌++◌, [], ◌∷◌, Some, None, sym, subst}
use Rattle.std.proofs.lemmas.Result.{on_ok_weaker}
use Rattle.call_log.specs.Call.{Issued}
use Rattle.call_log.specs.View.{call_view}
use Rattle.d3d_checks.proofs.Passes.{stands_on}
use Rattle.d3d_model.specs.InOrder.{State}
use Rattle.d3d_model.specs.Verdict.{place_of}
use Rattle.d3d_state.specs.Meaning.{objects_of}
use Rattle.d3d_plan.specs.Planned.{Planned}
use Rattle.d3d_plan.specs.Shown.{Shows}
use Rattle.d3d_plan.specs.Stands.{Stands}
use Rattle.d3d_plan.proofs.Steps.{always, is_built_by, of_state, planned_accepted, planned_refused, stands_refused, state_accepted}
use Rattle.d3d_plan.proofs.step.Planner.plan_call.Goals as goal

pub plan_accepted-requires-clause-accepted : goal.plan_accepted-requires-clause-accepted
plan_accepted-requires-clause-accepted c =
    let o = objects_of c.args.self.now.objects in
    let call = call_view c.args.call.now in
    let s = c.requires.some_state.0 in
    let st = c.requires.some_state.1.1 in
    record {
      built = is_built_by call c.requires.no_draw;
      past = s.past;
      passes = sym (c.in-None.ensures s.past (λ right. c.asked-uses.ensures o s.past st.keeps (stands_on (place_of call) c.args.context right)));
    }

pub returns-in-Some-clause-stands : goal.returns-in-Some-clause-stands
returns-in-Some-clause-stands c =
    let old = c.args.self.now in
    let call = call_view c.args.call.now in
    let i : Issued = record { context = c.args.context; call = call } in
    always c.plan_refused.result
    (λ s st. stands_refused c.args.n s i c.in-Some.why old.objects c.plan_refused.new.self.objects old.kept c.plan_refused.new.self.kept
    (of_state s old.objects old.kept i (Some c.in-Some.why) st
    (c.in-Some.ensures s.past (λ right. c.asked-uses.ensures (objects_of old.objects) s.past st.keeps (stands_on (place_of call) c.args.context right))))
    c.plan_refused.ensures.objects c.plan_refused.ensures.kept st)

pub returns-in-Some-clause-shows : goal.returns-in-Some-clause-shows
returns-in-Some-clause-shows c =
    let old = c.args.self.now in
    let new = c.plan_refused.new.self in
    let call = call_view c.args.call.now in
    let i : Issued = record { context = c.args.context; call = call } in
    on_ok_weaker c.plan_refused.result
    (λ shows s plan st shown. subst (λ (p : Planned). Shows new.entries.items new.kept.tables (plan ++ p ∷ []))
    (planned_refused c.args.n c.args.at s i c.in-Some.why
    (of_state s old.objects old.kept i (Some c.in-Some.why) st
    (c.in-Some.ensures s.past (λ right. c.asked-uses.ensures (objects_of old.objects) s.past st.keeps (stands_on (place_of call) c.args.context right)))))
    (shows plan shown))
    c.plan_refused.ensures.shows

pub returns-in-None-clause-stands : goal.returns-in-None-clause-stands
returns-in-None-clause-stands c =
    let old = c.args.self.now in
    let new = c.plan_accepted.new.self in
    let call = call_view c.args.call.now in
    let i : Issued = record { context = c.args.context; call = call } in
    on_ok_weaker c.plan_accepted.result
    (λ stands s st. subst (λ (t : State). Stands t new.objects new.kept)
    (state_accepted c.args.n s c.args.context call
    (of_state s old.objects old.kept i None st
    (c.in-None.ensures s.past (λ right. c.asked-uses.ensures (objects_of old.objects) s.past st.keeps (stands_on (place_of call) c.args.context right)))))
    (stands s st))
    c.plan_accepted.ensures.stands

pub returns-in-None-clause-shows : goal.returns-in-None-clause-shows
returns-in-None-clause-shows c =
    let old = c.args.self.now in
    let new = c.plan_accepted.new.self in
    let call = call_view c.args.call.now in
    let i : Issued = record { context = c.args.context; call = call } in
    on_ok_weaker c.plan_accepted.result
    (λ shows s plan st shown. subst (λ (p : Planned). Shows new.entries.items new.kept.tables (plan ++ p ∷ []))
    (planned_accepted c.args.n c.args.at s c.args.context call
    (of_state s old.objects old.kept i None st
    (c.in-None.ensures s.past (λ right. c.asked-uses.ensures (objects_of old.objects) s.past st.keeps (stands_on (place_of call) c.args.context right)))))
    (shows s plan st shown))
    c.plan_accepted.ensures.shows
