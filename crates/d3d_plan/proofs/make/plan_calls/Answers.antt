use Rattle.std.proofs.Common.{◌≡◌, ℕ, ◌+◌, ◌-◌, ◌++◌, ◌∷◌, [], List, Some, refl, sym, ap, subst, ◌∙◌, arith}
use Rattle.call_log.specs.Call.{Issued}
use Rattle.call_log.specs.Grammar.{calls_of, start_behind}
use Rattle.call_log.specs.View.{call_view, frame_view}
use Rattle.d3d_model.specs.InOrder.{State, after_calls, call_at}
use Rattle.d3d_model.proofs.Calls.{call_some}
use Rattle.d3d_plan.specs.Planned.{Planned, place_behind, plan_of, planned_by}
use Rattle.d3d_plan.specs.Shown.{Shows}
use Rattle.d3d_plan.specs.Stands.{Stands}
use Rattle.d3d_plan.proofs.Logs.{state_next, plan_next}
use Rattle.d3d_plan.proofs.Places.{place_next}
use Rattle.d3d_plan.proofs.Records.{past_all}
use Rattle.d3d_plan.proofs.make.plan_calls.Goals as goal

pub calls-init : goal.calls-init
unfolding after_calls plan_of
calls-init c = record { stands = c.in_ok-planner.ensures.stands; shows = c.in_ok-planner.ensures.shows; place = refl }

pub unreachable-requires : goal.unreachable-requires
unreachable-requires c = omega (arith, past_all c.args.log.now.frames c.calls.i c.in_default.ensures.record, c.count-i-end.ensures.count)

pub plan_call-requires-clause-some_state : goal.plan_call-requires-clause-some_state
plan_call-requires-clause-some_state c =
    let log = calls_of c.args.log.now.frames in
    (after_calls log c.calls.i, (record { log = log; count = c.calls.i; is = refl }, c.calls.invariant.stands))

pub plan_call-requires-clause-no_draw : goal.plan_call-requires-clause-no_draw
plan_call-requires-clause-no_draw c =
    rw c.call.ensures (c.requires (c.calls.i + 1) (frame_view c.in-Some.item) (sym c.in-Some.ensures.record))

pub calls-preserved : goal.calls-preserved
calls-preserved c =
    let log = calls_of c.args.log.now.frames in
    let i = c.calls.i in
    let s = after_calls log i in
    let x : Issued = record { context = c.in-Some.item.context; call = call_view c.call.result } in
    let is : call_at log (i + 1) ≡ Some x = call_some c.args.log.now.frames (i + 1) (frame_view c.in-Some.item) (call_view c.call.result) c.in-Some.ensures.record c.call.ensures in
    let new = c.plan_call.new.self in
    let f = frame_view c.in-Some.item in
    let back : i + 1 - 1 ≡ i = omega arith in
    let at : c.in-Some.item.at ≡ place_behind log i = c.in-Some.ensures.at ∙ ap (start_behind c.args.log.now.frames) back ∙ sym c.calls.invariant.place in
    record {
      stands = subst (λ (t : State). Stands t new.objects new.kept) (sym (state_next log i x is)) (c.in_ok-plan_call.ensures.stands s c.calls.invariant.stands);
      shows = subst (λ (p : List Planned). Shows new.entries.items new.kept.tables p) (sym (plan_next log i x is))
          (subst (λ (n : ℕ). Shows new.entries.items new.kept.tables (plan_of log i ++ planned_by (i + 1) n s (Some x) ∷ [])) at
          (c.in_ok-plan_call.ensures.shows s (plan_of log i) c.calls.invariant.stands c.calls.invariant.shows));
      place = place_next c.args.log.now.frames i f (sym c.in-Some.ensures.record) c.says_its_length.ensures c.calls.invariant.place;
    }
