use Rattle.std.proofs.Common.{◌≤◌, List, length, refl, ap, ◌∙◌, arith}
use Rattle.std.proofs.lemmas.Bool.{eq-eqb}
use Rattle.std.proofs.lemmas.List.{take_all}
use Rattle.base_lemmas.specs.IdMap.{IdMap}
use Rattle.call_log.specs.View.{call_view}
use Rattle.d3d_model.specs.Binding.{default_bindings}
use Rattle.d3d_model.specs.D3dState.{Numbered, Objects, Query, calls_of_list, with_bindings}
use Rattle.d3d_model.specs.Effect.{queries_after}
use Rattle.d3d_state.specs.Meaning.{objects_of, with_queries}
use Rattle.d3d_effects.specs.Played.{call_no, queries_played}
use Rattle.d3d_effects.proofs.ListsPlayed.{cleared, one_more, restored}
use Rattle.d3d_effects.proofs.Passes.{differs}
use Rattle.d3d_effects.proofs.played.execute.Goals as goal

pub calls-init : goal.calls-init
unfolding queries_played
calls-init c = refl

pub call_in-call-requires : goal.call_in-call-requires
call_in-call-requires c =
    omega (arith, c.calls-test.true, c.count_of-i-end.ensures, ap (λ (o : Objects). length (calls_of_list o c.args.list)) c.calls.invariant)

pub calls-preserved : goal.calls-preserved
calls-preserved c =
    let o = objects_of c.args.objects.now in
    let n = c.args.n in
    let cs = calls_of_list o c.args.list in
    let call = call_view c.call_in-call.result in
    c.count.ensures ∙ ap (λ (k : Objects). with_queries k (queries_after n k.queries call)) c.calls.invariant
    ∙ ap (λ (q : IdMap Query). with_queries o q)
    (one_more n o.queries cs c.calls.i call (c.call_in-call.ensures ∙ ap (λ (k : Objects). call_no k c.args.list c.calls.i) c.calls.invariant))

pub returns-then-flag-ne-RESTORE_STATE : goal.returns-then-flag-ne-RESTORE_STATE
returns-then-flag-ne-RESTORE_STATE c =
    let o = objects_of c.args.objects.now in
    let n = c.args.n in
    let cs = calls_of_list o c.args.list in
    let all : length cs ≤ c.calls.i = omega (arith, c.count_of-i-end.ensures, c.calls-test.false) in
    c.set.ensures
    ∙ ap (λ (k : Objects). with_bindings k 0 default_bindings) (c.calls.invariant ∙ ap (λ (l : List Numbered). with_queries o (queries_played n o.queries l)) (take_all c.calls.i cs all))
    ∙ cleared n o c.args.list c.args.flag (differs c.args.flag 1 c.if-flag-ne-RESTORE_STATE.true)

pub returns-else-flag-ne-RESTORE_STATE : goal.returns-else-flag-ne-RESTORE_STATE
returns-else-flag-ne-RESTORE_STATE c =
    let o = objects_of c.args.objects.now in
    let n = c.args.n in
    let cs = calls_of_list o c.args.list in
    let all : length cs ≤ c.calls.i = omega (arith, c.count_of-i-end.ensures, c.calls-test.false) in
    c.calls.invariant ∙ ap (λ (l : List Numbered). with_queries o (queries_played n o.queries l)) (take_all c.calls.i cs all)
    ∙ restored n o c.args.list c.args.flag (eq-eqb c.args.flag 1 c.if-flag-ne-RESTORE_STATE.false)
