use Rattle.std.proofs.Common.{◌≡◌, ℕ, ◌-◌, ◌∙◌, length, take, drop, refl, sym, ap, arith}
use Rattle.std.proofs.lemmas.Result.{IfOk-weaker}
use Rattle.call_log.specs.View.{call_view}
use Rattle.d3d_model.specs.D3dState.{bindings_of}
use Rattle.d3d_model.specs.Stream.{binds}
use Rattle.d3d_state.specs.Meaning.{objects_of}
use Rattle.d3d_effects.proofs.BoundRanges.{bound_here}
use Rattle.d3d_effects.proofs.ListCalls.{last_part}
use Rattle.d3d_plan.proofs.Keeping.{keeps_bound}
use Rattle.d3d_plan.proofs.Moves.{no_execution}
use Rattle.d3d_plan.proofs.kept.Kept.bind.Goals as goal

pub returns : goal.returns
returns c =
    let o = objects_of c.args.objects.now in
    let call = call_view c.args.call.now in
    let old = c.args.self.now in
    let bound = binds o (bindings_of o 0) call in
    let starts : c.len-start.result ≡ length old.tables.ranges.items = omega (arith, c.len-start.ensures, old.tables.ranges.ok.0) in
    let all = c.deref.result.now in
    let own : take (length all - c.len-start.result) (drop c.len-start.result all) ≡ bound = last_part old.tables.ranges.items bound all c.len-start.result (c.deref.ensures.value ∙ c.in_ok-push_bound.ensures) starts in
    let none = no_execution call c.requires.unlisted in
    IfOk-weaker c.ranges_from.result _ _
    (λ p is. keeps_bound c.args.n o call old _ p bound c.requires.reached c.requires.accepted c.requires.unlisted
    (λ past tells. c.in_ok-keep_call.ensures past c.args.objects.now c.requires.accepted none own tells)
    refl refl (sym (bound_here o call none)) c.in_ok-push_bound.ensures refl refl
    (is ∙ ap (λ (k : ℕ). record { start = k; end = length c.push_bound.new.ranges.items; first = 0; last = 0 }) starts))
    c.ranges_from.ensures
