use Rattle.std.proofs.Common.{ap, ◌∙◌}
use Rattle.call_log.specs.View.{call_view}
use Rattle.d3d_model.specs.D3dState.{Objects, bindings_of, with_bindings}
use Rattle.d3d_model.specs.Stream.{set_by}
use Rattle.d3d_state.specs.Meaning.{objects_of}
use Rattle.d3d_effects.proofs.ListsPlayed.{records}
use Rattle.d3d_effects.proofs.effect.record.Goals as goal

pub returns-clause-applied : goal.returns-clause-applied
returns-clause-applied c =
    let x = c.args.context in
    let call = call_view c.args.call.now in
    c.set_on.ensures ∙ ap (λ (o : Objects). with_bindings o x (set_by o (bindings_of o x) call)) c.in_ok-record.ensures.recorded
    ∙ records c.args.n (objects_of c.args.objects.now) x call
