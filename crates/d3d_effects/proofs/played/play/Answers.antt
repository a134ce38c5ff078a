use Rattle.std.proofs.Common.{ap, ◌∙◌}
use Rattle.call_log.specs.View.{call_view}
use Rattle.d3d_model.specs.D3dState.{Objects, bindings_of, with_bindings}
use Rattle.d3d_model.specs.Stream.{set_by}
use Rattle.d3d_state.specs.Meaning.{objects_of}
use Rattle.d3d_effects.proofs.ListsPlayed.{plays}
use Rattle.d3d_effects.proofs.played.play.Goals as goal

pub returns : goal.returns
returns c =
    let call = call_view c.args.call.now in
    plays c.args.n (objects_of c.args.objects.now) (objects_of c.set_on.new.objects) call
    (c.set_on.ensures ∙ ap (λ (o : Objects). with_bindings o 0 (set_by o (bindings_of o 0) call)) c.count.ensures)
