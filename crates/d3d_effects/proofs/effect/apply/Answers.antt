use Rattle.std.proofs.Common.{sym, ◌∙◌}
use Rattle.call_log.specs.View.{call_view}
use Rattle.d3d_state.specs.Meaning.{objects_of}
use Rattle.d3d_effects.proofs.Passes.{of_device}
use Rattle.d3d_effects.proofs.effect.apply.Goals as goal

pub make-requires-clause-accepted : goal.make-requires-clause-accepted
make-requires-clause-accepted c =
    of_device (objects_of c.args.objects.now) c.args.context (call_view c.args.call.now) c.requires.accepted (sym c.place_of.ensures ∙ c.in-OnDevice.is)
