use Rattle.std.proofs.Common.{sym, arith}
use Rattle.d3d_state.specs.Meaning.{objects_of}
use Rattle.d3d_effects.proofs.Passes.{view_inside}
use Rattle.d3d_effects.proofs.effect.create_view.Goals as goal

pub create_view-requires-clause-end : goal.create_view-requires-clause-end
create_view-requires-clause-end c =
    rw c.described.ensures (omega (arith, view_inside (objects_of c.args.objects.now) c.in-Some.shape c.args.ask.now (sym c.in-Some.ensures) c.requires))
