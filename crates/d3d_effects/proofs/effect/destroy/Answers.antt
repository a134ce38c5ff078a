use Rattle.d3d_state.specs.Meaning.{objects_of}
use Rattle.d3d_effects.proofs.Passes.{destroys_known}
use Rattle.d3d_effects.proofs.effect.destroy.Goals as goal

pub unreachable-requires : goal.unreachable-requires
unreachable-requires c =
    let o = objects_of c.args.objects.now in
    absurd (destroys_known o c.args.class c.args.id c.requires c.in_default.ensures.unknown)
