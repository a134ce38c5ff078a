use Rattle.d3d_state.specs.Meaning.{objects_of}
use Rattle.d3d_checks.proofs.Overwrites.{summary_of, write_known}
use Rattle.d3d_checks.proofs.maps.map_write_refusal.Goals as goal

pub returns : goal.returns
returns c = λ past tells.
    let o = objects_of c.args.objects.now in
    write_known o past c.args.context c.args.res c.args.mode c.args.offset c.args.bytes.now c.in-Some.shape c.number_refusal.result c.in-Some.ensures
    (c.number_refusal.ensures past o (summary_of o c.args.res c.in-Some.shape _ c.args.uses.now c.in-Some.ensures tells))
