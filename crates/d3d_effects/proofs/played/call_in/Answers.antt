use Rattle.std.proofs.Common.{arith}
use Rattle.d3d_state.specs.Meaning.{objects_of}
use Rattle.d3d_effects.proofs.ListsPlayed.{listed_call, listed_length}
use Rattle.d3d_effects.proofs.played.call_in.Goals as goal

pub nth-requires : goal.nth-requires
nth-requires c =
    omega (arith, c.requires, listed_length c.in-Some.calls.now (objects_of c.args.objects.now) c.args.list c.in-Some.ensures)

pub returns : goal.returns
returns c = listed_call c.in-Some.calls.now (objects_of c.args.objects.now) c.args.list c.args.i c.nth.result c.in-Some.ensures c.nth.ensures
