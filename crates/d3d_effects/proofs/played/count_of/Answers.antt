use Rattle.d3d_state.specs.Meaning.{objects_of}
use Rattle.d3d_effects.proofs.ListsPlayed.{listed_length}
use Rattle.d3d_effects.proofs.played.count_of.Goals as goal

pub returns-in-Some : goal.returns-in-Some
returns-in-Some c = listed_length c.in-Some.calls.now (objects_of c.args.objects.now) c.args.list c.in-Some.ensures
