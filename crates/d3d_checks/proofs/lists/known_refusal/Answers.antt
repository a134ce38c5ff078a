use Rattle.d3d_state.specs.Meaning.{objects_of}
use Rattle.d3d_checks.proofs.Listed.{known_none, known_some}
use Rattle.d3d_checks.proofs.lists.known_refusal.Goals as goal

pub returns-in-Some : goal.returns-in-Some
returns-in-Some c = known_some (objects_of c.args.objects.now) c.args.list _ c.in-Some.ensures

pub returns-in-None : goal.returns-in-None
returns-in-None c = known_none (objects_of c.args.objects.now) c.args.list c.in-None.ensures
