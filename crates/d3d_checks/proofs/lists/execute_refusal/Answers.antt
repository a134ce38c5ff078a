use Rattle.d3d_state.specs.Meaning.{objects_of}
use Rattle.d3d_checks.proofs.Listed.{executes_known, executes_unknown}
use Rattle.d3d_checks.proofs.lists.execute_refusal.Goals as goal

pub returns-in-Some : goal.returns-in-Some
returns-in-Some c = λ past. executes_known (objects_of c.args.objects.now) past c.args.list c.args.flag _ c.calls_refusal.result c.in-Some.ensures c.calls_refusal.ensures

pub returns-in-None : goal.returns-in-None
returns-in-None c = λ past. executes_unknown (objects_of c.args.objects.now) past c.args.list c.args.flag c.in-None.ensures
