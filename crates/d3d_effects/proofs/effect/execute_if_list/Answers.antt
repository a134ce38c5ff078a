use Rattle.d3d_state.specs.Meaning.{objects_of}
use Rattle.d3d_effects.proofs.NoEffect.{executes_none}
use Rattle.d3d_effects.proofs.effect.execute_if_list.Goals as goal

pub returns-in-ExecuteList : goal.returns-in-ExecuteList
returns-in-ExecuteList c = rw c.in-ExecuteList.is c.execute.ensures

pub returns-in_default : goal.returns-in_default
returns-in_default c = executes_none c.args.n (objects_of c.args.objects.now) c.args.call.now c.in_default.not-ExecuteList
