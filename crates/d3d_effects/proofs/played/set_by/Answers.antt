use Rattle.d3d_state.specs.Meaning.{objects_of}
use Rattle.d3d_effects.proofs.NoEffect.{sets_none}
use Rattle.d3d_effects.proofs.played.set_by.Goals as goal

pub returns-in_default : goal.returns-in_default
returns-in_default c =
    let d = c.in_default in
    sets_none (objects_of c.args.objects.now) c.args.bindings.now c.args.call.now
    (record { shader = d.not-SetShader; constant = d.not-SetConstant; srv = d.not-SetSrv; uav = d.not-SetUav; clear = d.not-ClearState; predication = d.not-SetPredication })
