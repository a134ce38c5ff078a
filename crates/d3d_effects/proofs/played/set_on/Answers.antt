use Rattle.std.proofs.Common.{Option, ap, ◌∙◌}
use Rattle.d3d_model.specs.Binding.{Bindings, BoundView, Predicate, set_predicate, set_srv, set_uav}
use Rattle.d3d_model.specs.D3dState.{bindings_of, with_bindings}
use Rattle.d3d_state.specs.Meaning.{objects_of}
use Rattle.d3d_effects.proofs.NoEffect.{same_again, sets_none}
use Rattle.d3d_effects.proofs.played.set_on.Goals as goal

pub returns-in-SetShader : goal.returns-in-SetShader
returns-in-SetShader c = rw c.in-SetShader.is c.set.ensures

pub returns-in-SetConstant : goal.returns-in-SetConstant
returns-in-SetConstant c = rw c.in-SetConstant.is c.set-in-SetConstant.ensures

pub returns-in-SetSrv : goal.returns-in-SetSrv
returns-in-SetSrv c =
    let o = objects_of c.args.objects.now in
    let x = c.args.context in
    rw c.in-SetSrv.is (c.set-in-SetSrv.ensures ∙ ap (λ (v : Option BoundView). with_bindings o x (set_srv (bindings_of o x) c.in-SetSrv.slot v)) c.bound_view-view.ensures.value)

pub returns-in-SetUav : goal.returns-in-SetUav
returns-in-SetUav c =
    let o = objects_of c.args.objects.now in
    let x = c.args.context in
    rw c.in-SetUav.is (c.set-in-SetUav.ensures ∙ ap (λ (v : Option BoundView). with_bindings o x (set_uav (bindings_of o x) c.in-SetUav.slot v)) c.bound_view-view-in-SetUav.ensures.value)

pub returns-in-SetPredication : goal.returns-in-SetPredication
returns-in-SetPredication c =
    let o = objects_of c.args.objects.now in
    let x = c.args.context in
    rw c.in-SetPredication.is
    (c.set-in-SetPredication.ensures ∙ ap (λ (p : Predicate). with_bindings o x (set_predicate (bindings_of o x) p)) c.predicate_from-predicate.ensures.meaning)

pub returns-in-ClearState : goal.returns-in-ClearState
returns-in-ClearState c = rw c.in-ClearState.is c.set-in-ClearState.ensures

pub returns-in_default : goal.returns-in_default
returns-in_default c =
    let o = objects_of c.args.objects.now in
    let x = c.args.context in
    let d = c.in_default in
    same_again o x
    ∙ ap (λ (b : Bindings). with_bindings o x b) (sets_none o (bindings_of o x) c.args.call.now
    (record { shader = d.not-SetShader; constant = d.not-SetConstant; srv = d.not-SetSrv; uav = d.not-SetUav; clear = d.not-ClearState; predication = d.not-SetPredication }))
