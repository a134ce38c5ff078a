use Rattle.std.proofs.Common.{sym, ap, ◌∙◌, subst, length}
use Rattle.std.proofs.lemmas.Result.{on_ok_weaker}
use Rattle.call_log.specs.declared.call.Call as code
use Rattle.call_log.specs.View.{call_view}
use Rattle.core_model.specs.Succession.{PlacesPlay}
use Rattle.d3d_state.specs.Meaning.{objects_of}
use Rattle.log_script.specs.Plays.{play_of}
use Rattle.item_make.specs.Calls.{bytes_of}
use Rattle.item_make.proofs.Played.{plays_as}
use Rattle.item_make.proofs.plays.play_fixed.Goals as goal

pub returns-in-Dispatch : goal.returns-in-Dispatch
returns-in-Dispatch c =
    on_ok_weaker c.dispatch_groups.result
    (λ made. λ part script past after m fixed spells long places names h.
    let place = c.args.place.now in
    let o = objects_of c.args.objects.now in
    plays_as part script place.call place _ _ m _ (play_of past o c.args.set.now (call_view c.args.call.now))
    (ap (λ (x : code.Call). play_of past o c.args.set.now (call_view x)) (sym c.in-Dispatch.is))
    (made part script past place m names h))
    c.dispatch_groups.ensures

pub returns-in-DispatchIndirect : goal.returns-in-DispatchIndirect
returns-in-DispatchIndirect c =
    on_ok_weaker c.dispatch_counts.result
    (λ made. λ part script past after m fixed spells long places names h.
    let place = c.args.place.now in
    let o = objects_of c.args.objects.now in
    plays_as part script place.call place _ _ m _ (play_of past o c.args.set.now (call_view c.args.call.now))
    (ap (λ (x : code.Call). play_of past o c.args.set.now (call_view x)) (sym c.in-DispatchIndirect.is))
    (made part script past place m names h))
    c.dispatch_counts.ensures

pub returns-in-CopyRegion : goal.returns-in-CopyRegion
returns-in-CopyRegion c =
    on_ok_weaker c.copy_region.result
    (λ made. λ part script past after m fixed spells long places names h.
    let place = c.args.place.now in
    let o = objects_of c.args.objects.now in
    plays_as part script place.call place _ _ m _ (play_of past o c.args.set.now (call_view c.args.call.now))
    (ap (λ (x : code.Call). play_of past o c.args.set.now (call_view x)) (sym c.in-CopyRegion.is))
    (made part script past o place m names h))
    c.copy_region.ensures

pub returns-in-Update : goal.returns-in-Update
returns-in-Update c =
    on_ok_weaker c.update.result
    (λ made. λ part script past after m fixed spells long places names h.
    let place = c.args.place.now in
    let o = objects_of c.args.objects.now in
    let is = c.in-Update.is in
    plays_as part script place.call place _ _ m _ (play_of past o c.args.set.now (call_view c.args.call.now))
    (ap (λ (x : code.Call). play_of past o c.args.set.now (call_view x)) (sym is))
    (made part script past o after m c.in-Update.bytes.now (spells ∙ ap (λ (x : code.Call). bytes_of (call_view x)) is)
    (sym (ap (λ (x : code.Call). length (bytes_of (call_view x))) is) ∙ long)
    (subst (λ (x : code.Call). PlacesPlay script (play_of past o c.args.set.now (call_view x)) place m.blocks after) is
    places) names h))
    c.update.ensures
