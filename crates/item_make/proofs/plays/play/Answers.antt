use Rattle.std.proofs.Common.{sym, ap, ◌∙◌, subst, length}
use Rattle.std.proofs.lemmas.Result.{on_ok_weaker}
use Rattle.call_log.specs.declared.call.Call as code
use Rattle.call_log.specs.View.{call_view}
use Rattle.core_model.specs.Succession.{PlacesPlay}
use Rattle.d3d_state.specs.Meaning.{objects_of}
use Rattle.log_script.specs.Plays.{play_of}
use Rattle.item_work.specs.Placed.{NamesBlocks}
use Rattle.item_make.specs.Calls.{DiscardsAlone, bytes_of}
use Rattle.item_make.proofs.Calls.{call_keeps, no_map}
use Rattle.item_make.proofs.Played.{plays_as}
use Rattle.item_make.proofs.plays.play.Goals as goal

pub returns-in-MapWrite-clause-made : goal.returns-in-MapWrite-clause-made
returns-in-MapWrite-clause-made c =
    on_ok_weaker c.map_write.result
    (λ made. λ part script past after m spells long alone places names h.
    let place = c.args.place.now in
    let o = objects_of c.args.objects.now in
    let is = c.in-MapWrite.is in
    plays_as part script place.call place _ _ m _ (play_of past o c.args.set.now (call_view c.args.call.now))
    (ap (λ (x : code.Call). play_of past o c.args.set.now (call_view x)) (sym is))
    (made part script past after m c.in-MapWrite.bytes.now (spells ∙ ap (λ (x : code.Call). bytes_of (call_view x)) is)
    (sym (ap (λ (x : code.Call). length (bytes_of (call_view x))) is) ∙ long)
    (subst (λ (x : code.Call). DiscardsAlone script past (call_view x)) is alone)
    (subst (λ (x : code.Call). PlacesPlay script (play_of past o c.args.set.now (call_view x)) place m.blocks after) is
    places) names h))
    c.map_write.ensures.made

pub returns : goal.returns
returns c =
    let fixed = no_map c.args.call.now c.in_default.not-MapWrite in
    let place = c.args.place.now in
    let o = objects_of c.args.objects.now in
    record {
      made = on_ok_weaker c.play_fixed.result
          (λ made. λ part script past after m spells long alone places names h.
          made part script past after m fixed spells long places names h)
          c.play_fixed.ensures;
      named = on_ok_weaker c.play_fixed.result
          (λ made. λ script past after m alone places names.
          subst (NamesBlocks past c.args.blocks.now)
          (sym (call_keeps script place.call place m past o c.args.set.now (call_view c.args.call.now) fixed)) names)
          c.play_fixed.ensures;
    }
