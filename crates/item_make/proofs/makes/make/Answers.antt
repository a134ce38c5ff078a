use Rattle.std.proofs.Common.{List, [], length, sym, ap, ◌∙◌, subst}
use Rattle.std.proofs.lemmas.Result.{on_ok_weaker}
use Rattle.call_log.specs.Call as calls
use Rattle.call_log.specs.declared.call.Call as code
use Rattle.call_log.specs.View.{call_view}
use Rattle.core_model.specs.Batching.{Made, make_play}
use Rattle.core_model.specs.Succession.{PlacesPlay}
use Rattle.d3d_model.specs.Past.{Past, Deed, then_done}
use Rattle.d3d_model.specs.Stream.{makings}
use Rattle.log_script.specs.Plays.{making_of}
use Rattle.item_work.specs.Placed.{NamesBlocks}
use Rattle.item_make.specs.Calls.{NamesAlone, TellsStaging, bytes_of}
use Rattle.item_make.specs.Making.{Makes}
use Rattle.item_make.proofs.Devices.{nothing_done, quiet}
use Rattle.item_make.proofs.Played.{plays_as}
use Rattle.item_make.proofs.makes.make.Goals as goal

pub returns-in-Buffer-clause-made : goal.returns-in-Buffer-clause-made
returns-in-Buffer-clause-made c =
    on_ok_weaker c.make_buffer.result
    (λ made. λ part script past after m spells long staging places names h.
    let place = c.args.place.now in
    let is = c.in-Buffer.is in
    plays_as part script place.call place _ _ m _ (making_of place.call past (call_view c.args.call.now))
    (ap (λ (x : code.Call). making_of place.call past (call_view x)) (sym is))
    (made part script past after m c.in-Buffer.size c.in-Buffer.bind c.in-Buffer.misc c.in-Buffer.stride
    c.in-Buffer.bytes.now (spells ∙ ap (λ (x : code.Call). bytes_of (call_view x)) is)
    (sym (ap (λ (x : code.Call). length (bytes_of (call_view x))) is) ∙ long)
    (subst (λ (x : code.Call). TellsStaging script place.call (call_view x)) is staging)
    (subst (λ (x : code.Call). PlacesPlay script (making_of place.call past (call_view x)) place m.blocks after) is
    places) h))
    c.make_buffer.ensures.made

pub returns-in-Buffer-clause-named : goal.returns-in-Buffer-clause-named
returns-in-Buffer-clause-named c =
    on_ok_weaker c.make_buffer.result
    (λ named. λ script past after m alone places names.
    let place = c.args.place.now in
    let is = c.in-Buffer.is in
    subst (λ (x : code.Call). NamesBlocks (then_done place.call past (makings (call_view x))) c.make_buffer.new.blocks
    (make_play script place.call (making_of place.call past (call_view x)) [] place m).blocks) (sym is)
    (named script past after m c.in-Buffer.size c.in-Buffer.bind c.in-Buffer.misc c.in-Buffer.stride
    c.in-Buffer.bytes.now (subst (λ (x : code.Call). NamesAlone place.call past (call_view x)) is alone)
    (subst (λ (x : code.Call). PlacesPlay script (making_of place.call past (call_view x)) place m.blocks after) is
    places) names))
    c.make_buffer.ensures.named

pub returns-in-Destroy-clause-made : goal.returns-in-Destroy-clause-made
returns-in-Destroy-clause-made c = λ part script past after m spells long staging places names h.
    let place = c.args.place.now in
    let is = c.in-Destroy.is in
    plays_as part script place.call place c.args.stream.now _ m
    (making_of place.call past (calls.Destroy c.in-Destroy.class c.in-Destroy.id))
    (making_of place.call past (call_view c.args.call.now))
    (ap (λ (x : code.Call). making_of place.call past (call_view x)) (sym is))
    (c.destroy_object.ensures.made part script place.call past place m c.args.stream.now names h)

pub returns-in-Destroy-clause-named : goal.returns-in-Destroy-clause-named
returns-in-Destroy-clause-named c = λ script past after m alone places names.
    let place = c.args.place.now in
    let is = c.in-Destroy.is in
    subst (λ (x : code.Call). NamesBlocks (then_done place.call past (makings (call_view x))) c.destroy_object.new.blocks
    (make_play script place.call (making_of place.call past (call_view x)) [] place m).blocks) (sym is)
    (subst (λ (q : Past). NamesBlocks q c.destroy_object.new.blocks (make_play script place.call
    (making_of place.call past (calls.Destroy c.in-Destroy.class c.in-Destroy.id)) [] place m).blocks)
    (sym (nothing_done place.call past))
    (c.destroy_object.ensures.named script place.call past place m
    (subst (λ (x : code.Call). NamesAlone place.call past (call_view x)) is alone) names))

pub returns-in_default : goal.returns-in_default
returns-in_default c =
    let place = c.args.place.now in
    let call = c.args.call.now in
    record {
      made = λ part script past after m spells long staging places names h.
          let is = quiet script place.call past place m call c.in_default.not-Buffer c.in_default.not-Destroy in
          subst (λ (x : Made). Makes part x c.args.stream.now c.args.parts.now) (sym is.0) h;
      named = λ script past after m alone places names.
          let is = quiet script place.call past place m call c.in_default.not-Buffer c.in_default.not-Destroy in
          subst (λ (x : Made). NamesBlocks (then_done place.call past (makings (call_view call))) c.args.blocks.now x.blocks)
          (sym is.0)
          (subst (λ (ds : List Deed). NamesBlocks (then_done place.call past ds) c.args.blocks.now m.blocks) (sym is.1)
          (subst (λ (q : Past). NamesBlocks q c.args.blocks.now m.blocks) (sym (nothing_done place.call past)) names));
    }
