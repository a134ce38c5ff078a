use Rattle.std.proofs.Common.{refl, ap, map, List, [], ◌∷◌, ◌∙◌}
use Rattle.std.proofs.lemmas.Result.{on_ok_weaker}
use Rattle.call_log.specs.Call as calls
use Rattle.call_log.specs.View.{call_view}
use Rattle.dx_types.specs.declared.range.ResRange.{ResRange}
use Rattle.d3d_model.specs.Effect.{deeds_by, objects_after}
use Rattle.d3d_model.specs.Past.{Binds, Discards}
use Rattle.d3d_state.specs.Meaning.{objects_of}
use Rattle.d3d_effects.proofs.Kept.{IsPlain, tells_made, tells_destroyed, tells_records, plain_deeds, plain_buffers}
use Rattle.d3d_effects.proofs.keep.keep_call.Goals as goal

pub returns-in-Buffer : goal.returns-in-Buffer
returns-in-Buffer c = λ past s accepted plays bound tells.
    let w = c.in-Buffer in
    rw w.is (tells_made past (objects_of s) c.args.uses.now c.made.new.self c.args.n w.id w.size w.usage w.bind w.misc w.stride w.bytes.now c.made.ensures tells)

pub returns-in-Destroy : goal.returns-in-Destroy
returns-in-Destroy c = λ past s accepted plays bound tells.
    let w = c.in-Destroy in
    rw w.is (tells_destroyed past (objects_of s) c.args.uses.now c.forget.new.uses c.args.n w.class w.id c.forget.ensures.buffer c.forget.ensures.other tells)

pub returns-then-mode-eq-MAP_DISCARD : goal.returns-then-mode-eq-MAP_DISCARD
returns-then-mode-eq-MAP_DISCARD c =
    let w = c.in-MapWrite in
    on_ok_weaker c.discarded.result
    (λ records past s accepted plays bound tells.
    rw (w.is, c.if-mode-eq-MAP_DISCARD.true)
    (tells_records past (objects_of s) (objects_after c.args.n (objects_of s) 0 (calls.MapWrite w.res 0 w.offset w.bytes.now)) c.args.uses.now c.discarded.new.self c.args.n
    (Discards w.res ∷ []) (Discards w.res ∷ []) refl refl (records c.args.n) tells))
    c.discarded.ensures.discarded

pub returns-in_default : goal.returns-in_default
returns-in_default c =
    let d = c.in_default in
    on_ok_weaker c.bound_all-in_default.result
    (λ records past s accepted plays bound tells.
    let plain : IsPlain c.args.call.now = record { buffer = d.not-Buffer; destroy = d.not-Destroy; write = d.not-MapWrite } in
    let o = objects_of s in
    tells_records past o (objects_after c.args.n o 0 (call_view c.args.call.now)) c.args.uses.now c.bound_all-in_default.new.self c.args.n
    (deeds_by o 0 (call_view c.args.call.now)) (map Binds c.args.bound.now)
    (plain_buffers o c.args.n c.args.call.now plain plays)
    (ap (λ (rs : List ResRange). map Binds rs) bound ∙ plain_deeds o c.args.call.now plain plays) records tells)
    c.bound_all-in_default.ensures.bound
