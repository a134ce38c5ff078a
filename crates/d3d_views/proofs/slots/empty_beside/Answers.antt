use Rattle.std.proofs.Common.{◌++◌, take, drop, None, cond, arith}
use Rattle.std.proofs.lemmas.List.Edits.{map_over_more}
use Rattle.std.proofs.lemmas.List.Elements.{All-same, All-append, All-take, All-drop}
use Rattle.d3d_model.specs.Binding.{is_beside, without}
use Rattle.d3d_views.specs.Limits.{EndFits}
use Rattle.d3d_views.proofs.Unset.{fits_without}
use Rattle.d3d_views.proofs.slots.empty_beside.Goals as goal

pub loop-slot-preserved : goal.loop-slot-preserved
loop-slot-preserved c =
    rw (c.unless_beside.ensures, ← c.slot-item.is)
    (map_over_more (λ s. cond (is_beside c.args.v.now s) None s) c.args.slots.now c.loop-slot.slot-items c.loop-slot.slot-index c.slot-item.result (omega arith) c.loop-slot.invariant c.slot-item.is)

pub returns-clause-end : goal.returns-clause-end
returns-clause-end c = λ fits.
    let i = c.loop-slot.slot-index in
    let slots = c.args.slots.now in
    All-same EndFits c.loop-slot.slot-items (without c.args.v.now (take i slots) ++ drop i slots) c.loop-slot.invariant
    (All-append EndFits (without c.args.v.now (take i slots)) (drop i slots) (fits_without c.args.v.now (take i slots) (All-take EndFits i slots fits)) (All-drop EndFits i slots fits))
