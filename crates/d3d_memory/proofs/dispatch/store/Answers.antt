use Rattle.std.proofs.Common.{◌≡◌, Option, None, length, ap, sym, ◌∙◌, arith}
use Rattle.dx_types.specs.declared.range.ResRange.{ResRange}
use Rattle.shader_slots.specs.Bound.{words_bound}
use Rattle.d3d_model.specs.Memory.{uavs_shown}
use Rattle.d3d_memory.specs.Shown.{around_one, stored_one}
use Rattle.d3d_memory.proofs.Shows.{length-uavs_shown}
use Rattle.d3d_memory.proofs.Stores.{all_stored, as_many, next_stored, same_at, same_behind, stands_alone}
use Rattle.d3d_memory.proofs.dispatch.store.Goals as goal

pub store_one-requires : goal.store_one-requires
store_one-requires c =
    let shown = uavs_shown (c.args.bindings.now) c.args.declared.now in
    stands_alone c.args.parts shown c.slots.slot c.take_part-part.result c.requires (c.take_part-part.ensures.part ∙ same_at c.slots.slot c.slots.parts c.args.parts None c.slots.invariant.parts)
    ∙ ap around_one (sym c.uav_shown.ensures)

pub slots-preserved : goal.slots-preserved
slots-preserved c =
    let b = c.args.bindings.now in
    let shown = uavs_shown b c.args.declared.now in
    let slots : length b.uavs ≡ 8 = c.has_all_slots.ensures.uavs in
    let many : length shown ≡ length b.uavs = length-uavs_shown b c.args.declared.now in
    let each : length c.args.parts ≡ length shown = as_many c.args.parts shown c.requires in
    record {
      parts = same_behind c.slots.slot c.slots.parts c.take_part-part.new.parts c.args.parts None c.take_part-part.ensures.rest c.slots.invariant.parts;
      stored = next_stored c.slots.slot c.args.memory.now c.slots.memory c.store_one.new.memory shown c.args.parts c.take_part-part.result
          (omega (arith, slots, many, each)) (omega (arith, slots, many))
          (c.take_part-part.ensures.part ∙ same_at c.slots.slot c.slots.parts c.args.parts None c.slots.invariant.parts)
          (c.store_one.ensures ∙ ap (λ (s : Option ResRange). stored_one c.slots.memory s (words_bound c.take_part-part.result)) c.uav_shown.ensures)
          c.slots.invariant.stored;
    }

pub returns : goal.returns
returns c =
    let b = c.args.bindings.now in
    let slots : length b.uavs ≡ 8 = c.has_all_slots.ensures.uavs in
    let many : length (uavs_shown b c.args.declared.now) ≡ length b.uavs = length-uavs_shown b c.args.declared.now in
    all_stored c.slots.slot c.args.memory.now c.slots.memory (uavs_shown b c.args.declared.now) c.args.parts (omega (arith, slots, many)) c.slots.invariant.stored
