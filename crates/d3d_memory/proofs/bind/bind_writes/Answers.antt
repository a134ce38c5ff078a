use Rattle.std.proofs.Common.{◌≡◌, ◌<◌, List, ℕ, Option, length, ap, sym, ◌∙◌, arith}
use Rattle.shader_slots.specs.Bound.{Around, around_bound, words_bound}
use Rattle.d3d_memory.specs.Shown.{around_one, words_one, uav_around, uav_words, with_writes}
use Rattle.d3d_memory.proofs.Shows.{next_write, upto, upto_all, length-uavs, length-around, uavs_at, around_at, part_words, part_around}
use Rattle.d3d_memory.proofs.bind.bind_writes.Goals as goal

pub slots-preserved : goal.slots-preserved
slots-preserved c =
    let b = c.args.bindings.now in
    let m = c.args.memory.now in
    let ds = c.args.declared.now in
    let slots : length b.uavs ≡ 8 = c.has_all_slots.ensures.uavs in
    let long : length (uav_words m b ds) ≡ length b.uavs = length-uavs b ds m in
    let wide : length (uav_around b ds) ≡ length b.uavs = length-around b ds in
    let fits : c.slots.slot < length b.uavs = omega (arith, slots) in
    next_write c.slots.slot c.args.slots.now c.slots.slots c.put.new.slots c.in_ok-part.part (uav_words m b ds) (uav_around b ds)
    (omega (arith, fits, long)) (omega (arith, c.requires.slots, slots, long)) (omega (arith, fits, wide)) (omega (arith, c.requires.parts, slots, wide)) c.slots.invariant
    (ap words_bound c.in_ok-part.ensures ∙ part_words m c.uav_shown.result ∙ ap (words_one m) c.uav_shown.ensures ∙ sym (uavs_at b ds m c.slots.slot fits))
    (ap around_bound c.in_ok-part.ensures ∙ part_around m c.uav_shown.result ∙ ap around_one c.uav_shown.ensures ∙ sym (around_at b ds c.slots.slot))
    c.put.ensures

pub returns : goal.returns
returns c =
    let b = c.args.bindings.now in
    let m = c.args.memory.now in
    let ds = c.args.declared.now in
    let slots : length b.uavs ≡ 8 = c.has_all_slots.ensures.uavs in
    let long : length (uav_words m b ds) ≡ length b.uavs = length-uavs b ds m in
    let wide : length (uav_around b ds) ≡ length b.uavs = length-around b ds in
    c.slots.invariant
    ∙ ap (λ (l : List (List ℕ)). with_writes l (upto c.slots.slot (uav_around b ds) c.args.slots.now.around) c.args.slots.now) (upto_all c.slots.slot (uav_words m b ds) c.args.slots.now.words.writes (omega (arith, slots, long)) (omega (arith, c.requires.slots)))
    ∙ ap (λ (l : List (Option Around)). with_writes (uav_words m b ds) l c.args.slots.now) (upto_all c.slots.slot (uav_around b ds) c.args.slots.now.around (omega (arith, slots, wide)) (omega (arith, c.requires.parts)))
