use Rattle.std.proofs.Common.{◌≡◌, List, ℕ, length, ap, sym, ◌∙◌, arith}
use Rattle.base_lemmas.specs.ByteWords.{words_of}
use Rattle.d3d_state.specs.Meaning.{objects_of}
use Rattle.d3d_memory.specs.Shown.{words_one, constant_words, with_constants}
use Rattle.d3d_memory.proofs.Shows.{next_constant, upto_all, length-constants, constants_at}
use Rattle.d3d_memory.proofs.bind.bind_constants.Goals as goal

pub slots-preserved : goal.slots-preserved
slots-preserved c =
    let o = objects_of c.args.objects.now in
    let b = c.args.bindings.now in
    let m = c.args.memory.now in
    let ds = c.args.declared.now in
    let slots : length b.constants ≡ 14 = c.has_all_slots.ensures.constants in
    let long : length (constant_words o m b ds) ≡ length b.constants = length-constants o b ds m in
    next_constant c.slots.slot c.args.slots.now c.slots.slots c.bind_constant.new.self (words_of c.shown_part-part.result.now) (constant_words o m b ds)
    (omega (arith, slots, long)) (omega (arith, c.requires.slots, slots, long)) c.slots.invariant
    (c.shown_part-part.ensures.words ∙ ap (words_one m) c.constant_shown.ensures ∙ sym (constants_at o b ds m c.slots.slot (omega (arith, slots))))
    c.bind_constant.ensures

pub returns : goal.returns
returns c =
    let o = objects_of c.args.objects.now in
    let b = c.args.bindings.now in
    let m = c.args.memory.now in
    let ds = c.args.declared.now in
    let slots : length b.constants ≡ 14 = c.has_all_slots.ensures.constants in
    let long : length (constant_words o m b ds) ≡ length b.constants = length-constants o b ds m in
    c.slots.invariant
    ∙ ap (λ (l : List (List ℕ)). with_constants l c.args.slots.now) (upto_all c.slots.slot (constant_words o m b ds) c.args.slots.now.words.constants (omega (arith, slots, long)) (omega (arith, c.requires.slots)))
