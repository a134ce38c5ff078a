use Rattle.std.proofs.Common.{◌≡◌, List, ℕ, length, ap, sym, ◌∙◌, arith}
use Rattle.base_lemmas.specs.ByteWords.{words_of}
use Rattle.d3d_memory.specs.Shown.{words_one, srv_words, with_reads}
use Rattle.d3d_memory.proofs.Shows.{next_read, upto_all, length-srvs, srvs_at}
use Rattle.d3d_memory.proofs.bind.bind_reads.Goals as goal

pub slots-preserved : goal.slots-preserved
slots-preserved c =
    let b = c.args.bindings.now in
    let m = c.args.memory.now in
    let ds = c.args.declared.now in
    let slots : length b.srvs ≡ 16 = c.has_all_slots.ensures.srvs in
    let long : length (srv_words m b ds) ≡ length b.srvs = length-srvs b ds m in
    next_read c.slots.slot c.args.slots.now c.slots.slots c.bind_read.new.self (words_of c.shown_part-part.result.now) (srv_words m b ds)
    (omega (arith, slots, long)) (omega (arith, c.requires.slots, slots, long)) c.slots.invariant
    (c.shown_part-part.ensures.words ∙ ap (words_one m) c.srv_shown.ensures ∙ sym (srvs_at b ds m c.slots.slot (omega (arith, slots))))
    c.bind_read.ensures

pub returns : goal.returns
returns c =
    let b = c.args.bindings.now in
    let m = c.args.memory.now in
    let ds = c.args.declared.now in
    let slots : length b.srvs ≡ 16 = c.has_all_slots.ensures.srvs in
    let long : length (srv_words m b ds) ≡ length b.srvs = length-srvs b ds m in
    c.slots.invariant
    ∙ ap (λ (l : List (List ℕ)). with_reads l c.args.slots.now) (upto_all c.slots.slot (srv_words m b ds) c.args.slots.now.words.reads (omega (arith, slots, long)) (omega (arith, c.requires.slots)))
