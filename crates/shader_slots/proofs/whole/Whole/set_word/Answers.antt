use Rattle.std.proofs.Common.{◌≡◌, ◌-◌, ℕ, List, length, take, drop, ap, sym, ◌∙◌, arith, length-drop}
use Rattle.std.proofs.Math.ListN.{set}
use Rattle.std.proofs.lemmas.List.{with_items_is, length-take}
use Rattle.base_lemmas.specs.ByteWords.{words_of}
use Rattle.shader_slots.specs.Part.{Part, part_of}
use Rattle.shader_slots.proofs.Parts.{over, length-over, part_over}
use Rattle.shader_slots.proofs.whole.Whole.set_word.Goals as goal

pub returns : goal.returns
returns c =
    let w = c.self.inside in
    let bytes = w.bytes.items in
    let piece = c.set_word.new.bytes in
    let lent = c.slice_mut.ensures.value in
    let fits : length piece ≡ w.to - w.from = omega (arith, ap length lent, length-take (w.to - w.from) (drop w.from bytes), length-drop w.from bytes) in
    let same : length (over bytes piece w.from w.to) ≡ w.bytes.len = length-over bytes piece w.from w.to (omega arith) (omega arith) fits ∙ sym w.bytes.ok.0 in
    let part : List ℕ → Part = λ words. record { before = take w.from bytes; words = words; after = drop w.to bytes } in
    ap (λ b. part_of b w.from w.to) (with_items_is w.bytes (over bytes piece w.from w.to) same)
    ∙ part_over bytes piece w.from w.to (omega arith) (omega arith) fits
    ∙ ap part (c.set_word.ensures ∙ ap (λ b. set (words_of b) c.args.i c.args.value) lent)
    ∙ ap (λ (p : Part). record p { words = set p.words c.args.i c.args.value }) c.self.view_is
