use Rattle.std.proofs.Common.{◌∙◌, ap, take, drop, get_or, refl}
use Rattle.shader_model.specs.declared.opcode.Kind.TheVariants.{Destination, Source, SlotWord}
use Rattle.base_lemmas.specs.ByteWords.{words_of}
use Rattle.shader_model.specs.Items.{more_of, source_more}
use Rattle.shader_tokens.specs.Decoding.{said}
use Rattle.shader_tokens.proofs.Judging.{kind-fault}
use Rattle.shader_tokens.proofs.reader.Reader.operand_fault.Goals as goal

pub returns-in-Destination : goal.returns-in-Destination
returns-in-Destination c =
    let ws = words_of c.args.words.now in
    let more = take (more_of Destination (get_or ws 0 0)) (drop 1 ws) in
    kind-fault (said c.args.self.now) c.args.access c.args.kind Destination c.args.at c.word-first.result more ws c.destination_fault.result c.in-Destination.is c.word-first.ensures refl (c.destination_fault.ensures c.args.access more)

pub returns-in-Source : goal.returns-in-Source
returns-in-Source c =
    let ws = words_of c.args.words.now in
    kind-fault (said c.args.self.now) c.args.access c.args.kind Source c.args.at c.word-first.result (words_of c.front.result.now) ws c.source_fault.result c.in-Source.is c.word-first.ensures
    (c.front.ensures ∙ ap (take c.source_more.result) c.behind.ensures ∙ ap (λ z. take z (drop 1 ws)) (c.source_more.ensures ∙ ap source_more c.word-first.ensures))
    (c.source_fault.ensures c.args.access)

pub returns-in-SlotWord : goal.returns-in-SlotWord
returns-in-SlotWord c =
    let ws = words_of c.args.words.now in
    let more = take (more_of SlotWord (get_or ws 0 0)) (drop 1 ws) in
    kind-fault (said c.args.self.now) c.args.access c.args.kind SlotWord c.args.at c.word-first.result more ws c.slot_word_fault.result c.in-SlotWord.is c.word-first.ensures refl (c.slot_word_fault.ensures more)
