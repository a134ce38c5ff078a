use Rattle.std.proofs.Common.{Option, ℕ, sym, ap, ◌∙◌}
use Rattle.std.specs.Prelude.{slice_index}
use Rattle.spirv_model.specs.Meaning.Bindings.{words_at}
use Rattle.spirv_model.specs.Meaning.Memory.{exchanged}
use Rattle.spirv_run.specs.Held.{memory_of}
use Rattle.spirv_run.specs.Steps.{left_in}
use Rattle.spirv_run.proofs.Exchanging.{exchange_done}
use Rattle.spirv_run.proofs.frame.Frame.exchange.Goals as goal

pub returns-clause-changed : goal.returns-clause-changed
returns-clause-changed c =
    let f = c.args.self.now in
    let s = c.args.slots.now.words in
    let t = c.set_word.new.slots.words in
    let b = c.args.place.0 in
    let i = c.args.place.1 in
    exchange_done f c.set_value.new.self s t c.args.id b i c.word_at-old.result c.in-Some.new c.args.next c.if-not-is_writable.ensures c.word_at-old.ensures (c.set_value.ensures.set t) c.set_word.ensures.words
    ∙ ap (λ (o : Option ℕ). left_in (exchanged c.args.id b i (slice_index (words_at s b) i) o (memory_of f s)) c.args.next) (sym c.in-Some.is)
