use Rattle.std.proofs.Common.{ℕ, List, ◌++◌, get_or, ap, ◌∙◌, arith}
use Rattle.std.proofs.lemmas.List.{append-nil}
use Rattle.byteorder.specs.Endian.{little_bytes}
use Rattle.call_log.specs.Put.{spell_words}
use Rattle.call_log.proofs.Words.{spell_more}
use Rattle.histogram_log.proofs.words.bytes_of.Goals as goal

pub words-init : goal.words-init
unfolding spell_words
words-init c = c.new-spelt.ensures.items

pub words-preserved : goal.words-preserved
words-preserved c =
    let ws : List ℕ = c.args.words.now in
    let i : ℕ = c.words.word-index in
    c.in_ok-extend_from_slice.ensures.items
    ∙ ap (λ (l : List ℕ). c.words.spelt.items ++ l) (c.write_u32.ensures ∙ append-nil _)
    ∙ ap (λ (l : List ℕ). l ++ little_bytes 4 (get_or ws i 0)) c.words.invariant
    ∙ spell_more ws i 0 (omega arith)
