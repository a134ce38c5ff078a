use Rattle.std.proofs.Common.{ℕ, List, ◌++◌, get_or, take, sym, ap, ◌∙◌, append_assoc, arith}
use Rattle.std.proofs.lemmas.List.{append-nil}
use Rattle.byteorder.specs.Endian.{little_bytes}
use Rattle.call_log.specs.Put.{spell_words}
use Rattle.call_log.proofs.Words.{spell_more}
use Rattle.call_log.proofs.put.append_words.Goals as goal

pub words-preserved : goal.words-preserved
words-preserved c =
    let ws : List ℕ = c.args.words.now in
    let i : ℕ = c.words.word-index in
    c.in_ok-extend_from_slice.ensures.items
    ∙ ap (λ (l : List ℕ). c.words.buf.items ++ l) (c.write_u32.ensures ∙ append-nil _)
    ∙ ap (λ (l : List ℕ). l ++ little_bytes 4 (get_or ws i 0)) c.words.invariant
    ∙ append_assoc c.args.buf.now.items (spell_words (take i ws)) (little_bytes 4 (get_or ws i 0))
    ∙ ap (λ (l : List ℕ). c.args.buf.now.items ++ l) (spell_more ws i 0 (omega arith))

pub words-init : goal.words-init
unfolding spell_words
words-init c = sym (append-nil c.args.buf.now.items)
